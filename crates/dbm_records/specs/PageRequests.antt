-- A request that may need only the page of its key, and its result on a database.
use Rattle.std.specs.Prelude.{◌≡◌, ℕ, List, Option, None}
use Rattle.std.specs.declared.alloc.Global.{Global}
use Rattle.sdbm_addr.specs.Database.{Database}
use Rattle.store_moves.specs.Works.{key_of, HasKey}
use Rattle.dbm_script.specs.declared.notations.Notation.{Notation}
use Rattle.dbm_args.specs.declared.options.Form.{Form}
use Rattle.dbm_reports.specs.declared.report.Report.{Report}
use Rattle.dbm_reports.specs.declared.databases.Given.{Given}
use Rattle.dbm_reports.specs.Databases.{IsOpened}
use Rattle.dbm_reports.specs.Reports.{ChangesFiles}
use Rattle.dbm_records.specs.Fetch.{FetchShows, fetch_in}
use Rattle.dbm_records.specs.Store.{store_in}
use Rattle.dbm_records.specs.Delete.{delete_in}
use Rattle.dbm_records.specs.Running.{RunsImage}
use Rattle.dbm_records.specs.Run.{run_in}
use Rattle.dbm_records.specs.declared.fetch.Fetch.{Fetch}
use Rattle.dbm_records.specs.declared.store.Store.{Store}
use Rattle.dbm_records.specs.declared.delete.Delete.{Delete}
use Rattle.dbm_records.specs.declared.run.Run.{Run}
use Rattle.dbm_records.specs.declared.page_request.PageRequest.{PageRequest}
use Rattle.dbm_records.specs.declared.page_request.PageRequest.TheVariants as asked

-- the request is about a key
abbrev pub IsKeyed : PageRequest → Type 0
IsKeyed (asked.Fetch command raw) = HasKey command
IsKeyed (asked.Change command) = HasKey command
IsKeyed (asked.Run words program expect) = Unit {0}

-- the key of a request
abbrev pub request_key : PageRequest → List ℕ
request_key (asked.Fetch command raw) = key_of command
request_key (asked.Change command) = key_of command
request_key (asked.Run words program expect) = words.key

-- the result of a request on a database
abbrev pub AnswersRequest : Notation Global → PageRequest → Database → Report → Type 0
AnswersRequest n (asked.Fetch command raw) db report = FetchShows raw n db command report
AnswersRequest n (asked.Change command) db report = ChangesFiles n db command None report
AnswersRequest n (asked.Run words program expect) db report = RunsImage n db words expect program.items report

-- The request means the same as the arguments of a subcommand. It is about a key. `comes` says which reports the subcommand allows on the
-- files; it allows each report of the request on the database of the files.
pub record IsMeant (form : Form) (file : List ℕ) (n : Notation Global) (comes : Given → Report → Type 0) (asked : PageRequest) : Type 0 where
  pub keyed : IsKeyed asked
  pub same : (given : Given) (db : Database) (report : Report) → given.file.items ≡ file → IsOpened form given db → AnswersRequest n asked db report → comes given report

-- the reports that each subcommand allows on the files; a store must not depend on standard input
abbrev pub FetchComes : Notation Global → Fetch → Given → Report → Type 0
FetchComes n fetch given report = (fetch_in n fetch given).reports report

abbrev pub StoreComes : Notation Global → Store → Given → Report → Type 0
StoreComes n store given report = (input : Option (List ℕ)) → (store_in n store given input).reports report

abbrev pub DeleteComes : Notation Global → Delete → Given → Report → Type 0
DeleteComes n delete given report = (delete_in n delete given).reports report

abbrev pub RunComes : Notation Global → Run → Given → Report → Type 0
RunComes n run given report = (run_in n run given).reports report
