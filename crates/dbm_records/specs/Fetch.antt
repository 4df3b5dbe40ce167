-- The arguments of `fetch`, its possible reports, and the conditions of its faults.
use Rattle.std.specs.Prelude.{◌≡◌, ℕ, Bool, true, false, List, [], ◌∷◌, codes, Option, Some, None}
use Rattle.clap.specs.Words.{Shape, Row}
use Rattle.dbm_args.specs.Given.{IsForm, IsNotation, IsWord, is_given}
use Rattle.dbm_records.specs.declared.fetch.Fetch.{Fetch}
use Rattle.std.specs.declared.alloc.Global.{Global}
use Rattle.dbm_script.specs.declared.notations.Notation.{Notation}
use Rattle.dbm_reports.specs.declared.databases.Given.{Given}
use Rattle.dbm_records.specs.Commands.{command_causes, OnCommand, fetch_words, value_in}
use Rattle.dbm_reports.specs.Known.{Known}
use Rattle.dbm_reports.specs.Words.{word_asked}
use Rattle.dbm_reports.specs.Reports.{Looks, answer_status}
use Rattle.dbm_reports.specs.declared.report.Report.{Report}
use Rattle.dbm_script.specs.Answers.{IsAnswerTo}
use Rattle.dbm_script.specs.declared.answers.Answer.{Answer}
use Rattle.sdbm_addr.specs.Database.{Database}
use Rattle.store_cmd.specs.declared.Command.{Command}
use Rattle.dbm_args.specs.CommandLine.{flag, required_word, subcommand, with_alias, reading_in}
use Rattle.dbm_args.specs.Heads.{head_on}
use Rattle.dbm_args.specs.declared.options.Head.{Head}

abbrev pub fetch : Shape
fetch = with_alias (codes "get") (subcommand (codes "fetch") (required_word (codes "BASE") ∷ required_word (codes "KEY") ∷ flag (codes "raw") ∷ flag (codes "raw-key") ∷ flag (codes "quick") ∷ reading_in))

abbrev pub FetchAsks : List Row → Fetch → Type 0
FetchAsks rows fetch =
    IsWord (codes "BASE") rows fetch.base × (IsForm rows fetch.form × (IsNotation rows fetch.notation × (IsWord (codes "KEY") rows fetch.key × ((fetch.raw ≡ is_given (codes "raw") rows) × (fetch.raw_key ≡ is_given (codes "raw-key") rows)))))

-- the bytes of a value; no bytes if there is no value
abbrev pub bytes_or_none : Option (List ℕ) → List ℕ
bytes_or_none None = []
bytes_or_none (Some bytes) = bytes

-- the report prints only the bytes of the value that the command finds
pub record ShowsValue (before : Database) (command : Command Global) (report : Report) : Type 0 where
  pub answer : Answer Global
  pub after : Database
  pub answers : IsAnswerTo Global before command answer after
  pub text_is : report.text.items ≡ bytes_or_none (value_in answer)
  pub status_is : report.status ≡ answer_status answer
  pub written : report.database ≡ None

-- the report prints the answer as a line, or only the bytes of the value
abbrev pub FetchShows : Bool → Notation Global → Database → Command Global → Report → Type 0
FetchShows false n before command report = Looks n before command report
FetchShows true n before command report = ShowsValue before command report

abbrev pub fetch_in : Notation Global → Fetch → Given → Known
fetch_in n fetch given = record {
  reports = λ report. OnCommand n fetch.form given (fetch_words (word_asked fetch.raw_key n fetch.key.now)) (λ db command. FetchShows fetch.raw n db command report);
  causes = command_causes n fetch.form given (fetch_words (word_asked fetch.raw_key n fetch.key.now));
}

-- the head of the subcommand: its files and its notation
abbrev pub fetch_head : Fetch → Head
fetch_head fetch = record (head_on (Some fetch.base)) { notation = fetch.notation }
