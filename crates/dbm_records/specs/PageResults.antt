-- A command that needs only the page of its key, and its result on the whole database.
use Rattle.std.specs.Prelude.{◌≡◌, ℕ, List, Option}
use Rattle.std.specs.declared.alloc.Global.{Global}
use Rattle.sdbm_addr.specs.declared.KeyBytes.{KeyBytes}
use Rattle.sdbm_addr.specs.declared.PageSize.{PageSize}
use Rattle.sdbm_addr.specs.Database.{Database}
use Rattle.sdbm_saves.specs.Saves.{AreFilesFor}
use Rattle.sdbm_saves.specs.declared.part.Part.{Part}
use Rattle.store_parts.specs.Parts.{AreWhole, SavesAs}
use Rattle.dbm_script.specs.declared.notations.Notation.{Notation}
use Rattle.dbm_reports.specs.declared.report.Report.{Report}
use Rattle.dbm_records.specs.declared.page_request.PageRequest.{PageRequest}
use Rattle.dbm_records.specs.declared.page_result.PageResult.{PageResult}
use Rattle.dbm_records.specs.PageRequests.{AnswersRequest}

-- the report: its text, its status, its notes, and the database that has to be saved
abbrev pub report_with : PageResult → Option Database → Report
report_with quick after = record { text = quick.text; status = quick.status; database = after; notes = quick.notes }

-- The request on the whole database has the same text and the same status. If the files are as a save leaves them, the plan makes them the
-- files of the database after the request.
pub record PageComesTo (n : Notation Global) (asked : PageRequest) (quick : PageResult) (db : Database) (pag dir : List ℕ) : Type 0 where
  pub after : Option Database
  pub answers : AnswersRequest n asked db (report_with quick after)
  pub saves : AreFilesFor db pag dir → SavesAs after quick.plan pag dir

-- `PageComesTo` holds for all whole files that contain the part that was read
abbrev pub IsPageResult : Notation Global → PageRequest → Part → KeyBytes → PageSize → PageResult → Type 0
IsPageResult n asked part kind size quick =
    (db : Database) (pag : List ℕ) → db.kind ≡ kind → db.size ≡ size → AreWhole part quick.numbers.items db pag → PageComesTo n asked quick db pag part.directory.now
