-- The output, the status and the database to save after a subcommand was served.
use Rattle.std.specs.Prelude.{◌≡◌, ℕ, List, Option, Some}
use Rattle.std.specs.Io.KnownBytes.{Appends, Keeps}
use Rattle.sdbm_addr.specs.Database.{Database, IsDatabase}
use Rattle.byte_text.specs.Writing.{WritesPart}
use Rattle.dbm_reports.specs.declared.serving.Unserved.{Unserved}
use Rattle.dbm_reports.specs.declared.serving.Unserved.TheVariants.{Unreported, Write, TooLong}
use Rattle.dbm_reports.specs.declared.report.Report.{Report}
use Rattle.dbm_reports.specs.Databases.{IsPagTooLong, MayBeWritten}

-- The text of a report was written. The status and the database are those of the report.
pub record IsPrinted (reports : Report → Type 0) (old new : Option (List ℕ)) (status : ℕ) (database : Option Database) : Type 0 where
  pub report : Report
  pub comes : reports report
  pub printed : Appends old new report.text.items
  pub status_is : status ≡ report.status
  pub database_is : database ≡ report.database
  pub short : MayBeWritten database

-- a prefix of the text was written, but not all
pub record WasCutShort (reports : Report → Type 0) (old new : Option (List ℕ)) : Type 0 where
  pub report : Report
  pub comes : reports report
  pub part : WritesPart old new report.text.items

-- the whole text was written, but the `.pag` of the database to save would be too long
pub record WasTooLong (reports : Report → Type 0) (old new : Option (List ℕ)) : Type 0 where
  pub report : Report
  pub comes : reports report
  pub printed : Appends old new report.text.items
  pub database : Database
  pub is : report.database ≡ Some database
  pub sound : IsDatabase database
  pub long : IsPagTooLong database

-- A fault of the report satisfies its condition, and nothing was written. After `Write`, only a prefix of the text was written; after
-- `TooLong`, the whole text.
abbrev pub IsUnserved : {F : Type 0} → (Report → Type 0) → (F → Type 0) → Option (List ℕ) → Option (List ℕ) → Unserved F → Type 0
IsUnserved reports causes old new (Unreported fault) = causes fault × Keeps old new
IsUnserved reports causes old new Write = WasCutShort reports old new
IsUnserved reports causes old new TooLong = WasTooLong reports old new
