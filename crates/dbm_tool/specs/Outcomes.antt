-- The output and the database to save, after a request was served or failed.
use Rattle.std.specs.Prelude.{◌≡◌, ℕ, Bool, false, List, Option, IfOk, IfErr, Result, Ok, Err, is_some}
use Rattle.std.specs.Io.KnownBytes.{Keeps}
use Rattle.sdbm_addr.specs.Database.{Database}
use Rattle.dbm_command_line.specs.declared.wish.Wish.{Wish}
use Rattle.dbm_reports.specs.Served.{IsPrinted, WasCutShort, WasTooLong}
use Rattle.dbm_reports.specs.declared.databases.Given.{Given}
use Rattle.dbm_reports.specs.declared.serving.Outcome.{Outcome}
use Rattle.dbm_reports.specs.declared.serving.Unserved.{Unserved}
use Rattle.dbm_reports.specs.declared.serving.Unserved.TheVariants as unserved
use Rattle.dbm_messages.specs.declared.fault.ServeFault.{ServeFault}
use Rattle.dbm_messages.specs.declared.fault.ServeFault.TheVariants.{FileTooLong, Write}
use Rattle.dbm_batches.specs.Causes.{HasWishCause}
use Rattle.dbm_tool.specs.Services.{Service, service_for}

-- A request was served: the text of its report was written, and the status and the database to save are those of the report.
abbrev pub IsRequestServed : Wish → Given → Option (List ℕ) → Option (List ℕ) → Option (List ℕ) → ℕ → Option Database → Type 0
IsRequestServed wish given input old new status database = IsPrinted (service_for wish given input).reports old new status database

-- After `Write`, only a prefix of the text was written; after `FileTooLong`, the whole text. Any other fault satisfies its condition, and
-- nothing was written.
abbrev pub IsUnservedBy : Service → Option (List ℕ) → Option (List ℕ) → ServeFault → Type 0
IsUnservedBy service old new Write = WasCutShort service.reports old new
IsUnservedBy service old new FileTooLong = WasTooLong service.reports old new
IsUnservedBy service old new fault = HasWishCause service.causes fault × Keeps old new

-- a request failed with this fault
abbrev pub IsRequestUnserved : Wish → Given → Option (List ℕ) → Option (List ℕ) → Option (List ℕ) → ServeFault → Type 0
IsRequestUnserved wish given input old new fault = IsUnservedBy (service_for wish given input) old new fault

-- All facts about the outcome of a request: the output and the database to save, or the fault. Standard input is unread unless the request
-- reads it.
pub record IsOutcome (service : Service) (writes reads : Bool) (input left old new : Option (List ℕ)) (came : Result Outcome ServeFault) : Type 0 where
  pub served : IfOk came (λ outcome. IsPrinted service.reports old new outcome.status outcome.database)
  pub fault : IfErr came (IsUnservedBy service old new)
  pub unread : reads ≡ false → left ≡ input
  pub database : IfOk came (λ outcome. is_some outcome.database ≡ writes)

-- the outcome of a request, given that of its subcommand; f converts the fault
abbrev pub outcome_by : {F : Type 0} → (F → ServeFault) → Result Outcome (Unserved F) → Result Outcome ServeFault
outcome_by f (Ok outcome) = Ok outcome
outcome_by f (Err (unserved.Unreported fault)) = Err (f fault)
outcome_by f (Err unserved.Write) = Err Write
outcome_by f (Err unserved.TooLong) = Err FileTooLong
