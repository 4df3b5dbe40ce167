-- The result of a subcommand as the outcome of a request.
use Rattle.std.proofs.Common.{◌≡◌, ℕ, List, Option, Some, None, Bool, true, false, is_some, Result, Ok, Err, IfOk, IfErr, refl, sym, subst}
use Rattle.std.specs.Io.KnownBytes.{Keeps}
use Rattle.std.specs.declared.alloc.Global.{Global}
use Rattle.dbm_script.specs.declared.notations.Notation.{Notation}
use Rattle.dbm_reports.specs.Causes.{IsCaused}
use Rattle.dbm_reports.specs.Known.{Known}
use Rattle.dbm_reports.specs.Served.{IsPrinted, IsUnserved}
use Rattle.dbm_reports.specs.declared.fault.ReportFault.{ReportFault}
use Rattle.dbm_reports.specs.declared.serving.Outcome.{Outcome}
use Rattle.dbm_reports.specs.declared.serving.Unserved.{Unserved}
use Rattle.dbm_reports.specs.declared.serving.Unserved.TheVariants as unserved
use Rattle.dbm_dump.specs.Causes.{DumpKnown, HasDumpCause}
use Rattle.dbm_dump.specs.declared.copy_fault.CopyFault.{CopyFault}
use Rattle.dbm_messages.specs.Faults.{copy_fault, report_fault}
use Rattle.dbm_messages.specs.declared.fault.ServeFault.{ServeFault}
use Rattle.dbm_messages.specs.declared.fault.ServeFault.TheVariants.{FileTooLong, Write}
use Rattle.dbm_batches.specs.Causes.{HasWishCause}
use Rattle.dbm_tool.specs.Outcomes.{IsOutcome, IsUnservedBy, outcome_by}
use Rattle.dbm_tool.specs.Services.{Service, dumping, noted, reporting}
use Rattle.dbm_tool.proofs.Faults.{raised, raised_dump}

pub keeps_all : (known : Option (List ℕ)) → Keeps known known
keeps_all None = tt
keeps_all (Some bytes) = refl

-- a fault before the text
early : (service : Service) (old new : Option (List ℕ)) (fault : ServeFault) → HasWishCause service.causes fault → Keeps old new → IsUnservedBy service old new fault
early service old new Write caused keeps = absurd caused
early service old new FileTooLong caused keeps = absurd caused
early service old new _ caused keeps = (caused, keeps)

-- the outcome of a fault
pub failed_by : (service : Service) (writes reads : Bool) (input left old new : Option (List ℕ)) (fault : ServeFault) → IsUnservedBy service old new fault → (reads ≡ false → left ≡ input)
    → IsOutcome service writes reads input left old new (Err fault)
failed_by service writes reads input left old new fault bad unread = record { served = tt; fault = bad; unread = unread; database = tt }

-- the outcome of a fault before the text
pub failed_early : (service : Service) (writes reads : Bool) (input left old new : Option (List ℕ)) (fault : ServeFault) → HasWishCause service.causes fault → Keeps old new → (reads ≡ false → left ≡ input)
    → IsOutcome service writes reads input left old new (Err fault)
failed_early service writes reads input left old new fault caused keeps unread = failed_by service writes reads input left old new fault (early service old new fault caused keeps) unread

turned : (service : Service) (writes reads : Bool) (input left old new : Option (List ℕ)) {F : Type 0} (f : F → ServeFault) (causes : F → Type 0) (came : Result Outcome (Unserved F))
    → ((fault : F) → causes fault → HasWishCause service.causes (f fault))
    → IfOk came (λ (served : Outcome). IsPrinted service.reports old new served.status served.database) → IfErr came (IsUnserved service.reports causes old new)
    → IfOk came (λ (served : Outcome). is_some served.database ≡ writes) → (reads ≡ false → left ≡ input) → IsOutcome service writes reads input left old new (outcome_by f came)
turned service writes reads input left old new f causes (Ok outcome) lift ok err gives unread = record { served = ok; fault = tt; unread = unread; database = gives }
turned service writes reads input left old new f causes (Err (unserved.Unreported fault)) lift ok err gives unread = failed_early service writes reads input left old new (f fault) (lift fault err.0) err.1 unread
turned service writes reads input left old new f causes (Err unserved.Write) lift ok err gives unread = failed_by service writes reads input left old new Write err unread
turned service writes reads input left old new f causes (Err unserved.TooLong) lift ok err gives unread = failed_by service writes reads input left old new FileTooLong err unread

-- a subcommand other than a batch
pub reported : (known : Known) (writes reads : Bool) (input left old new : Option (List ℕ)) (came : Result Outcome (Unserved ReportFault)) (outcome : Result Outcome ServeFault) → outcome ≡ outcome_by report_fault came
    → IfOk came (λ (served : Outcome). IsPrinted known.reports old new served.status served.database) → IfErr came (IsUnserved known.reports (IsCaused known.causes) old new)
    → IfOk came (λ (served : Outcome). is_some served.database ≡ writes) → (reads ≡ false → left ≡ input) → IsOutcome (reporting known) writes reads input left old new outcome
reported known writes reads input left old new came outcome is ok err gives unread =
    subst (λ (o : Result Outcome ServeFault). IsOutcome (reporting known) writes reads input left old new o) (sym is)
    (turned (reporting known) writes reads input left old new report_fault (IsCaused known.causes) came (λ fault caused. raised (reporting known).causes fault caused) ok err gives unread)

-- `dump` or `load`
pub dumped : (known : DumpKnown) (writes reads : Bool) (input left old new : Option (List ℕ)) (came : Result Outcome (Unserved CopyFault)) (outcome : Result Outcome ServeFault) → outcome ≡ outcome_by copy_fault came
    → IfOk came (λ (served : Outcome). IsPrinted known.reports old new served.status served.database) → IfErr came (IsUnserved known.reports (HasDumpCause known.causes) old new)
    → IfOk came (λ (served : Outcome). is_some served.database ≡ writes) → (reads ≡ false → left ≡ input) → IsOutcome (dumping known) writes reads input left old new outcome
dumped known writes reads input left old new came outcome is ok err gives unread =
    subst (λ (o : Result Outcome ServeFault). IsOutcome (dumping known) writes reads input left old new o) (sym is)
    (turned (dumping known) writes reads input left old new copy_fault (HasDumpCause known.causes) came (λ fault caused. raised_dump known fault caused) ok err gives unread)

-- a batch, which reads standard input
pub batched : (service : Service) (writes : Bool) (input left old new : Option (List ℕ)) (came : Result Outcome (Unserved ServeFault)) (outcome : Result Outcome ServeFault) → outcome ≡ outcome_by (λ fault. fault) came
    → IfOk came (λ (served : Outcome). IsPrinted service.reports old new served.status served.database) → IfErr came (IsUnserved service.reports (HasWishCause service.causes) old new)
    → IfOk came (λ (served : Outcome). is_some served.database ≡ writes) → IsOutcome service writes true input left old new outcome
batched service writes input left old new came outcome is ok err gives =
    subst (λ (o : Result Outcome ServeFault). IsOutcome service writes true input left old new o) (sym is)
    (turned service writes true input left old new (λ fault. fault) (HasWishCause service.causes) came (λ fault caused. caused) ok err gives (λ never. cc))

-- an outcome in the requested notation
pub noted_outcome : (o : Option (Notation Global)) (n : Notation Global) (known : Notation Global → Service) (writes reads : Bool) (input left old new : Option (List ℕ)) (outcome : Result Outcome ServeFault)
    → o ≡ Some n → IsOutcome (known n) writes reads input left old new outcome → IsOutcome (noted o known) writes reads input left old new outcome
noted_outcome o n known writes reads input left old new outcome is h = subst (λ (m : Option (Notation Global)). IsOutcome (noted m known) writes reads input left old new outcome) (sym is) h
