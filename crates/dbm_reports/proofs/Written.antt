-- From a report that was written, or failed to be, to the result of a subcommand.
use Rattle.std.proofs.Common.{◌≡◌, ℕ, List, Option, sym, subst}
use Rattle.sdbm_addr.specs.Database.{Database}
use Rattle.dbm_reports.specs.Served.{IsPrinted, IsUnserved}
use Rattle.dbm_reports.specs.declared.serving.Unserved.{Unserved}
use Rattle.dbm_reports.specs.declared.serving.Unserved.TheVariants.{Unreported, Write, TooLong}
use Rattle.dbm_reports.specs.declared.report.Report.{Report}

pub printed_of : (Comes : Report → Type 0) (report : Report) (old new : Option (List ℕ)) (status : ℕ) (database : Option Database) → Comes report → IsPrinted (λ told. told ≡ report) old new status database
    → IsPrinted Comes old new status database
printed_of Comes report old new status database comes is = record {
  report = is.report;
  comes = subst Comes (sym is.comes) comes;
  printed = is.printed;
  status_is = is.status_is;
  database_is = is.database_is;
  short = is.short;
}

pub unserved_of : {F : Type 0} (Comes : Report → Type 0) (causes : F → Type 0) (report : Report) (old new : Option (List ℕ)) (fault : Unserved F) → Comes report → IsUnserved (λ told. told ≡ report) (λ (f : F). ⊥) old new fault
    → IsUnserved Comes causes old new fault
unserved_of Comes causes report old new (Unreported fault) comes is = absurd is.0
unserved_of Comes causes report old new Write comes is = record { report = is.report; comes = subst Comes (sym is.comes) comes; part = is.part }
unserved_of Comes causes report old new TooLong comes is = record {
  report = is.report;
  comes = subst Comes (sym is.comes) comes;
  printed = is.printed;
  database = is.database;
  is = is.is;
  sound = is.sound;
  long = is.long;
}
