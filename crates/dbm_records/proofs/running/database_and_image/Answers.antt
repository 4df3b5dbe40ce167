use Rattle.std.proofs.Common.{refl}
use Rattle.dbm_reports.specs.Causes.{IsCaused}
use Rattle.dbm_records.specs.Running.{program_causes}
use Rattle.dbm_reports.specs.Databases.{CanBeOpened}
use Rattle.dbm_reports.proofs.Faults.{as_err}
use Rattle.dbm_records.proofs.RunFaults.{opened_fault, same_opened}
use Rattle.dbm_records.proofs.running.database_and_image.Goals as goal

pub returns-in_err-image-clause-fault : goal.returns-in_err-image-clause-fault
returns-in_err-image-clause-fault c =
    let opens : CanBeOpened c.args.form c.args.given.now = (c.in_ok-database.database, same_opened c.args.form c.args.given.now _ c.in_ok-database.database refl refl c.in_ok-database.ensures.ok) in
    as_err (IsCaused (program_causes c.args.form c.args.given.now c.args.is_image)) _ c.from_residual-in_err-image.ensures.1
    (opened_fault c.args.form c.args.given.now c.args.is_image _ opens (rw (← c.as_slice.ensures.value) c.in_err-image.ensures.fault))
