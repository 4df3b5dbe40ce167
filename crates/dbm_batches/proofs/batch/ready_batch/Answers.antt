use Rattle.std.proofs.Common.{rules, IsSome}
use Rattle.dbm_batches.specs.Batches.{ready_causes, workers_of}
use Rattle.dbm_batches.specs.Causes.{HasWishCause}
use Rattle.dbm_batches.proofs.BatchFaults.{files_before, submitted_fault}
use Rattle.dbm_reports.proofs.Faults.{as_err}
use Rattle.dbm_batches.proofs.batch.ready_batch.Goals as goal

pub returns-in_err-registry-clause-fault : goal.returns-in_err-registry-clause-fault
returns-in_err-registry-clause-fault c =
    let number : IsSome (workers_of c.args.workers.now) = search rules in
    as_err (HasWishCause (ready_causes c.args.form c.args.given.now c.args.workers c.args.is_image)) _ c.from_residual-in_err-registry.ensures.1
    (submitted_fault c.args.form c.args.given.now c.args.workers c.args.is_image c.as_slice.result.now _ number (c.in_ok-database.database, c.in_ok-database.ensures.ok.0) (rw c.as_slice.ensures.value c.in_ok-database.ensures.ok.1) c.in_err-registry.ensures.fault)

pub returns-in_err-database-clause-fault : goal.returns-in_err-database-clause-fault
returns-in_err-database-clause-fault c =
    let number : IsSome (workers_of c.args.workers.now) = search rules in
    as_err (HasWishCause (ready_causes c.args.form c.args.given.now c.args.workers c.args.is_image)) _ c.from_residual.ensures.1
    (files_before c.args.form c.args.given.now c.args.workers c.args.is_image _ number c.in_err-database.ensures.fault)
