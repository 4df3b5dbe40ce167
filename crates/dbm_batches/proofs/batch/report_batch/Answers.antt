use Rattle.std.proofs.lemmas.Result.{IfErr-weaker, IfOk-weaker}
use Rattle.dbm_batches.specs.Batches.{DoesTasks, batch_causes}
use Rattle.dbm_batches.specs.Causes.{HasWishCause}
use Rattle.dbm_batches.proofs.BatchFaults.{known_tasks, ran_fault, unread_fault}
use Rattle.dbm_reports.proofs.Faults.{as_err}
use Rattle.dbm_batches.proofs.batch.report_batch.Goals as goal

pub returns-in_err-input-clause-fault : goal.returns-in_err-input-clause-fault
returns-in_err-input-clause-fault g c =
    as_err (HasWishCause (batch_causes c.args.notation.now c.args.asked.form c.args.given.now c.args.asked.workers c.args.asked.image c.args.asked.time (g.R.Read.remaining c.args.reader.now))) _ c.from_residual-in_err-input.ensures.1
    (unread_fault c.args.notation.now c.args.asked.form c.args.given.now c.args.asked.workers c.args.asked.image c.args.asked.time _ c.in_ok-batch.batch _ c.in_ok-batch.ensures.ok c.in_err-input.ensures.fault)

pub returns-clause-ok : goal.returns-clause-ok
returns-clause-ok g c =
    IfOk-weaker c.run_batch.result _ _
    (λ report does. (
      c.in_ok-batch.batch,
      (
        c.in_ok-batch.ensures.ok,
        known_tasks c.args.notation.now c.args.asked.time c.in_ok-batch.batch (g.R.Read.remaining c.args.reader.now) c.as_slice.result.now (λ tasks. DoesTasks c.args.notation.now c.in_ok-batch.batch tasks report) (rw c.as_slice.ensures.value c.in_ok-input.ensures.ok) does,
      ),
    ))
    c.run_batch.ensures.ok

pub returns-clause-fault : goal.returns-clause-fault
returns-clause-fault g c =
    IfErr-weaker c.run_batch.result _ _
    (λ fault bad. ran_fault c.args.notation.now c.args.asked.form c.args.given.now c.args.asked.workers c.args.asked.image c.args.asked.time (g.R.Read.remaining c.args.reader.now) c.as_slice.result.now c.in_ok-batch.batch fault (rw c.as_slice.ensures.value c.in_ok-input.ensures.ok) c.in_ok-batch.ensures.ok bad)
    c.run_batch.ensures.fault
