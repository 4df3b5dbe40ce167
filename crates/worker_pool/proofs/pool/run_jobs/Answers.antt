use Rattle.std.proofs.Common.{inl, inr}
use Rattle.std.proofs.lemmas.Result.{IfErr-weaker}
use Rattle.worker_pool.specs.Pool.{IsPoolFault, IsUnfinished}
use Rattle.worker_pool.proofs.pool.run_jobs.Goals as goal

pub returns-in-Ok-clause-err : goal.returns-in-Ok-clause-err
returns-in-Ok-clause-err g c =
    IfErr-weaker c.run_ready.result
    (λ refused. IsUnfinished c.args.store.now.size c.args.registry.now.programs c.args.tasks.now c.args.workers refused.0 refused.1.items)
    (λ refused. IsPoolFault c.args.store.now.size c.args.registry.now.programs c.args.tasks.now c.args.workers refused.0 refused.1.items)
    (λ refused fault. inr (c.in-Ok.ensures.begun, fault)) c.run_ready.ensures.err

pub returns-in-Err-clause-err : goal.returns-in-Err-clause-err
returns-in-Err-clause-err g c = inl (c.in-Err.ensures.err, c.new.ensures.items)
