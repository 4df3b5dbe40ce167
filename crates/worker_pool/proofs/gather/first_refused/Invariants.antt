use Rattle.std.specs.Prelude.{take, map}
use Rattle.worker_pool.specs.Shares.{IsFirstIn}
use Rattle.worker_pool.proofs.gather.first_refused.Given as goal

abbrev pub invariant-loop-worker : goal.invariant-loop-worker
invariant-loop-worker g l = IsFirstIn (map (λ x. x.refused) (take l.worker-index l.crew)) l.first
