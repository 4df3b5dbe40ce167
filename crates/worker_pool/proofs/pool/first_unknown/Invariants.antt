use Rattle.std.specs.Prelude.{take}
use Rattle.worker_pool.specs.Tasks.{AreTasksKnown}
use Rattle.worker_pool.proofs.pool.first_unknown.Given as goal

abbrev pub invariant-loop-at : goal.invariant-loop-at
invariant-loop-at g l = AreTasksKnown l.registry.programs (take l.at l.tasks)
