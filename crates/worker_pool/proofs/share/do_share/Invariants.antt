use Rattle.std.proofs.Common.{◌≡◌, ◌-◌, length}
use Rattle.std.specs.Prelude.{◌%◌}
use Rattle.worker_pool.specs.Groups.{HasTried}
use Rattle.worker_pool.proofs.share.do_share.Given as goal

abbrev pub invariant-loop-at : goal.invariant-loop-at
invariant-loop-at g l = record {
  its_own : l.at % l.workers ≡ l.worker;
  tried : HasTried l.registry.programs l.tasks l.workers l.worker l.at l.session l.replies.items l.first;
  size : l.session.size ≡ l.fn.session.size;
}

abbrev pub decreases-loop-at : goal.decreases-loop-at
decreases-loop-at g l = length l.tasks - l.at
