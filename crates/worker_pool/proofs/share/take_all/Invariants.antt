use Rattle.std.proofs.Common.{◌≡◌, ◌<◌, ◌≤◌, ◌+◌, length}
use Rattle.std.specs.Prelude.{◌%◌, vec_len, vec_capacity}
use Rattle.std.specs.Vec.Iter.{into_iter_items}
use Rattle.worker_pool.specs.Groups.{HasCalled}
use Rattle.worker_pool.proofs.share.take_all.Given as goal

abbrev pub invariant-loop-outcome : goal.invariant-loop-outcome
invariant-loop-outcome g l = record {
  next : (goal.iterator-loop-outcome g).can_next l.outcome-iterator;
  ends : (goal.iterator-loop-outcome g).is_finite l.outcome-iterator;
  within : l.at < length l.tasks;
  its_own : l.at % l.workers ≡ l.fn.at % l.workers;
  moved : l.fn.at ≤ l.at;
  some : length (into_iter_items l.outcome-iterator) ≡ 0 → l.fn.at < l.at;
  room : length (into_iter_items l.outcome-iterator) + vec_len l.replies ≤ vec_capacity l.replies;
  called : HasCalled l.registry.programs l.tasks l.workers (l.fn.at % l.workers) l.at (into_iter_items l.outcome-iterator) l.session l.replies.items l.first;
}
