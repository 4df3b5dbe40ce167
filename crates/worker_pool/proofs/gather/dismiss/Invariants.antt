use Rattle.std.proofs.Common.{◌≡◌, ◌≤◌, ◌+◌, ◌++◌, length}
use Rattle.std.specs.Prelude.{map, vec_len, vec_capacity}
use Rattle.std.specs.Vec.Iter.{into_iter_items}
use Rattle.store_shared.specs.Shared.{calls_left}
use Rattle.worker_pool.proofs.gather.dismiss.Given as goal

abbrev pub invariant-loop-worker : goal.invariant-loop-worker
invariant-loop-worker g l = record {
  next : (goal.iterator-loop-worker g).can_next l.worker-iterator;
  ends : (goal.iterator-loop-worker g).is_finite l.worker-iterator;
  lists_room : length (into_iter_items l.worker-iterator) + vec_len l.lists ≤ vec_capacity l.lists;
  calls_room : length (into_iter_items l.worker-iterator) + vec_len l.calls ≤ vec_capacity l.calls;
  lists : map (λ list. into_iter_items list) l.lists.items ++ map (λ x. x.replies.items) (into_iter_items l.worker-iterator) ≡ map (λ x. x.replies.items) l.fn.crew.items;
  calls : l.calls.items ++ map (λ x. calls_left x.session) (into_iter_items l.worker-iterator) ≡ map (λ x. calls_left x.session) l.fn.crew.items;
}
