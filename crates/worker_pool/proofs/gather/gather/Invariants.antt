use Rattle.std.proofs.Common.{◌≡◌, ◌≤◌, length}
use Rattle.std.specs.Prelude.{vec_capacity, vec_len}
use Rattle.std.specs.Vec.Iter.{into_iter_items}
use Rattle.worker_pool.proofs.GatherLemmas.{AreTaken}
use Rattle.worker_pool.proofs.gather.gather.Given as goal

abbrev pub invariant-loop-at : goal.invariant-loop-at
invariant-loop-at g l = record {
  len : vec_len l.replies ≡ l.at;
  count : length l.replies.items ≡ l.at;
  room : length l.tasks ≤ vec_capacity l.replies;
  taken : AreTaken into_iter_items (length l.initial.lists) l.replies.items l.lists l.initial.lists;
}
