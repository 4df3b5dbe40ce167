use Rattle.std.proofs.Common.{◌≡◌, ◌≤◌, ◌+◌, ◌++◌, length, map}
use Rattle.std.specs.Prelude.{vec_len, vec_capacity}
use Rattle.std.specs.Vec.Iter.{into_iter_items}
use Rattle.dbm_batches.specs.Batches.{task_for}
use Rattle.dbm_batches.proofs.batch.tasks_for.Given as goal

-- the tasks so far, followed by those of the remaining words
abbrev pub invariant-loop-asked : goal.invariant-loop-asked
invariant-loop-asked l = record {
  next : (goal.iterator-loop-asked).can_next l.asked-iterator;
  ends : (goal.iterator-loop-asked).is_finite l.asked-iterator;
  room : length (into_iter_items l.asked-iterator) + vec_len l.tasks ≤ vec_capacity l.tasks;
  tasks : l.tasks.items ++ map (task_for l.program) (into_iter_items l.asked-iterator) ≡ map (task_for l.program) l.fn.words.items;
}
