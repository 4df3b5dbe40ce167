use Rattle.std.proofs.Common.{◌≤◌, ◌+◌, length}
use Rattle.std.specs.Prelude.{vec_len, vec_capacity}
use Rattle.std.specs.Vec.Iter.{into_iter_items}
use Rattle.store_shared.specs.Shared.{session_of}
use Rattle.store_shared.proofs.Groups.{SoFar}
use Rattle.store_shared.proofs.grouping.make_all.Given as goal

abbrev pub invariant-loop-command : goal.invariant-loop-command
invariant-loop-command g l = record {
  next : (goal.iterator-loop-command g).can_next l.command-iterator;
  ends : (goal.iterator-loop-command g).is_finite l.command-iterator;
  entries_room : length (into_iter_items l.command-iterator) + vec_len l.entries ≤ vec_capacity l.entries;
  outcomes_room : length (into_iter_items l.command-iterator) + vec_len l.outcomes ≤ vec_capacity l.outcomes;
  made : SoFar (session_of l.maker.session l.maker.size l.initial.entries.items) (into_iter_items l.fn.calls) (into_iter_items l.command-iterator) l.initial.outcomes.items (session_of l.maker.session l.maker.size l.entries.items) l.outcomes.items;
}
