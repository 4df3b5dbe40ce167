use Rattle.std.proofs.Common.{◌≡◌, length, take}
use Rattle.store_marks.specs.Marks.{AreMarked}
use Rattle.store_marks.proofs.marks.Marks.cut.Given as goal

abbrev pub invariant-loop-self : goal.invariant-loop-self
invariant-loop-self l = record {
  marked : AreMarked l.self-inside.marked.items l.self-inside.numbers.items;
  first : take l.len l.self-inside.numbers.items ≡ take l.len l.initial.self-inside.numbers.items;
}

abbrev pub decreases-loop-self : goal.decreases-loop-self
decreases-loop-self l = length l.self-inside.numbers.items
