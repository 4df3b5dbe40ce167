use Rattle.std.proofs.Common.{◌<◌, ℕ, get_or}
use Rattle.std.specs.List.{Contains}
use Rattle.store_marks.specs.Marks.{HasMoreMarks}
use Rattle.store_marks.proofs.marks.Marks.add_all.Given as goal

abbrev pub invariant-loop-number : goal.invariant-loop-number
invariant-loop-number l = record {
  more : HasMoreMarks l.initial.self l.self;
  each : (k : ℕ) → k < l.number-index → Contains l.self (get_or l.numbers k 0);
}
