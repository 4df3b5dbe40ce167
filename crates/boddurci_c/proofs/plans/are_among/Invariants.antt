use Rattle.std.proofs.Common.{◌<◌, ℕ, get_or}
use Rattle.std.specs.List.{Contains}
use Rattle.boddurci_c.proofs.plans.are_among.Given as goal

abbrev pub invariant-loop-number : goal.invariant-loop-number
invariant-loop-number l = record {
  only : (n : ℕ) → Contains l.given n → Contains l.numbers n;
  each : (k : ℕ) → k < l.number-index → Contains l.marks (get_or l.numbers k 0) → Contains l.given (get_or l.numbers k 0);
}

abbrev pub invariant-loop-mark : goal.invariant-loop-mark
invariant-loop-mark l = (k : ℕ) → k < l.mark-index → Contains l.numbers (get_or l.mark-items k 0)
