use Rattle.std.proofs.Common.{◌≡◌, ◌⊎◌, ◌<◌, ℕ, get_or}
use Rattle.std.specs.List.{Contains}
use Rattle.sdbm_addr.specs.Pairs.{Content}
use Rattle.sdbm_addr.specs.Database.{pairs_at}
use Rattle.store_marks.specs.Marks.{HasMoreMarks}
use Rattle.store_marks.proofs.changes.mark_change.Given as goal

abbrev pub invariant-loop-twin : goal.invariant-loop-twin
invariant-loop-twin g l = record {
  more : HasMoreMarks l.fn.marks l.marks;
  own : Contains l.marks l.number;
  each : (k : ℕ) → k < l.twin-index → (d : ℕ × Content) → Contains l.marks (get_or l.twin-items k d).0 ⊎ ((get_or l.twin-items k d).1.pairs ≡ pairs_at l.image (get_or l.twin-items k d).0);
}
