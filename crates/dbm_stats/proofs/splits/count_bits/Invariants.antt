use Rattle.std.proofs.Common.{◌≡◌, ◌≤◌, ◌+◌, ◌*◌}
use Rattle.std.specs.FinSet as set
use Rattle.sdbm_dir.specs.Bitmap.{splits_below}
use Rattle.dbm_stats.proofs.splits.count_bits.Given as goal

abbrev pub invariant-loop-k : goal.invariant-loop-k
invariant-loop-k l = record {
  same : set.len (splits_below l.bytes (8 * l.index)) + l.count ≡ set.len (splits_below l.bytes (8 * l.index + l.k));
  few : l.count ≤ l.k;
}
