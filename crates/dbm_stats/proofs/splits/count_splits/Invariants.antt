use Rattle.std.proofs.Common.{◌≡◌, ◌≤◌, ◌*◌}
use Rattle.std.specs.FinSet as set
use Rattle.sdbm_dir.specs.Bitmap.{splits_below}
use Rattle.dbm_stats.proofs.splits.count_splits.Given as goal

abbrev pub invariant-loop-index : goal.invariant-loop-index
invariant-loop-index l = record {
  same : l.count ≡ set.len (splits_below l.bytes (8 * l.index));
  few : l.count ≤ 8 * l.index;
}
