use Rattle.std.proofs.Common.{◌≡◌, ◌≤◌, false}
use Rattle.std.specs.FinSet as set
use Rattle.sdbm_addr.specs.Directory.{word_number, hash_prefix}
use Rattle.sdbm_dir.proofs.Dir.place_above.Given as goal

abbrev pub invariant-loop-depth : goal.invariant-loop-depth
invariant-loop-depth g l = record {
  number : l.bit ≡ word_number (hash_prefix l.depth l.hash);
  shallow : l.depth ≤ 31;
  unsplit : set.contains l.self.splits (hash_prefix l.depth l.hash) ≡ false;
}

abbrev pub decreases-loop-depth : goal.decreases-loop-depth
decreases-loop-depth g l = l.depth
