use Rattle.std.proofs.Common.{◌+◌, ◌*◌, ◌<◌, ℕ}
use Rattle.sdbm_addr.specs.DirectoryFile.{IsOrphanBit}
use Rattle.sdbm_dir.proofs.bitmap.has_orphan_in.Given as goal

abbrev pub invariant-loop-k : goal.invariant-loop-k
invariant-loop-k l = (j : ℕ) → j < l.k → IsOrphanBit l.bytes (8 * l.index + j) → ⊥
