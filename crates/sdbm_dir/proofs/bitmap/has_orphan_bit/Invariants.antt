use Rattle.std.proofs.Common.{◌<◌, ◌/◌, ℕ}
use Rattle.sdbm_addr.specs.DirectoryFile.{IsOrphanBit}
use Rattle.sdbm_dir.proofs.bitmap.has_orphan_bit.Given as goal

abbrev pub invariant-loop-index : goal.invariant-loop-index
invariant-loop-index l = (n : ℕ) → n / 8 < l.index → IsOrphanBit l.bytes n → ⊥
