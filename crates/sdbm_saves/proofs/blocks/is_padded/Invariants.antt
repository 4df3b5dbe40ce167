use Rattle.std.proofs.Common.{◌≡◌, ◌<◌, ℕ, get_or}
use Rattle.sdbm_saves.proofs.blocks.is_padded.Given as goal

abbrev pub invariant-loop-index : goal.invariant-loop-index
invariant-loop-index l = record {
  so_far : (i : ℕ) → i < l.index → get_or l.block i 0 ≡ get_or l.kept i 0;
}
