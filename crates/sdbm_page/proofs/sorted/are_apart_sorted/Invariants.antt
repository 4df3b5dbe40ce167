use Rattle.std.proofs.Common.{◌≡◌, ℕ, ◌<◌, length, get_or}
use Rattle.sdbm_page.specs.Keys.{key_of}
use Rattle.sdbm_page.proofs.InOrder.{Slice}
use Rattle.sdbm_page.proofs.sorted.are_apart_sorted.Given as goal

-- the first places hold the keys before pair i, and the number of places is unchanged
abbrev pub invariant-loop-i : goal.invariant-loop-i
invariant-loop-i l = (length l.room ≡ 2048) × ((k : ℕ) (d : Slice) → k < l.i → (get_or l.room k d).now ≡ key_of l.bytes k)
