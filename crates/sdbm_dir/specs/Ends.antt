-- The length of a list of bytes without its trailing zeros.
use Rattle.std.specs.Prelude.{◌≡◌, ℕ, ◌-◌, ◌<◌, ◌≤◌, List, length, slice_index_or}

-- all bytes from `end` on are zero, and the byte before `end`, if there is one, is nonzero
pub record IsEnd (bytes : List ℕ) (end : ℕ) : Type 0 where
  pub within : end ≤ length bytes
  pub zeros : (k : ℕ) → end ≤ k → slice_index_or bytes k 0 ≡ 0
  pub last : 0 < end → 0 < slice_index_or bytes (end - 1) 0
