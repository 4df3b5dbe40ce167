-- The last bytes of a key.
use Rattle.std.specs.Prelude.{◌≡◌, ℕ, ◌-◌, ◌≤◌, List, length, drop}
use Rattle.byteorder.specs.Endian.{little_number}

-- the number in the last eight bytes of a key, low byte first
pub record IsTail (key : List ℕ) (tail : ℕ) : Type 0 where
  pub long : 8 ≤ length key
  pub is : tail ≡ little_number 8 (drop (length key - 8) key)
