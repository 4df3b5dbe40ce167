-- Hex digits, by a table of bytes.
use Rattle.std.specs.Prelude.{ℕ, ◌+◌, ◌*◌, ◌%◌, ◌==◌, ◌&&◌, nat_le, nat_lt, bit_or, cond, Bool, true, false, List, [], ◌∷◌, Option, Some, None}
use Rattle.hex.specs.Hex.{hex_digit_value}

-- the digit value that a table entry represents; an entry above 15 represents no digit
abbrev pub value_read : ℕ → Option ℕ
value_read v = cond (nat_le v 15) (Some v) None

abbrev pub is_same : Option ℕ → Option ℕ → Bool
is_same None None = true
is_same None (Some w) = false
is_same (Some v) None = false
is_same (Some v) (Some w) = v == w

-- the table has the digit values of the bytes from c on
abbrev pub are_values : List ℕ → ℕ → Bool
are_values [] c = true
are_values (v ∷ vs) c = is_same (value_read v) (hex_digit_value c) && are_values vs (c + 1)

-- ---- sixteen digits at once

-- the result of a vector comparison in one lane
abbrev pub lane_passes : Bool → Bool
lane_passes test = nat_le 128 (cond test 255 0)

-- the distance of a byte from `0`, modulo 256
abbrev pub behind_zero : ℕ → ℕ
behind_zero c = (c + 208) % 256

-- the distance of a letter from `a`, in either case, modulo 256
abbrev pub behind_a : ℕ → ℕ
behind_a c = (bit_or c 32 + 159) % 256

-- the value of a digit, and 255 for any other byte
abbrev pub lane_value : ℕ → ℕ
lane_value c = cond (lane_passes (nat_lt (behind_zero c) 10)) (behind_zero c) (cond (lane_passes (nat_lt (behind_a c) 6)) ((behind_a c + 10) % 256) 255)

-- joins pairs of digit values into bytes
abbrev pub joined_digits : List ℕ → List ℕ
joined_digits [] = []
joined_digits (v ∷ []) = []
joined_digits (high ∷ low ∷ rest) = (high * 16 % 256 + low) % 256 ∷ joined_digits rest
