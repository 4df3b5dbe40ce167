-- Numbers with known and unknown bits (the tristate numbers of the verifier in Linux,
-- kernel/bpf/tnum.c).
use Rattle.std.specs.Prelude.{ℕ, ◌≡◌, ◌≤◌, ◌+◌, ◌^◌, bit_and}
use Rattle.std.specs.Int.{w64, bit_not}

-- x with the bits of `unknown` cleared is `value`
pub record Matches (value unknown x : ℕ) : Type 0 where
  pub outside : bit_and x (bit_not w64 unknown) ≡ value

-- f is the least number 2 ^ k - 1 that is at least x: the previous number of this form, (f - 1) / 2, is below x
pub record IsFill (x f : ℕ) : Type 0 where
  pub ones : (k : ℕ) × (f + 1 ≡ 2 ^ k)
  pub enough : x ≤ f
  pub least : f ≤ x + x
