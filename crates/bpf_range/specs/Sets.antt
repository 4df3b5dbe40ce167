-- The numbers that a range, bits and a `Known` contain.
use Rattle.std.specs.Prelude.{ℕ, ◌≡◌, ◌≤◌}
use Rattle.bpf_range.specs.declared.values.Range.{Range}
use Rattle.bpf_range.specs.declared.values.Bits.{Bits}
use Rattle.bpf_range.specs.declared.known.Known.{Known}
use Rattle.bpf_range.specs.Bits.{Matches}

-- x is between the ends of the range, both included
pub record In (r : Range) (x : ℕ) : Type 0 where
  pub least : r.lo ≤ x
  pub greatest : x ≤ r.hi

-- one range is part of another
abbrev pub Within : Range → Range → Type 0
Within r s = (x : ℕ) → In r x → In s x

-- a range of one number
pub record IsOnly (r : Range) (x : ℕ) : Type 0 where
  pub lo_is : r.lo ≡ x
  pub hi_is : r.hi ≡ x

abbrev pub HasBits : Bits → ℕ → Type 0
HasBits b x = Matches b.value b.unknown x

-- the parts of a `Known`
abbrev pub range_of : Known → Range
range_of k = k.range

abbrev pub bits_of : Known → Bits
bits_of k = k.bits

-- A number is contained if it is in the range and has the bits.
pub record Contains (k : Known) (x : ℕ) : Type 0 where
  pub inside : In (range_of k) x
  pub bits : HasBits (bits_of k) x

-- a `Known` with these parts
pub record IsOf (k : Known) (lo hi value unknown : ℕ) : Type 0 where
  pub lo_is : (range_of k).lo ≡ lo
  pub hi_is : (range_of k).hi ≡ hi
  pub value_is : (bits_of k).value ≡ value
  pub unknown_is : (bits_of k).unknown ≡ unknown

-- each result of f on a number of a and a number of b is in r
abbrev pub Covers : (ℕ → ℕ → ℕ) → Range → Range → Range → Type 0
Covers f a b r = (x y : ℕ) → In a x → In b y → In r (f x y)
