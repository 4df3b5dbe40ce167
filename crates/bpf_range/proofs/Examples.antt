-- The definitions on small numbers.
use Rattle.std.proofs.Common.{◌≡◌, ◌≤◌, ◌+◌, refl, arith}
use Rattle.bpf_insn.specs.declared.insn.Width.TheVariants.{W32, W64}
use Rattle.bpf_insn.specs.declared.insn.Test.TheVariants.{Eq, SLt}
use Rattle.bpf_range.specs.declared.values.Range.{Range}
use Rattle.bpf_range.specs.Bits.{Matches, IsFill}
use Rattle.bpf_range.specs.Sets.{In, IsOnly, Within}
use Rattle.bpf_range.specs.Signs.{half, reach}

-- ---- known bits: with value 1 and unknown 4 the numbers 1 and 5

one : Matches 1 4 1
one = record { outside = refl }

five : Matches 1 4 5
five = record { outside = refl }

not_four : Matches 1 4 4 → ⊥
not_four m = absurd (cc)

not_nine : Matches 1 4 9 → ⊥
not_nine m = absurd (cc)

-- ---- masks

fill_of_five : IsFill 5 7
fill_of_five = record { ones = (3, refl); enough = omega arith; least = omega arith }

fill_of_seven : IsFill 7 7
fill_of_seven = record { ones = (3, refl); enough = omega arith; least = omega arith }

fill_of_nothing : IsFill 0 0
fill_of_nothing = record { ones = (0, refl); enough = omega arith; least = omega arith }

-- 15 is at least 5, but not the least such mask
not_fifteen : IsFill 5 15 → ⊥
not_fifteen f = let l : 15 ≤ 5 + 5 = f.least in omega arith

-- ---- ranges

abbrev two_to_four : Range
two_to_four = record { lo = 2; hi = 4; ordered = omega arith }

abbrev just_four : Range
just_four = record { lo = 4; hi = 4; ordered = omega arith }

three_is_in : In two_to_four 3
three_is_in = record { least = omega arith; greatest = omega arith }

five_is_not : In two_to_four 5 → ⊥
five_is_not i = let g : 5 ≤ 4 = i.greatest in omega arith

only_four : IsOnly just_four 4
only_four = record { lo_is = refl; hi_is = refl }

four_within : Within just_four two_to_four
four_within x i = let l : 4 ≤ x = i.least in let g : x ≤ 4 = i.greatest in record { least = omega arith; greatest = omega arith }

-- ---- signs

half_of_32 : half W32 ≡ 0x80000000
half_of_32 = refl

signed_reach : reach SLt W64 ≡ 0x8000000000000000
signed_reach = refl

unsigned_reach : reach Eq W32 ≡ 0x100000000
unsigned_reach = refl
