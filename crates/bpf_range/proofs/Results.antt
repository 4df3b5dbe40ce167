-- Results at a width.
use Rattle.std.proofs.Common.{◌≡◌, ◌≢◌, ℕ, ◌/◌, ◌%◌, ◌^◌, ◌<◌, ◌≤◌, bit_and, bit_or, bit_xor, not, ◌==◌, false, refl, ap, ◌∙◌, arith}
use Rattle.std.proofs.Math.Nat.{mod-eq_of_lt, div-le_self}
use Rattle.std.proofs.Math.Pow.{mod-mod-pow}
use Rattle.std.proofs.lemmas.Nat.{or_lt, xor_lt, and_le_l}
use Rattle.std.proofs.lemmas.Bool.Decides.{nat_tests}
use Rattle.bpf_insn.specs.declared.insn.Width.{Width}
use Rattle.bpf_insn.specs.declared.insn.Width.TheVariants.{W32, W64}
use Rattle.bpf_insn.specs.declared.insn.Op.{Op}
use Rattle.bpf_insn.specs.declared.insn.Op.TheVariants.{Little, Big, Swap}
use Rattle.bpf_insn.specs.declared.insn.Test.{Test}
use Rattle.bpf_insn.specs.declared.insn.Test.TheVariants.{SGt, SGe, SLt, SLe}
use Rattle.bpf_insn.specs.Conditions.{holds_of, comparison}
use Rattle.bpf_range.specs.Signs.{reach}
use Rattle.bpf_insn.specs.Arithmetic.{result_of, uncut_result, modulus}

pub record NotEnd (op : Op) : Type 0 where
  pub little : (s : _) → op ≢ Little s
  pub big : (s : _) → op ≢ Big s
  pub swap : (s : _) → op ≢ Swap s

pub result_is : (op : Op) (w : Width) (a b : ℕ) → NotEnd op → result_of op w a b ≡ uncut_result op w (a % modulus w) (b % modulus w) % modulus w
result_is (Little s) w a b h = absurd (h.little s refl)
result_is (Big s) w a b h = absurd (h.big s refl)
result_is (Swap s) w a b h = absurd (h.swap s refl)
result_is op w a b h = refl

pub and_whole : (w : Width) (x y : ℕ) → x < modulus w → bit_and x y % modulus w ≡ bit_and x y
and_whole w x y p = let l : bit_and x y ≤ x = and_le_l x y in mod-eq_of_lt (omega arith)

pub or_whole : (w : Width) (x y : ℕ) → x < modulus w → y < modulus w → bit_or x y % modulus w ≡ bit_or x y
or_whole W32 x y p q = let l : bit_or x y < 2 ^ 32 = or_lt 32 x y p q in mod-eq_of_lt l
or_whole W64 x y p q = let l : bit_or x y < 2 ^ 64 = or_lt 64 x y p q in mod-eq_of_lt l

pub xor_whole : (w : Width) (x y : ℕ) → x < modulus w → y < modulus w → bit_xor x y % modulus w ≡ bit_xor x y
xor_whole W32 x y p q = let l : bit_xor x y < 2 ^ 32 = xor_lt 32 x y p q in mod-eq_of_lt l
xor_whole W64 x y p q = let l : bit_xor x y < 2 ^ 64 = xor_lt 64 x y p q in mod-eq_of_lt l

-- cutting to 64 bits first changes nothing
pub cut_twice : (w : Width) (n : ℕ) → n % 2 ^ 64 % modulus w ≡ n % modulus w
cut_twice W32 n = mod-mod-pow n 32 32
cut_twice W64 n = mod-mod-pow n 0 64

pub shr_whole : (w : Width) (x k : ℕ) → x < modulus w → x / 2 ^ k % modulus w ≡ x / 2 ^ k
shr_whole w x k p = let l : x / 2 ^ k ≤ x = div-le_self x (2 ^ k) in mod-eq_of_lt (omega arith)

pub below_64 : (w : Width) (x : ℕ) → x < modulus w → x < 2 ^ 64
below_64 W32 x p = let h : x < 2 ^ 32 = p in omega arith
below_64 W64 x p = p

pub modulus_pos : (w : Width) → 0 < modulus w
modulus_pos W32 = omega arith
modulus_pos W64 = omega arith

-- numbers without a common bit
pub none_common : (n : ℕ) → not (n == 0) ≡ false → n ≡ 0
none_common n e = grind (arith, nat_tests)

-- the numbers below `reach` fit the width
reach_fits : (t : Test) (w : Width) → reach t w ≤ modulus w
reach_fits SGt W32 = omega arith
reach_fits SGt W64 = omega arith
reach_fits SGe W32 = omega arith
reach_fits SGe W64 = omega arith
reach_fits SLt W32 = omega arith
reach_fits SLt W64 = omega arith
reach_fits SLe W32 = omega arith
reach_fits SLe W64 = omega arith
reach_fits t w = omega arith

pub holds_is : (t : Test) (w : Width) (x y : ℕ) → x < reach t w → y < reach t w → holds_of t w x y ≡ comparison t w x y
holds_is t w x y p q =
    let f : reach t w ≤ modulus w = reach_fits t w in
    let ex : x % modulus w ≡ x = mod-eq_of_lt (omega arith) in
    let ey : y % modulus w ≡ y = mod-eq_of_lt (omega arith) in
    ap (λ n. comparison t w n (y % modulus w)) ex ∙ ap (λ n. comparison t w x n) ey
