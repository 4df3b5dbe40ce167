-- Numbers 2 ^ k - 1, and the bits above them.
use Rattle.std.proofs.Common.{◌≡◌, ℕ, suc, ◌+◌, ◌-◌, ◌*◌, ◌/◌, ◌%◌, ◌^◌, ◌<◌, ◌≤◌, min, max, bit_and, bit_or, bit_xor, sym, ap, ◌∙◌, arith, ◌⊎◌, inl, inr}
use Rattle.std.proofs.Math.Nat.{pow-suc, div-mul-le_self, div-div-eq-div-mul, div-eq_of_lt}
use Rattle.std.proofs.lemmas.Bool.{cases_lt}
use Rattle.std.specs.Int.{w64, bit_at}
use Rattle.std.specs.Int.Bits.{xor_add_and}
use Rattle.std.specs.Int.Count.{count_leading_zeros}
use Rattle.std.proofs.lemmas.Nat.{and_le_l, and_le_r, or_lt, xor_shr, leading_top, le-div, pow_pos, pow-add}
use Rattle.std.proofs.lemmas.Nat.Bits.{bit_at_and, bit_at_or, bit_at_not, bit_at-lt, bit_at_ones, bit_at_ones_above, ones_shr}
use Rattle.bpf_range.specs.Bits.{Matches, IsFill}
use Rattle.bpf_range.proofs.MatchFacts.{bits_at, bits_from, apart_at, apart_from}

pub fill_is : (x : ℕ) → 0 < x → x < 2 ^ 64 → IsFill x ((2 ^ 64 - 1) / 2 ^ count_leading_zeros 64 x)
fill_is x p q =
    let t = leading_top 64 x p q in
    let j : ℕ = t.0 in
    let z : count_leading_zeros 64 x + suc j ≡ 64 = t.1 in
    let e : (2 ^ 64 - 1) / 2 ^ count_leading_zeros 64 x ≡ 2 ^ (64 - count_leading_zeros 64 x) - 1 = ones_shr 64 (count_leading_zeros 64 x) (omega arith) in
    let w : 64 - count_leading_zeros 64 x ≡ suc j = omega arith in
    let f : (2 ^ 64 - 1) / 2 ^ count_leading_zeros 64 x ≡ 2 ^ suc j - 1 = e ∙ ap (λ n. 2 ^ n - 1) w in
    let a : 2 ^ j ≤ x = t.2 in
    let b : x < 2 ^ suc j = t.3 in
    let d : 2 ^ suc j ≡ 2 ^ j * 2 = pow-suc 2 j in
    rw f (record { ones = (suc j, omega arith); enough = omega arith; least = omega arith })

-- numbers that differ in no bit are equal
same_from_xor : (p q : ℕ) → bit_xor p q ≡ 0 → p ≡ q
same_from_xor p q e = omega (arith, xor_add_and p q, and_le_l p q, and_le_r p q)

same_high : (lo hi k : ℕ) → bit_xor lo hi < 2 ^ k → lo / 2 ^ k ≡ hi / 2 ^ k
same_high lo hi k h = same_from_xor _ _ (sym (xor_shr lo hi k) ∙ div-eq_of_lt h)

div_mono : (a b k : ℕ) → a ≤ b → a / 2 ^ k ≤ b / 2 ^ k
div_mono a b k h = let d : a / 2 ^ k * 2 ^ k ≤ a = div-mul-le_self a (2 ^ k) in le-div (a / 2 ^ k) b (2 ^ k) (pow_pos k) (omega arith)

-- a number between two numbers with the same high bits has these bits too
pub between : (lo hi x k : ℕ) → lo ≤ x → x ≤ hi → bit_xor lo hi < 2 ^ k → lo / 2 ^ k ≡ x / 2 ^ k
between lo hi x k p q h =
    let e : lo / 2 ^ k ≡ hi / 2 ^ k = same_high lo hi k h in
    let a : lo / 2 ^ k ≤ x / 2 ^ k = div_mono lo x k p in
    let b : x / 2 ^ k ≤ hi / 2 ^ k = div_mono x hi k q in
    omega arith

high_bits : (a b k i : ℕ) → a / 2 ^ k ≡ b / 2 ^ k → k ≤ i → bit_at a i ≡ bit_at b i
high_bits a b k i e h =
    let s : i ≡ k + (i - k) = omega arith in
    let split : 2 ^ i ≡ 2 ^ k * 2 ^ (i - k) = ap (λ n. 2 ^ n) s ∙ pow-add 2 k (i - k) in
    let fa : a / 2 ^ i ≡ a / 2 ^ k / 2 ^ (i - k) = ap (λ n. a / n) split ∙ sym (div-div-eq-div-mul a (2 ^ k) (2 ^ (i - k))) in
    let fb : b / 2 ^ i ≡ b / 2 ^ k / 2 ^ (i - k) = ap (λ n. b / n) split ∙ sym (div-div-eq-div-mul b (2 ^ k) (2 ^ (i - k))) in
    ap (λ n. n % 2) (fa ∙ ap (λ n. n / 2 ^ (i - k)) e ∙ sym fb)

-- at each bit either 2 ^ k - 1 has a 1, or the numbers agree
shared_at : (lo hi x k f i : ℕ) → f + 1 ≡ 2 ^ k → lo ≤ x → x ≤ hi → bit_xor lo hi ≤ f → (bit_at f i ≡ 1) ⊎ ((bit_at f i ≡ 0) × (bit_at lo i ≡ bit_at x i))
shared_at lo hi x k f i e p q h = elim (cases_lt i k) as (λ _. (bit_at f i ≡ 1) ⊎ ((bit_at f i ≡ 0) × (bit_at lo i ≡ bit_at x i))) [ inl below ↦ inl (ap (λ n. bit_at n i) is ∙ bit_at_ones k i below) | inr above ↦ inr (ap (λ n. bit_at n i) is ∙ bit_at_ones_above k i above, high_bits lo x k i (between lo hi x k p q (omega arith)) above) ]
  where
    is : f ≡ 2 ^ k - 1
    is = omega arith

shared_bits : (v u x lo f : ℕ) → v < 2 → u < 2 → x < 2 → lo < 2 → v ≡ min x (1 - u) → (f ≡ 1) ⊎ ((f ≡ 0) × (lo ≡ x)) → max (min v f) (min lo (1 - f)) ≡ min x (1 - min u f)
shared_bits v u x lo f p q r s e (inl one) = omega arith
shared_bits v u x lo f p q r s e (inr (none, same)) = omega arith

pub shared : (lo hi x v u f : ℕ) → lo < 2 ^ 64 → v < 2 ^ 64 → u < 2 ^ 64 → f < 2 ^ 64 → lo ≤ x → x ≤ hi → IsFill (bit_xor lo hi) f → Matches v u x → Matches (bit_or (bit_and v f) (bit_and lo (2 ^ 64 - 1 - f))) (bit_and u f) x
shared lo hi x v u f hl hv hu hf p q fill m =
    let a : bit_and v f ≤ v = and_le_l v f in
    let b : bit_and lo (2 ^ 64 - 1 - f) ≤ lo = and_le_l lo (2 ^ 64 - 1 - f) in
    let d : bit_and u f ≤ u = and_le_l u f in
    bits_from _ _ x (or_lt 64 (bit_and v f) (bit_and lo (2 ^ 64 - 1 - f)) (omega arith) (omega arith)) (omega arith)
    (λ i h. simp (bit_at_and, bit_at_or, bit_at_not w64 f i hf h) (shared_bits (bit_at v i) (bit_at u i) (bit_at x i) (bit_at lo i) (bit_at f i) (bit_at-lt v i) (bit_at-lt u i) (bit_at-lt x i) (bit_at-lt lo i) (bits_at v u x i hu h m) (shared_at lo hi x fill.ones.0 f i fill.ones.1 p q fill.enough)))

pub shared_apart : (lo v u f : ℕ) → lo < 2 ^ 64 → v < 2 ^ 64 → f < 2 ^ 64 → bit_and v u ≡ 0 → bit_and (bit_or (bit_and v f) (bit_and lo (2 ^ 64 - 1 - f))) (bit_and u f) ≡ 0
shared_apart lo v u f hl hv hf e =
    let a : bit_and v f ≤ v = and_le_l v f in
    let b : bit_and lo (2 ^ 64 - 1 - f) ≤ lo = and_le_l lo (2 ^ 64 - 1 - f) in
    apart_from (bit_or (bit_and v f) (bit_and lo (2 ^ 64 - 1 - f))) (bit_and u f) (or_lt 64 (bit_and v f) (bit_and lo (2 ^ 64 - 1 - f)) (omega arith) (omega arith))
    (λ i h. simp (bit_at_and, bit_at_or, bit_at_not w64 f i hf h) (bits (bit_at v i) (bit_at u i) (bit_at lo i) (bit_at f i) (bit_at-lt v i) (bit_at-lt u i) (bit_at-lt lo i) (bit_at-lt f i) (apart_at v u i e)))
  where
    bits : (v u lo f : ℕ) → v < 2 → u < 2 → lo < 2 → f < 2 → min v u ≡ 0 → min (max (min v f) (min lo (1 - f))) (min u f) ≡ 0
    bits v u lo f p q r s e = omega arith
