-- Operations on numbers with known bits.
use Rattle.std.proofs.Common.{◌≡◌, ℕ, zero, suc, ◌+◌, ◌-◌, ◌*◌, ◌/◌, ◌%◌, ◌^◌, ◌<◌, ◌≤◌, min, max, bit_and, bit_or, bit_xor, sym, ap, ◌∙◌, arith, ◌⊎◌, inl, inr}
use Rattle.std.proofs.Math.Nat.{div-div-eq-div-mul, div-le_self, mod-lt}
use Rattle.std.specs.Int.{w64, bit_at}
use Rattle.std.proofs.lemmas.Bool.{cases_lt}
use Rattle.std.proofs.lemmas.Nat.{and_le_l, and_le_r, or_lt, and_mask, pow-add, pow_pos}
use Rattle.std.proofs.lemmas.Nat.Bits.{bit_at_and, bit_at_or, bit_at_xor, bit_at_not, bit_at-lt, bit_at_ones, bit_at_above, bit_at_cat_low, bit_at_cat_high, bit_at-zero}
use Rattle.bpf_range.specs.Bits.{Matches}
use Rattle.bpf_range.proofs.MatchFacts.{bits_at, bits_from, apart_at, apart_from}

-- ---- masks

pub masked : (v u x m : ℕ) → v < 2 ^ 64 → u < 2 ^ 64 → Matches v u x → Matches (bit_and v m) (bit_and u m) (bit_and x m)
masked v u x m p q h =
    let a : bit_and v m ≤ v = and_le_l v m in
    let b : bit_and u m ≤ u = and_le_l u m in
    bits_from _ _ _ (omega arith) (omega arith)
    (λ i k. simp bit_at_and (bits (bit_at v i) (bit_at u i) (bit_at x i) (bit_at m i) (bit_at-lt u i) (bit_at-lt x i) (bit_at-lt m i) (bits_at v u x i q k h)))
  where
    bits : (v u x m : ℕ) → u < 2 → x < 2 → m < 2 → v ≡ min x (1 - u) → min v m ≡ min (min x m) (1 - min u m)
    bits v u x m p q r e = omega arith

pub masked_apart : (v u m : ℕ) → v < 2 ^ 64 → bit_and v u ≡ 0 → bit_and (bit_and v m) (bit_and u m) ≡ 0
masked_apart v u m p e =
    let a : bit_and v m ≤ v = and_le_l v m in
    apart_from (bit_and v m) (bit_and u m) (omega arith)
    (λ i k. simp bit_at_and (bits (bit_at v i) (bit_at u i) (bit_at m i) (apart_at v u i e)))
  where
    bits : (v u m : ℕ) → min v u ≡ 0 → min (min v m) (min u m) ≡ 0
    bits v u m e = omega arith

-- ---- and

pub and_matches : (av au bv bu x y : ℕ) → av < 2 ^ 64 → au < 2 ^ 64 → bv < 2 ^ 64 → bu < 2 ^ 64 → Matches av au x → Matches bv bu y → Matches (bit_and av bv) (bit_and (bit_and (bit_or av au) (bit_or bv bu)) (2 ^ 64 - 1 - bit_and av bv)) (bit_and x y)
and_matches av au bv bu x y p q r s m n =
    let a : bit_and av bv ≤ av = and_le_l av bv in
    let v : bit_and av bv < 2 ^ 64 = omega arith in
    let b : bit_and (bit_and (bit_or av au) (bit_or bv bu)) (2 ^ 64 - 1 - bit_and av bv) ≤ 2 ^ 64 - 1 - bit_and av bv = and_le_r _ _ in
    bits_from _ _ _ v (omega arith)
    (λ i h. simp (bit_at_not w64 (bit_and av bv) i v h, bit_at_and, bit_at_or) (bits (bit_at av i) (bit_at au i) (bit_at bv i) (bit_at bu i) (bit_at x i) (bit_at y i) (bit_at-lt au i) (bit_at-lt bu i) (bit_at-lt x i) (bit_at-lt y i) (bits_at av au x i q h m) (bits_at bv bu y i s h n)))
  where
    bits : (av au bv bu x y : ℕ) → au < 2 → bu < 2 → x < 2 → y < 2 → av ≡ min x (1 - au) → bv ≡ min y (1 - bu) → min av bv ≡ min (min x y) (1 - min (min (max av au) (max bv bu)) (1 - min av bv))
    bits av zero bv zero x y p q r s e f = omega arith
    bits av zero bv (suc zero) x y p q r s e f = omega arith
    bits av (suc zero) bv zero x y p q r s e f = omega arith
    bits av (suc zero) bv (suc zero) x y p q r s e f = omega arith
    bits av zero bv (suc (suc n)) x y p q r s e f = absurd (omega arith)
    bits av (suc zero) bv (suc (suc n)) x y p q r s e f = absurd (omega arith)
    bits av (suc (suc n)) bv bu x y p q r s e f = absurd (omega arith)

-- masking with the unknown bits leaves no common bit
pub cut_apart : (v u : ℕ) → v < 2 ^ 64 → bit_and v (bit_and u (2 ^ 64 - 1 - v)) ≡ 0
cut_apart v u p =
    apart_from v (bit_and u (2 ^ 64 - 1 - v)) p
    (λ i h. simp (bit_at_not w64 v i p h, bit_at_and) (bits (bit_at v i) (bit_at u i) (bit_at-lt v i)))
  where
    bits : (v u : ℕ) → v < 2 → min v (min u (1 - v)) ≡ 0
    bits v u p = omega arith

-- ---- or

pub or_matches : (av au bv bu x y : ℕ) → av < 2 ^ 64 → au < 2 ^ 64 → bv < 2 ^ 64 → bu < 2 ^ 64 → Matches av au x → Matches bv bu y → Matches (bit_or av bv) (bit_and (bit_or (bit_or av au) (bit_or bv bu)) (2 ^ 64 - 1 - bit_or av bv)) (bit_or x y)
or_matches av au bv bu x y p q r s m n =
    let v : bit_or av bv < 2 ^ 64 = or_lt 64 av bv p r in
    let b : bit_and (bit_or (bit_or av au) (bit_or bv bu)) (2 ^ 64 - 1 - bit_or av bv) ≤ 2 ^ 64 - 1 - bit_or av bv = and_le_r _ _ in
    bits_from _ _ _ v (omega arith)
    (λ i h. simp (bit_at_not w64 (bit_or av bv) i v h, bit_at_and, bit_at_or) (bits (bit_at av i) (bit_at au i) (bit_at bv i) (bit_at bu i) (bit_at x i) (bit_at y i) (bit_at-lt au i) (bit_at-lt bu i) (bit_at-lt x i) (bit_at-lt y i) (bits_at av au x i q h m) (bits_at bv bu y i s h n)))
  where
    bits : (av au bv bu x y : ℕ) → au < 2 → bu < 2 → x < 2 → y < 2 → av ≡ min x (1 - au) → bv ≡ min y (1 - bu) → max av bv ≡ min (max x y) (1 - min (max (max av au) (max bv bu)) (1 - max av bv))
    bits av zero bv zero x y p q r s e f = omega arith
    bits av zero bv (suc zero) x y p q r s e f = omega arith
    bits av (suc zero) bv zero x y p q r s e f = omega arith
    bits av (suc zero) bv (suc zero) x y p q r s e f = omega arith
    bits av zero bv (suc (suc n)) x y p q r s e f = absurd (omega arith)
    bits av (suc zero) bv (suc (suc n)) x y p q r s e f = absurd (omega arith)
    bits av (suc (suc n)) bv bu x y p q r s e f = absurd (omega arith)

-- ---- xor

pub xor_matches : (av au bv bu x y : ℕ) → av < 2 ^ 64 → au < 2 ^ 64 → bv < 2 ^ 64 → bu < 2 ^ 64 → Matches av au x → Matches bv bu y → Matches (bit_and (bit_xor av bv) (2 ^ 64 - 1 - bit_or au bu)) (bit_or au bu) (bit_xor x y)
xor_matches av au bv bu x y p q r s m n =
    let u : bit_or au bu < 2 ^ 64 = or_lt 64 au bu q s in
    let b : bit_and (bit_xor av bv) (2 ^ 64 - 1 - bit_or au bu) ≤ 2 ^ 64 - 1 - bit_or au bu = and_le_r _ _ in
    bits_from _ _ _ (omega arith) u
    (λ i h. simp (bit_at_not w64 (bit_or au bu) i u h, bit_at_and, bit_at_or, bit_at_xor) (bits (bit_at av i) (bit_at au i) (bit_at bv i) (bit_at bu i) (bit_at x i) (bit_at y i) (bit_at-lt au i) (bit_at-lt bu i) (bit_at-lt x i) (bit_at-lt y i) (bits_at av au x i q h m) (bits_at bv bu y i s h n)))
  where
    bits : (av au bv bu x y : ℕ) → au < 2 → bu < 2 → x < 2 → y < 2 → av ≡ min x (1 - au) → bv ≡ min y (1 - bu) → min ((av + bv) % 2) (1 - max au bu) ≡ min ((x + y) % 2) (1 - max au bu)
    bits av au bv bu x y p q r s e f = omega arith

-- ---- no common bit

pub without_matches : (v u x mask : ℕ) → v < 2 ^ 64 → u < 2 ^ 64 → mask < 2 ^ 64 → Matches v u x → bit_and x mask ≡ 0 → Matches v (bit_and u (2 ^ 64 - 1 - mask)) x
without_matches v u x mask p q r m e =
    let b : bit_and u (2 ^ 64 - 1 - mask) ≤ u = and_le_l _ _ in
    bits_from _ _ _ p (omega arith)
    (λ i h. simp (bit_at_not w64 mask i r h, bit_at_and) (bits (bit_at v i) (bit_at u i) (bit_at x i) (bit_at mask i) (bit_at-lt u i) (bit_at-lt x i) (bit_at-lt mask i) (bits_at v u x i q h m) (apart_at x mask i e)))
  where
    bits : (v u x m : ℕ) → u < 2 → x < 2 → m < 2 → v ≡ min x (1 - u) → min x m ≡ 0 → v ≡ min x (1 - min u (1 - m))
    bits v u x m p q r e f = omega arith

pub without_apart : (v u m : ℕ) → v < 2 ^ 64 → bit_and v u ≡ 0 → bit_and v (bit_and u m) ≡ 0
without_apart v u m p e =
    apart_from v (bit_and u m) p
    (λ i k. simp bit_at_and (bits (bit_at v i) (bit_at u i) (bit_at m i) (apart_at v u i e)))
  where
    bits : (v u m : ℕ) → min v u ≡ 0 → min v (min u m) ≡ 0
    bits v u m e = omega arith

-- ---- shifts

bit_at_shr : (n k i : ℕ) → bit_at (n / 2 ^ k) i ≡ bit_at n (k + i)
bit_at_shr n k i = ap (λ m. m % 2) (div-div-eq-div-mul n (2 ^ k) (2 ^ i) ∙ ap (λ m. n / m) (sym (pow-add 2 k i)))

bit_at_low : (n k i : ℕ) → i < k → bit_at (n % 2 ^ k) i ≡ bit_at n i
bit_at_low n k i h =
    let e : bit_at (n % 2 ^ k) i ≡ min (bit_at n i) (bit_at (2 ^ k - 1) i) = ap (λ m. bit_at m i) (sym (and_mask n k)) ∙ bit_at_and n (2 ^ k - 1) i in
    let o : bit_at (2 ^ k - 1) i ≡ 1 = bit_at_ones k i h in
    let l : bit_at n i < 2 = bit_at-lt n i in
    omega arith

-- a bit of a left-shifted number
shl_low : (n k i : ℕ) → i < 64 → i < k → bit_at (n * 2 ^ k % 2 ^ 64) i ≡ 0
shl_low n k i h b = let z : n * 2 ^ k ≡ n * 2 ^ k + 0 = omega arith in bit_at_low (n * 2 ^ k) 64 i h ∙ ap (λ m. bit_at m i) z ∙ bit_at_cat_low n k 0 i b ∙ bit_at-zero i

shl_high : (n k i : ℕ) → i < 64 → k ≤ i → bit_at (n * 2 ^ k % 2 ^ 64) i ≡ bit_at n (i - k)
shl_high n k i h a = let z : n * 2 ^ k ≡ n * 2 ^ k + 0 = omega arith in bit_at_low (n * 2 ^ k) 64 i h ∙ ap (λ m. bit_at m i) z ∙ bit_at_cat_high n k 0 i (pow_pos k) a

pub shl_matches : (v u x k : ℕ) → u < 2 ^ 64 → Matches v u x → Matches (v * 2 ^ k % 2 ^ 64) (u * 2 ^ k % 2 ^ 64) (x * 2 ^ k % 2 ^ 64)
shl_matches v u x k q m = bits_from _ _ _ (mod-lt _ (omega arith)) (mod-lt _ (omega arith)) (λ i h. go i h (cases_lt i k))
  where
    go : (i : ℕ) → i < 64 → (i < k) ⊎ (k ≤ i) → bit_at (v * 2 ^ k % 2 ^ 64) i ≡ min (bit_at (x * 2 ^ k % 2 ^ 64) i) (1 - bit_at (u * 2 ^ k % 2 ^ 64) i)
    go i h (inl below) = simp (shl_low v k i h below, shl_low x k i h below) (omega arith)
    go i h (inr above) = simp (shl_high v k i h above, shl_high x k i h above, shl_high u k i h above) (bits_at v u x (i - k) q (omega arith) m)

pub shl_apart : (v u k : ℕ) → bit_and v u ≡ 0 → bit_and (v * 2 ^ k % 2 ^ 64) (u * 2 ^ k % 2 ^ 64) ≡ 0
shl_apart v u k e = apart_from (v * 2 ^ k % 2 ^ 64) (u * 2 ^ k % 2 ^ 64) (mod-lt _ (omega arith)) (λ i h. go i h (cases_lt i k))
  where
    go : (i : ℕ) → i < 64 → (i < k) ⊎ (k ≤ i) → min (bit_at (v * 2 ^ k % 2 ^ 64) i) (bit_at (u * 2 ^ k % 2 ^ 64) i) ≡ 0
    go i h (inl below) = simp (shl_low v k i h below) (omega arith)
    go i h (inr above) = simp (shl_high v k i h above, shl_high u k i h above) (apart_at v u (i - k) e)

pub shr_matches : (v u x k : ℕ) → v < 2 ^ 64 → u < 2 ^ 64 → x < 2 ^ 64 → Matches v u x → Matches (v / 2 ^ k) (u / 2 ^ k) (x / 2 ^ k)
shr_matches v u x k p q r m =
    let a : v / 2 ^ k ≤ v = div-le_self v (2 ^ k) in
    let b : u / 2 ^ k ≤ u = div-le_self u (2 ^ k) in
    bits_from (v / 2 ^ k) (u / 2 ^ k) (x / 2 ^ k) (omega arith) (omega arith) (λ i h. go i (cases_lt (k + i) 64))
  where
    go : (i : ℕ) → (k + i < 64) ⊎ (64 ≤ k + i) → bit_at (v / 2 ^ k) i ≡ min (bit_at (x / 2 ^ k) i) (1 - bit_at (u / 2 ^ k) i)
    go i (inl within) = simp (bit_at_shr v k i, bit_at_shr x k i, bit_at_shr u k i) (bits_at v u x (k + i) q within m)
    go i (inr above) = simp (bit_at_shr v k i, bit_at_shr x k i, bit_at_above v 64 (k + i) p above, bit_at_above x 64 (k + i) r above) (omega arith)

pub shr_apart : (v u k : ℕ) → v < 2 ^ 64 → bit_and v u ≡ 0 → bit_and (v / 2 ^ k) (u / 2 ^ k) ≡ 0
shr_apart v u k p e =
    let a : v / 2 ^ k ≤ v = div-le_self v (2 ^ k) in
    apart_from (v / 2 ^ k) (u / 2 ^ k) (omega arith) (λ i h. simp (bit_at_shr v k i, bit_at_shr u k i) (apart_at v u (k + i) e))

pub and_apart : (av au bv bu : ℕ) → av < 2 ^ 64 → bit_and (bit_and av bv) (bit_and (bit_and (bit_or av au) (bit_or bv bu)) (2 ^ 64 - 1 - bit_and av bv)) ≡ 0
and_apart av au bv bu p = let l : bit_and av bv ≤ av = and_le_l av bv in cut_apart (bit_and av bv) (bit_and (bit_or av au) (bit_or bv bu)) (omega arith)

pub or_apart : (av au bv bu : ℕ) → av < 2 ^ 64 → bv < 2 ^ 64 → bit_and (bit_or av bv) (bit_and (bit_or (bit_or av au) (bit_or bv bu)) (2 ^ 64 - 1 - bit_or av bv)) ≡ 0
or_apart av au bv bu p q = cut_apart (bit_or av bv) (bit_or (bit_or av au) (bit_or bv bu)) (or_lt 64 av bv p q)
