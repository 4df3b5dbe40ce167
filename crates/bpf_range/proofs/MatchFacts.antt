-- Sets of numbers by their single bits.
use Rattle.std.proofs.Common.{◌≡◌, ℕ, zero, suc, ◌+◌, ◌-◌, ◌%◌, ◌^◌, ◌<◌, ◌≤◌, min, max, bit_and, bit_or, bit_xor, sym, ap, ◌∙◌, arith}
use Rattle.std.specs.Int.{w64, bit_not, bit_at}
use Rattle.std.proofs.lemmas.Nat.{and_le_l, and_le_r, or_lt, xor_lt, and-not, and_comm, or_disjoint}
use Rattle.std.proofs.lemmas.Nat.Bits.{bit_at_and, bit_at_or, bit_at_xor, bit_at_not, bit_at-lt, same_from_bits_below, bit_at-zero}
use Rattle.bpf_range.specs.Bits.{Matches}

-- a proof for each value of a bit
pub either : (P : ℕ → Type 0) → P 0 → P 1 → (n : ℕ) → n < 2 → P n
either P p q zero h = p
either P p q (suc zero) h = q
either P p q (suc (suc n)) h = absurd (omega arith)

pub bits_at : (v u x i : ℕ) → u < 2 ^ 64 → i < 64 → Matches v u x → bit_at v i ≡ min (bit_at x i) (1 - bit_at u i)
bits_at v u x i hu hi m =
    let e : bit_at (bit_not w64 u) i ≡ 1 - bit_at u i = bit_at_not w64 u i hu hi in
    let f : bit_at (bit_and x (bit_not w64 u)) i ≡ bit_at v i = ap (λ n. bit_at n i) m.outside in
    let g : bit_at (bit_and x (bit_not w64 u)) i ≡ min (bit_at x i) (bit_at (bit_not w64 u) i) = bit_at_and x (bit_not w64 u) i in
    sym f ∙ g ∙ ap (λ n. min (bit_at x i) n) e

pub bits_from : (v u x : ℕ) → v < 2 ^ 64 → u < 2 ^ 64 → ((i : ℕ) → i < 64 → bit_at v i ≡ min (bit_at x i) (1 - bit_at u i)) → Matches v u x
bits_from v u x hv hu all =
    let n : bit_and x (bit_not w64 u) ≤ bit_not w64 u = and_le_r x (bit_not w64 u) in
    let b : bit_and x (bit_not w64 u) < 2 ^ 64 = omega arith in
    record { outside = same_from_bits_below 64 _ v b hv (λ i h. bit_at_and x (bit_not w64 u) i ∙ ap (λ n. min (bit_at x i) n) (bit_at_not w64 u i hu h) ∙ sym (all i h)) }

pub apart_at : (v u i : ℕ) → bit_and v u ≡ 0 → min (bit_at v i) (bit_at u i) ≡ 0
apart_at v u i e = sym (bit_at_and v u i) ∙ ap (λ n. bit_at n i) e ∙ bit_at-zero i

pub apart_from : (v u : ℕ) → v < 2 ^ 64 → ((i : ℕ) → i < 64 → min (bit_at v i) (bit_at u i) ≡ 0) → bit_and v u ≡ 0
apart_from v u hv all =
    let n : bit_and v u ≤ v = and_le_l v u in
    same_from_bits_below 64 _ 0 (omega arith) (omega arith) (λ i h. bit_at_and v u i ∙ all i h ∙ sym (bit_at-zero i))

-- ---- joins

common_at : (x av au bv bu : ℕ) → x < 2 → au < 2 → bv < 2 → bu < 2 → av ≡ min x (1 - au) → min bv bu ≡ 0 → min av bv ≡ min x (1 - max (max au bu) ((av + bv) % 2))
common_at x av au bv bu p q r s e f = omega arith

pub common_match : (av au bv bu x : ℕ) → av < 2 ^ 64 → au < 2 ^ 64 → bv < 2 ^ 64 → bu < 2 ^ 64 → bit_and bv bu ≡ 0 → Matches av au x → Matches (bit_and av bv) (bit_or (bit_or au bu) (bit_xor av bv)) x
common_match av au bv bu x p q r s apart m =
    let low : bit_and av bv ≤ av = and_le_l av bv in
    bits_from _ _ x (omega arith) (or_lt 64 _ _ (or_lt 64 _ _ q s) (xor_lt 64 _ _ p r))
    (λ i h. simp (bit_at_and, bit_at_or, bit_at_xor) (common_at (bit_at x i) (bit_at av i) (bit_at au i) (bit_at bv i) (bit_at bu i) (bit_at-lt x i) (bit_at-lt au i) (bit_at-lt bv i) (bit_at-lt bu i) (bits_at av au x i q h m) (apart_at bv bu i apart)))

common_at_right : (x av au bv bu : ℕ) → x < 2 → au < 2 → av < 2 → bu < 2 → bv ≡ min x (1 - bu) → min av au ≡ 0 → min av bv ≡ min x (1 - max (max au bu) ((av + bv) % 2))
common_at_right x av au bv bu p q r s e f = omega arith

pub common_match_right : (av au bv bu x : ℕ) → av < 2 ^ 64 → au < 2 ^ 64 → bv < 2 ^ 64 → bu < 2 ^ 64 → bit_and av au ≡ 0 → Matches bv bu x → Matches (bit_and av bv) (bit_or (bit_or au bu) (bit_xor av bv)) x
common_match_right av au bv bu x p q r s apart m =
    let low : bit_and av bv ≤ av = and_le_l av bv in
    bits_from _ _ x (omega arith) (or_lt 64 _ _ (or_lt 64 _ _ q s) (xor_lt 64 _ _ p r))
    (λ i h. simp (bit_at_and, bit_at_or, bit_at_xor) (common_at_right (bit_at x i) (bit_at av i) (bit_at au i) (bit_at bv i) (bit_at bu i) (bit_at-lt x i) (bit_at-lt au i) (bit_at-lt av i) (bit_at-lt bu i) (bits_at bv bu x i s h m) (apart_at av au i apart)))

pub common_apart : (av au bv bu : ℕ) → av < 2 ^ 64 → bit_and av au ≡ 0 → bit_and bv bu ≡ 0 → bit_and (bit_and av bv) (bit_or (bit_or au bu) (bit_xor av bv)) ≡ 0
common_apart av au bv bu p e f =
    let low : bit_and av bv ≤ av = and_le_l av bv in
    apart_from _ _ (omega arith)
    (λ i h. simp (bit_at_and, bit_at_or, bit_at_xor) (common_apart_at _ _ _ _ (bit_at-lt av i) (bit_at-lt au i) (bit_at-lt bv i) (bit_at-lt bu i) (apart_at av au i e) (apart_at bv bu i f)))
  where
    common_apart_at : (av au bv bu : ℕ) → av < 2 → au < 2 → bv < 2 → bu < 2 → min av au ≡ 0 → min bv bu ≡ 0 → min (min av bv) (max (max au bu) ((av + bv) % 2)) ≡ 0
    common_apart_at av au bv bu p q r s e f = omega arith

-- ---- the least and the greatest number with given bits

pub match_least : (v u x : ℕ) → Matches v u x → v ≤ x
match_least v u x m = let l : bit_and x (bit_not w64 u) ≤ x = and_le_l x (bit_not w64 u) in let e : bit_and x (bit_not w64 u) ≡ v = m.outside in omega arith

pub match_greatest : (v u x : ℕ) → u < 2 ^ 64 → x < 2 ^ 64 → bit_and v u ≡ 0 → Matches v u x → x ≤ bit_or v u
match_greatest v u x p q apart m =
    let e : bit_and x (bit_not w64 u) ≡ v = m.outside in
    let n : bit_and (bit_not w64 u) x + bit_and u x ≡ x = and-not 64 u x p q in
    let c : bit_and (bit_not w64 u) x ≡ bit_and x (bit_not w64 u) = and_comm _ _ in
    let l : bit_and u x ≤ u = and_le_l u x in
    let o : bit_or v u ≡ v + u = or_disjoint v u apart in
    omega arith
