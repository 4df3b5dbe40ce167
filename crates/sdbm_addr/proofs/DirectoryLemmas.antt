-- Laws of words and their numbers, and of the page that a hash leads to.
use Rattle.std.proofs.Common.{◌≡◌, ℕ, zero, suc, ◌+◌, ◌*◌, ◌/◌, ◌%◌, ◌^◌, ◌-◌, ◌<◌, ◌≤◌, ◌==◌, ◌||◌, [], ◌∷◌, length, true, false, cond, refl, sym, ap, ◌∙◌, subst, arith, inl, inr, add-one, lit<, bit_and, zero-add, suc-add}
use borrow.Author.Count.{below_more}
use Rattle.std.proofs.lemmas.Bool.{cases_order, cases_lt, true≢false, false_from_ne_true}
use Rattle.std.proofs.lemmas.Nat.{mod-pow-add, field_of, mod_below}
use Rattle.std.proofs.lemmas.Grind.{pow_more}
use Rattle.std.proofs.lemmas.Nat.Bits.{shr_and_one}
use Rattle.std.specs.Ordering.{bool_cmp, eq_by_cmp}
use Rattle.std.specs.Cmp.{bool_cmp_total, IsTotalOrder, Equal-is}
use Rattle.std.proofs.lemmas.Cmp.{lists_total}
use Rattle.std.specs.FinMap.{IsAntisymmetric, slice_cmp-IsAntisymmetric}
use Rattle.std.specs.FinSet as set
use Rattle.std.proofs.Math.Pow.{mod-mod-pow}
use Rattle.std.proofs.Math.Nat.{pow-suc, pow-le-pow_right}
use Rattle.sdbm_addr.specs.Directory.{Word, word_cmp, Splits, IsDirectory, word_number, page_number, hash_bit, hash_prefix, IsDepth, depth_from, depth_of, page_of}

pub length-hash_prefix : (n hash : ℕ) → length (hash_prefix n hash) ≡ n
length-hash_prefix zero hash = refl
length-hash_prefix (suc n) hash = ap suc (length-hash_prefix n hash)

bit_value : (x : ℕ) → x < 2 → (p : ℕ) → cond (x == 1) p 0 ≡ x * p
bit_value x h p = grind arith

pub page_number-hash_prefix : (n hash : ℕ) → page_number (hash_prefix n hash) ≡ hash % 2 ^ n
page_number-hash_prefix zero hash = omega arith
page_number-hash_prefix (suc n) hash =
    let before : page_number (hash_prefix n hash) ≡ hash % 2 ^ n = page_number-hash_prefix n hash in
    let bit : cond (hash_bit n hash) (2 ^ length (hash_prefix n hash)) 0 ≡ (hash / 2 ^ n % 2) * 2 ^ n
    = rw (length-hash_prefix n hash) (bit_value _ (mod_below _ 2 (lit< tt)) (2 ^ n)) in
    let all : hash % 2 ^ (1 + n) ≡ (hash / 2 ^ n % 2 ^ 1) * 2 ^ n + hash % 2 ^ n = mod-pow-add hash 1 n in
    rw (before, bit) (omega arith ∙ sym all ∙ ap (λ k. hash % 2 ^ k) (omega arith))

pub word_number-more : (n hash : ℕ) → word_number (hash_prefix (n + 1) hash) ≡ 2 * word_number (hash_prefix n hash) + cond (hash_bit n hash) 2 1
word_number-more n hash = rw add-one refl

-- words with equal numbers are equal
pub word_number-injective : (v w : Word) → word_number v ≡ word_number w → v ≡ w
word_number-injective [] [] h = refl
word_number-injective [] (true ∷ w) h = absurd (omega arith)
word_number-injective [] (false ∷ w) h = absurd (omega arith)
word_number-injective (true ∷ v) [] h = absurd (omega arith)
word_number-injective (false ∷ v) [] h = absurd (omega arith)
word_number-injective (true ∷ v) (true ∷ w) h = ap (λ x. true ∷ x) (word_number-injective v w (omega arith))
word_number-injective (true ∷ v) (false ∷ w) h = absurd (omega arith)
word_number-injective (false ∷ v) (true ∷ w) h = absurd (omega arith)
word_number-injective (false ∷ v) (false ∷ w) h = ap (λ x. false ∷ x) (word_number-injective v w (omega arith))

pub words_total : IsTotalOrder word_cmp
words_total = lists_total bool_cmp_total

same_bit : IsAntisymmetric bool_cmp
same_bit false false h = refl
same_bit true true h = refl
same_bit false true h = cc
same_bit true false h = cc

pub same_word : IsAntisymmetric word_cmp
same_word = slice_cmp-IsAntisymmetric same_bit

pub eq_word : (v w : Word) → eq_by_cmp word_cmp v w ≡ true → v ≡ w
eq_word v w h = same_word v w ((Equal-is (word_cmp v w)).0 h)

pub contains-insert : (d : Splits) (k q : Word) → set.contains (set.insert d k) q ≡ (eq_by_cmp word_cmp q k || set.contains d q)
contains-insert d k q = set.contains-insert words_total d k q

-- ---- depth

unset_above : (d : Splits) → IsDirectory d → (n hash k : ℕ) → set.contains d (hash_prefix n hash) ≡ false → set.contains d (hash_prefix (k + n) hash) ≡ false
unset_above d dir n hash zero h = rw (zero-add n) h
unset_above d dir n hash (suc k) h =
    let below : set.contains d (hash_prefix (k + n) hash) ≡ false = unset_above d dir n hash k h in
    rw (suc-add k n) (false_from_ne_true _ (λ t. true≢false (sym (dir.closed _ _ t) ∙ below)))

-- prefixes longer than an unsplit prefix are unsplit
pub unsplit_past : (d : Splits) → IsDirectory d → (m n hash : ℕ) → m ≤ n → set.contains d (hash_prefix m hash) ≡ false → set.contains d (hash_prefix n hash) ≡ false
unsplit_past d dir m n hash l h = subst (λ (j : ℕ). set.contains d (hash_prefix j hash) ≡ false) (omega arith) (unset_above d dir m hash (n - m) h)

pub IsDepth-unique : (d : Splits) (hash g h : ℕ) → IsDepth d hash g → IsDepth d hash h → g ≡ h
IsDepth-unique d hash g h p q =
    elim (cases_order g h) as (λ _. g ≡ h) [
      | inl e ↦ e
      | inr r ↦ elim r as (λ _. g ≡ h) [
        | inl l ↦ absurd (true≢false (sym (q.above g l) ∙ p.leaf))
        | inr l ↦ absurd (true≢false (sym (p.above h l) ∙ q.leaf))
      ]
    ]

-- the search from h on, if all shorter prefixes are split and letters are left
depth_from-IsDepth : (d : Splits) → IsDirectory d → (hash n h : ℕ) → n + h ≡ 31 → ((k : ℕ) → k < h → set.contains d (hash_prefix k hash) ≡ true) → IsDepth d hash (depth_from d hash n h)
depth_from-IsDepth d dir hash zero h e above =
    record {
      leaf = false_from_ne_true _ (λ t. let few : length (hash_prefix h hash) ≤ 30 = dir.short _ t in let long : length (hash_prefix h hash) ≡ h = length-hash_prefix h hash in absurd (omega arith));
      above = above;
    }
depth_from-IsDepth d dir hash (suc n) h e above =
    elim (set.contains d (hash_prefix h hash)) as (λ b. set.contains d (hash_prefix h hash) ≡ b → IsDepth d hash (cond b (depth_from d hash n (h + 1)) h)) [
      | true ↦ λ t. depth_from-IsDepth d dir hash n (h + 1) (omega arith) (below_more (λ k. set.contains d (hash_prefix k hash) ≡ true) h above t)
      | false ↦ λ f. record { leaf = f; above = above }
    ] refl

pub depth_of-IsDepth : (d : Splits) → IsDirectory d → (hash : ℕ) → IsDepth d hash (depth_of d hash)
unfolding depth_of
depth_of-IsDepth d dir hash = depth_from-IsDepth d dir hash 31 0 refl (λ k l. absurd (omega arith))

pub depth-le : (d : Splits) → IsDirectory d → (hash h : ℕ) → IsDepth d hash h → h ≤ 31
depth-le d dir hash zero p = omega arith
depth-le d dir hash (suc h) p =
    let few : length (hash_prefix h hash) ≤ 30 = dir.short _ (p.above h (omega arith)) in
    let long : length (hash_prefix h hash) ≡ h = length-hash_prefix h hash in omega arith

depth_from-le : (d : Splits) (hash n h : ℕ) → depth_from d hash n h ≤ h + n
depth_from-le d hash zero h = omega arith
depth_from-le d hash (suc n) h =
    let more : depth_from d hash n (h + 1) ≤ h + 1 + n = depth_from-le d hash n (h + 1) in
    elim (set.contains d (hash_prefix h hash)) as (λ b. cond b (depth_from d hash n (h + 1)) h ≤ h + suc n) [ true ↦ omega arith | false ↦ omega arith ]

-- for any set
pub depth_of-le : (d : Splits) (hash : ℕ) → depth_of d hash ≤ 31
unfolding depth_of
depth_of-le d hash = depth_from-le d hash 31 0

pub page_of_depth : (d : Splits) → IsDirectory d → (hash h : ℕ) → IsDepth d hash h → page_of d hash ≡ hash % 2 ^ h
unfolding page_of
page_of_depth d dir hash h p = ap (λ k. page_number (hash_prefix k hash)) (IsDepth-unique d hash _ h (depth_of-IsDepth d dir hash) p) ∙ page_number-hash_prefix h hash

-- ---- hashes with the same lowest bits

same_mod_less : (n a b : ℕ) → a % 2 ^ (1 + n) ≡ b % 2 ^ (1 + n) → (a % 2 ^ n ≡ b % 2 ^ n) × (hash_bit n a ≡ hash_bit n b)
same_mod_less n a b h =
    let bits : a / 2 ^ n % 2 ^ 1 ≡ b / 2 ^ n % 2 ^ 1 = sym (field_of a 1 n) ∙ ap (λ x. x / 2 ^ n) h ∙ field_of b 1 n in
    (sym (mod-mod-pow a 1 n) ∙ ap (λ x. x % 2 ^ n) h ∙ mod-mod-pow b 1 n, ap (λ x. x == 1) bits)

pub same_prefix : (n a b : ℕ) → a % 2 ^ n ≡ b % 2 ^ n → hash_prefix n a ≡ hash_prefix n b
same_prefix zero a b h = refl
same_prefix (suc n) a b h =
    let less = same_mod_less n a b (subst (λ (k : ℕ). a % 2 ^ k ≡ b % 2 ^ k) (omega arith) h) in
    let rest : hash_prefix n a ≡ hash_prefix n b = same_prefix n a b less.0 in
    ap (λ x. x ∷ hash_prefix n a) less.1 ∙ ap (λ w. hash_bit n b ∷ w) rest

pub prefix_mod : (n a b : ℕ) → hash_prefix n a ≡ hash_prefix n b → a % 2 ^ n ≡ b % 2 ^ n
prefix_mod n a b h = sym (page_number-hash_prefix n a) ∙ ap page_number h ∙ page_number-hash_prefix n b

pub fewer_bits : (m n a b : ℕ) → m ≤ n → a % 2 ^ n ≡ b % 2 ^ n → a % 2 ^ m ≡ b % 2 ^ m
fewer_bits m n a b l h =
    let e : n - m + m ≡ n = omega arith in
    let g : a % 2 ^ (n - m + m) ≡ b % 2 ^ (n - m + m) = rw e h in
    sym (mod-mod-pow a (n - m) m) ∙ ap (λ x. x % 2 ^ m) g ∙ mod-mod-pow b (n - m) m

-- hashes with the same prefix have the same depth
pub IsDepth-agree : (d : Splits) (a b h : ℕ) → a % 2 ^ h ≡ b % 2 ^ h → IsDepth d a h → IsDepth d b h
IsDepth-agree d a b h e p = record {
  leaf = subst (λ (w : Word). set.contains d w ≡ false) (same_prefix h a b e) p.leaf;
  above = λ k l. subst (λ (w : Word). set.contains d w ≡ true) (same_prefix k a b (fewer_bits k h a b (omega arith) e)) (p.above k l);
}

shorter_differs : (d : Splits) (a b g h : ℕ) → g < h → a % 2 ^ g ≡ b % 2 ^ h → IsDepth d a g → IsDepth d b h → ⊥
shorter_differs d a b g h l e p q =
    let f : a % 2 ^ g % 2 ^ g ≡ b % 2 ^ h % 2 ^ g = ap (λ x. x % 2 ^ g) e in
    let k : h - g + g ≡ h = omega arith in
    let m : b % 2 ^ (h - g + g) % 2 ^ g ≡ b % 2 ^ g = mod-mod-pow b (h - g) g in
    let n : b % 2 ^ h % 2 ^ g ≡ b % 2 ^ g = rw k at m in
    let o : a % 2 ^ g % 2 ^ g ≡ a % 2 ^ g = let z : 0 + g ≡ g = zero-add g in subst (λ (k : ℕ). a % 2 ^ k % 2 ^ g ≡ a % 2 ^ g) z (mod-mod-pow a 0 g) in
    true≢false (sym (q.above g l) ∙ ap (set.contains d) (same_prefix g b a (sym (sym o ∙ f ∙ n))) ∙ p.leaf)

-- equal page numbers have equal depths
pub same_place : (d : Splits) (a b g h : ℕ) → a % 2 ^ g ≡ b % 2 ^ h → IsDepth d a g → IsDepth d b h → g ≡ h
same_place d a b g h e p q =
    elim (cases_order g h) as (λ _. g ≡ h) [
      | inl r ↦ r
      | inr r ↦ elim r as (λ _. g ≡ h) [
        | inl l ↦ absurd (shorter_differs d a b g h l e p q)
        | inr l ↦ absurd (shorter_differs d b a h g l (sym e) q p)
      ]
    ]

-- a word of n letters or more has a number of at least 2^n - 1
pub word_number-long : (n : ℕ) (w : Word) → n ≤ length w → 2 ^ n ≤ word_number w + 1
word_number-long zero w l = omega arith
word_number-long (suc n) [] l = absurd (omega arith)
word_number-long (suc n) (true ∷ w) l = let rest : 2 ^ n ≤ word_number w + 1 = word_number-long n w (omega arith) in omega (arith, pow-suc 2 n)
word_number-long (suc n) (false ∷ w) l = let rest : 2 ^ n ≤ word_number w + 1 = word_number-long n w (omega arith) in omega (arith, pow-suc 2 n)

pub word_number-short : (w : Word) (n : ℕ) → word_number w < 2 ^ n - 1 → length w ≤ n - 1
word_number-short w n l = elim (cases_lt (length w) n) as (λ _. length w ≤ n - 1) [
  | inl i ↦ omega arith
  | inr i ↦ absurd (let long : 2 ^ n ≤ word_number w + 1 = word_number-long n w i in omega arith)
]

-- a word of n letters has a number below 2^(n + 1) - 1
pub word_number-lt : (w : Word) → word_number w + 1 < 2 ^ (length w + 1)
word_number-lt [] = lit< tt
word_number-lt (true ∷ w) = let rest : word_number w + 1 < 2 ^ (length w + 1) = word_number-lt w in omega (arith, pow_more 2 (suc (length w)), pow_more 2 (length w))
word_number-lt (false ∷ w) = let rest : word_number w + 1 < 2 ^ (length w + 1) = word_number-lt w in omega (arith, pow_more 2 (suc (length w)), pow_more 2 (length w))

-- a word of at most 30 letters has a child
pub child_fits : (n hash bit : ℕ) → n ≤ 30 → bit ≡ word_number (hash_prefix n hash) → bit < 2 ^ 31 - 1
child_fits n hash bit l e =
    let at_most : 2 ^ (n + 1) ≤ 2 ^ 31 = pow-le-pow_right {n = 2} (lit< tt) (let l31 : n + 1 ≤ 31 = omega arith in l31) in
    let below : word_number (hash_prefix n hash) + 1 < 2 ^ (length (hash_prefix n hash) + 1) = word_number-lt (hash_prefix n hash) in
    let below' : word_number (hash_prefix n hash) + 1 < 2 ^ (n + 1) = subst (λ (k : ℕ). word_number (hash_prefix n hash) + 1 < 2 ^ (k + 1)) (length-hash_prefix n hash) below in
    omega arith

-- the number of the child, as the code computes it
pub child_number : (n hash bit r : ℕ) → bit ≡ word_number (hash_prefix n hash) → r ≡ 2 * bit + cond (bit_and (hash / 2 ^ n) 1 == 1) 2 1 → r ≡ word_number (hash_prefix (n + 1) hash)
child_number n hash bit r e f =
    f ∙ ap (λ k. 2 * k + cond (bit_and (hash / 2 ^ n) 1 == 1) 2 1) e
    ∙ ap (λ x. 2 * word_number (hash_prefix n hash) + cond (x == 1) 2 1) (shr_and_one hash n) ∙ sym (word_number-more n hash)
