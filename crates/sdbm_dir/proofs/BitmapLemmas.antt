-- Laws of a directory stored as bytes.
use Rattle.std.proofs.Common.{◌≡◌, ℕ, zero, suc, ◌+◌, ◌*◌, ◌/◌, ◌%◌, ◌^◌, ◌-◌, ◌<◌, ◌≤◌, ◌==◌, ◌||◌, List, ◌∷◌, length, get_or, Bool, true, false, cond, refl, sym, ap, ◌∙◌, subst, arith, inl, inr, bit_or, w8, set as set_item}
use Rattle.std.specs.Int.{bit_at}
use Rattle.std.proofs.lemmas.Bool.{cases_eq, cases_lt, true≢false, false_from_ne_true, or_cases, or_left, or_right, eq-eqb, ne_eqb}
use Rattle.std.proofs.lemmas.Nat.{mod_below}
use Rattle.std.proofs.lemmas.Nat.Bits.{bit_at-zero, bit_at_set_same, bit_at_set_other}
use Rattle.std.proofs.lemmas.List.{get_or_past, get_or_default, get_or-set_same, get_or-set_other}
use Rattle.std.specs.Ordering.{eq_by_cmp}
use Rattle.std.specs.Cmp.{eq_by_cmp_equiv}
use Rattle.std.specs.FinSet as set
use Rattle.sdbm_addr.specs.Directory.{Word, word_cmp, Splits, IsDirectory, word_number, hash_bit, hash_prefix, IsDepth}
use Rattle.sdbm_addr.proofs.DirectoryLemmas.{words_total, same_word, eq_word, contains-insert, word_number-injective, word_number-short}
use Rattle.sdbm_addr.specs.DirectoryFile.{bit_of}
use Rattle.sdbm_dir.specs.Words.{word_from, word_of, HasParent}
use Rattle.sdbm_dir.specs.Bitmap.{splits_below, splits_of}

word_number-word_from : (most n : ℕ) → n ≤ most → word_number (word_from most n) ≡ n
word_number-word_from zero n l = omega arith
word_number-word_from (suc most) zero l = refl
word_number-word_from (suc most) (suc n) l =
    let half : word_number (word_from most (n / 2)) ≡ n / 2 = word_number-word_from most (n / 2) (omega arith) in
    rw half (letter (n % 2) (mod_below n 2 (omega arith)) refl)
  where
    letter : (x : ℕ) → x < 2 → n % 2 ≡ x → 2 * (n / 2) + cond (x == 1) 2 1 ≡ suc n
    letter zero l e = omega arith
    letter (suc zero) l e = omega arith
    letter (suc (suc x)) l e = absurd (omega arith)

pub word_number-word_of : (n : ℕ) → word_number (word_of n) ≡ n
unfolding word_of
word_number-word_of n = word_number-word_from n n (omega arith)

pub word_of-word_number : (w : Word) → word_of (word_number w) ≡ w
word_of-word_number w = word_number-injective _ w (word_number-word_of (word_number w))

same_words : (w : Word) (n : ℕ) → eq_by_cmp word_cmp w (word_of n) ≡ (word_number w == n)
same_words w n = elim (cases_eq (word_number w) n) as (λ _. eq_by_cmp word_cmp w (word_of n) ≡ (word_number w == n)) [
  | inl e ↦ subst (λ (v : Word). eq_by_cmp word_cmp w v ≡ true) (sym (word_of-word_number w) ∙ ap word_of e) ((eq_by_cmp_equiv words_total).refl w) ∙ sym (eq-eqb _ _ e)
  | inr e ↦ false_from_ne_true _ (λ t. e (ap word_number (eq_word w (word_of n) t) ∙ word_number-word_of n)) ∙ sym (ne_eqb _ _ e)
]

contains-above : (bytes : List ℕ) (w : Word) (n : ℕ) → n ≤ word_number w → set.contains (splits_below bytes n) w ≡ false
contains-above bytes w zero l = set.contains-empty word_cmp w
contains-above bytes w (suc n) l =
    let rest : set.contains (splits_below bytes n) w ≡ false = contains-above bytes w n (omega arith) in
    elim (bit_of bytes n) as (λ b. set.contains (cond b (set.insert (splits_below bytes n) (word_of n)) (splits_below bytes n)) w ≡ false) [
      | true ↦ contains-insert _ _ _ ∙ rw (same_words w n, ne_eqb (word_number w) n (λ (e : word_number w ≡ n). omega arith), rest) refl
      | false ↦ rest
    ]

contains-below : (bytes : List ℕ) (w : Word) (n : ℕ) → word_number w < n → set.contains (splits_below bytes n) w ≡ bit_of bytes (word_number w)
contains-below bytes w zero l = absurd (omega arith)
contains-below bytes w (suc n) l = one_more bytes w n (λ i. contains-below bytes w n i) l
  where
    one_more : (bytes : List ℕ) (w : Word) (n : ℕ) → (word_number w < n → set.contains (splits_below bytes n) w ≡ bit_of bytes (word_number w)) → word_number w < suc n
        → set.contains (splits_below bytes (suc n)) w ≡ bit_of bytes (word_number w)
    one_more bytes w n before l =
        let rest = splits_below bytes n in
        elim (cases_eq (word_number w) n) as (λ _. set.contains (cond (bit_of bytes n) (set.insert (splits_below bytes n) (word_of n)) (splits_below bytes n)) w ≡ bit_of bytes (word_number w)) [
          | inl e ↦ at_last e (bit_of bytes n) ∙ ap (bit_of bytes) (sym e)
          | inr d ↦ other d (bit_of bytes n) ∙ before (omega arith)
        ]
      where
        at_last : word_number w ≡ n → (b : Bool) → set.contains (cond b (set.insert (splits_below bytes n) (word_of n)) (splits_below bytes n)) w ≡ b
        at_last e true = contains-insert _ _ _ ∙ or_left _ _ (same_words w n ∙ eq-eqb _ _ e)
        at_last e false = contains-above bytes w n (omega arith)

        other : (word_number w ≡ n → ⊥) → (b : Bool) → set.contains (cond b (set.insert (splits_below bytes n) (word_of n)) (splits_below bytes n)) w ≡ set.contains (splits_below bytes n) w
        other d true = contains-insert _ _ _ ∙ ap (λ b. b || set.contains (splits_below bytes n) w) (same_words w n ∙ ne_eqb _ _ d)
        other d false = refl

pub unset_past : (bytes : List ℕ) (n : ℕ) → 8 * length bytes ≤ n → bit_of bytes n ≡ false
unset_past bytes n l = rw (get_or_past bytes (n / 8) 0 (omega arith), bit_at-zero (n % 8)) refl

-- a word is split exactly if its bit is 1
pub contains-splits_of : (bytes : List ℕ) (w : Word) → set.contains (splits_of bytes) w ≡ bit_of bytes (word_number w)
unfolding splits_of
contains-splits_of bytes w = elim (cases_lt (word_number w) (8 * length bytes)) as (λ _. set.contains (splits_below bytes (8 * length bytes)) w ≡ bit_of bytes (word_number w)) [
  | inl l ↦ contains-below bytes w (8 * length bytes) l
  | inr l ↦ contains-above bytes w (8 * length bytes) l ∙ sym (unset_past bytes (word_number w) l)
]

pub contains-word_of : (bytes : List ℕ) (n : ℕ) → set.contains (splits_of bytes) (word_of n) ≡ bit_of bytes n
contains-word_of bytes n = contains-splits_of bytes (word_of n) ∙ ap (bit_of bytes) (word_number-word_of n)

-- `more` has the bits of `bytes` and this one
pub record HasBitMore (bytes more : List ℕ) (bit : ℕ) : Type 0 where
  pub at : (n : ℕ) → bit_of more n ≡ ((n == bit) || bit_of bytes n)

pub splits_of-more : (bytes more : List ℕ) (bit : ℕ) → HasBitMore bytes more bit → splits_of more ≡ set.insert (splits_of bytes) (word_of bit)
splits_of-more bytes more bit h = set.same_set words_total same_word _ _ (λ w.
    contains-splits_of more w ∙ h.at (word_number w) ∙ ap (λ b. b || bit_of bytes (word_number w)) (sym (same_words w bit))
    ∙ ap (λ b. eq_by_cmp word_cmp w (word_of bit) || b) (sym (contains-splits_of bytes w)) ∙ sym (contains-insert (splits_of bytes) (word_of bit) w))

pub splits_of-same : (bytes more : List ℕ) → ((n : ℕ) → bit_of more n ≡ bit_of bytes n) → splits_of more ≡ splits_of bytes
splits_of-same bytes more h = set.same_set words_total same_word _ _ (λ w. contains-splits_of more w ∙ h (word_number w) ∙ sym (contains-splits_of bytes w))

-- bytes are a directory if their bits that are 1 are low and have parents
pub IsDirectory-from_bits : (bytes : List ℕ) → ((n : ℕ) → bit_of bytes n ≡ true → n < 2 ^ 31 - 1) → ((n : ℕ) → 0 < n → bit_of bytes n ≡ true → bit_of bytes ((n - 1) / 2) ≡ true) → IsDirectory (splits_of bytes)
IsDirectory-from_bits bytes low parents = record {
  closed = λ b w t.
      let set_here : bit_of bytes (2 * word_number w + cond b 2 1) ≡ true = sym (contains-splits_of bytes (b ∷ w)) ∙ t in
      contains-splits_of bytes w ∙ subst (λ (n : ℕ). bit_of bytes n ≡ true) (parent b (word_number w)) (parents _ (above b (word_number w)) set_here);
  short = λ w t. few w (low _ (sym (contains-splits_of bytes w) ∙ t));
}
  where
    parent : (b : Bool) (n : ℕ) → (2 * n + cond b 2 1 - 1) / 2 ≡ n
    parent true n = omega arith
    parent false n = omega arith

    above : (b : Bool) (n : ℕ) → 0 < 2 * n + cond b 2 1
    above true n = omega arith
    above false n = omega arith

    few : (w : Word) → word_number w < 2 ^ 31 - 1 → length w ≤ 30
    few w l = word_number-short w 31 l

pub IsDirectory-empty : IsDirectory set.empty
IsDirectory-empty = record {
  closed = λ b w t. absurd (true≢false (sym t ∙ set.contains-empty word_cmp (b ∷ w)));
  short = λ w t. absurd (true≢false (sym t ∙ set.contains-empty word_cmp w));
}

-- setting a bit whose parent is set keeps the directory valid
pub IsDirectory-more : (d : Splits) (bit : ℕ) → IsDirectory d → bit < 2 ^ 31 - 1 → HasParent d bit → IsDirectory (set.insert d (word_of bit))
IsDirectory-more d bit dir low has = record {
  closed = λ b w t. elim (or_cases (eq_by_cmp word_cmp (b ∷ w) (word_of bit)) (set.contains d (b ∷ w)) (sym (contains-insert d (word_of bit) (b ∷ w)) ∙ t)) as (λ _. set.contains (set.insert d (word_of bit)) w ≡ true) [
    | inl e ↦ kept w (parent b w (sym (word_number-word_of bit) ∙ ap word_number (sym (eq_word (b ∷ w) (word_of bit) e))) has)
    | inr old ↦ kept w (dir.closed b w old)
  ];
  short = λ w t. elim (or_cases (eq_by_cmp word_cmp w (word_of bit)) (set.contains d w) (sym (contains-insert d (word_of bit) w) ∙ t)) as (λ _. length w ≤ 30) [
    | inl e ↦ let n : word_number w ≡ bit = ap word_number (eq_word w (word_of bit) e) ∙ word_number-word_of bit in word_number-short w 31 (omega arith)
    | inr old ↦ dir.short w old
  ];
}
  where
    kept : (w : Word) → set.contains d w ≡ true → set.contains (set.insert d (word_of bit)) w ≡ true
    kept w h = contains-insert d (word_of bit) w ∙ or_right _ _ h

    parent : (b : Bool) (w : Word) → bit ≡ 2 * word_number w + cond b 2 1 → HasParent d bit → set.contains d w ≡ true
    parent true w e has = elim has as (λ _. set.contains d w ≡ true) [
      | inl z ↦ absurd (omega arith)
      | inr t ↦ let k : (bit - 1) / 2 ≡ word_number w = omega arith in subst (λ (v : Word). set.contains d v ≡ true) (ap word_of k ∙ word_of-word_number w) t
    ]
    parent false w e has = elim has as (λ _. set.contains d w ≡ true) [
      | inl z ↦ absurd (omega arith)
      | inr t ↦ let k : (bit - 1) / 2 ≡ word_number w = omega arith in subst (λ (v : Word). set.contains d v ≡ true) (ap word_of k ∙ word_of-word_number w) t
    ]

-- `|= 1 << k` sets one bit
pub HasBitMore-set : (bytes : List ℕ) (bit old : ℕ) → bit / 8 < length bytes → old ≡ get_or bytes (bit / 8) old
    → HasBitMore bytes (set_item bytes (bit / 8) (bit_or old (1 * 2 ^ (bit % 8) % 2 ^ 8))) bit
HasBitMore-set bytes bit old l e = record {
  at = λ n. elim (cases_eq n bit) as (λ _. bit_of (set_item bytes (bit / 8) new) n ≡ ((n == bit) || bit_of bytes n)) [
    | inl s ↦ rw (eq-eqb n bit s) (subst (λ (m : ℕ). bit_of (set_item bytes (bit / 8) new) m ≡ true) (sym s) (rw (get_or-set_same bytes (bit / 8) new 0 l, bit_at_set_same w8 old (bit % 8) (mod_below bit 8 (omega arith))) refl))
    | inr d ↦ rw (ne_eqb n bit d) (elim (cases_eq (n / 8) (bit / 8)) as (λ _. bit_of (set_item bytes (bit / 8) new) n ≡ bit_of bytes n) [
      | inl s ↦ same_byte n d s
      | inr o ↦ ap (λ x. bit_at x (n % 8) == 1) (get_or-set_other bytes (bit / 8) (n / 8) new 0 o)
    ])
  ];
}
  where
    new : ℕ
    new = bit_or old (1 * 2 ^ (bit % 8) % 2 ^ 8)

    same_byte : (n : ℕ) → (n ≡ bit → ⊥) → n / 8 ≡ bit / 8 → bit_of (set_item bytes (bit / 8) new) n ≡ bit_of bytes n
    same_byte n d s =
        let apart : n % 8 ≡ bit % 8 → ⊥ = λ t. d (omega arith) in
        let here : get_or (set_item bytes (bit / 8) new) (bit / 8) 0 ≡ new = get_or-set_same bytes (bit / 8) new 0 l in
        let was : old ≡ get_or bytes (bit / 8) 0 = e ∙ get_or_default bytes (bit / 8) old 0 l in
        ap (λ k. bit_at (get_or (set_item bytes (bit / 8) new) k 0) (n % 8) == 1) s ∙ ap (λ x. bit_at x (n % 8) == 1) here
        ∙ ap (λ x. x == 1) (bit_at_set_other w8 old (bit % 8) (mod_below bit 8 (omega arith)) (n % 8) apart)
        ∙ ap (λ x. bit_at x (n % 8) == 1) was ∙ ap (λ k. bit_at (get_or bytes k 0) (n % 8) == 1) (sym s)

-- the bit of a hash's place has a parent
pub HasParent-of_depth : (d : Splits) (hash h bit : ℕ) → IsDepth d hash h → bit ≡ word_number (hash_prefix h hash) → HasParent d bit
HasParent-of_depth d hash zero bit p e = inl e
HasParent-of_depth d hash (suc h) bit p e =
    inr (subst (λ (w : Word). set.contains d w ≡ true) (sym (ap word_of (half (hash_bit h hash) (word_number (hash_prefix h hash)) e) ∙ word_of-word_number (hash_prefix h hash))) (p.above h (omega arith)))
  where
    half : (b : Bool) (n : ℕ) → bit ≡ 2 * n + cond b 2 1 → (bit - 1) / 2 ≡ n
    half true n e = omega arith
    half false n e = omega arith
