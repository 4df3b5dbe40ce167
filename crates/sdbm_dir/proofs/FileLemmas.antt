-- Laws of the bytes of a directory's file.
use Rattle.std.proofs.Common.{◌≡◌, ◌≢◌, ℕ, ◌+◌, ◌*◌, ◌/◌, ◌%◌, ◌^◌, ◌-◌, ◌<◌, ◌≤◌, ◌==◌, List, [], ◌∷◌, length, get_or, take, Bool, true, false, cond, refl, sym, ap, ◌∙◌, subst, arith, inl, inr, lit<, w8}
use Rattle.std.specs.Int.{bit_at, trailing_zeros}
use Rattle.std.proofs.lemmas.Bool.{cases_eq, cases_lt, true≢false}
use Rattle.std.proofs.lemmas.Nat.Bits.{bit_at-zero, bit_at-lt, bit_at-trailing_zeros, same_from_bits_below}
use Rattle.std.proofs.lemmas.List.{get_or_past, get_or-take, length-take-le}
use Rattle.std.proofs.lemmas.Grind.{same_number_lists}
use Rattle.std.proofs.Math.Nat.{pow-le-pow_right}
use Rattle.std.specs.FinSet as set
use Rattle.sdbm_addr.specs.Directory.{Word, Splits, IsDirectory, word_number}
use Rattle.sdbm_addr.specs.DirectoryFile.{bit_of, SpellsDirectory, AreDirectoryBytes, IsDeepBit, IsOrphanBit, HasDeepBit, HasOrphanBit}
use Rattle.sdbm_addr.proofs.DirectoryLemmas.{words_total, same_word, word_number-lt}
use Rattle.sdbm_dir.specs.Words.{word_of}
use Rattle.sdbm_dir.specs.Bitmap.{splits_of, IsBitmap}
use Rattle.sdbm_dir.specs.Faults.{AreFaultless, IsDirFault, SpellsNoDirectory}
use Rattle.sdbm_dir.specs.declared.DirFault.{DirFault}
use Rattle.sdbm_dir.specs.declared.DirFault.TheVariants.{TooDeep, DirOrphan, NoMemory}
use Rattle.sdbm_dir.specs.Ends.{IsEnd}
use Rattle.sdbm_dir.proofs.BitmapLemmas.{word_number-word_of, contains-splits_of, contains-word_of, unset_past, splits_of-same, IsDirectory-from_bits}

-- ---- bits and bytes

pub bits_same : (bytes more : List ℕ) → ((k : ℕ) → get_or more k 0 ≡ get_or bytes k 0) → (n : ℕ) → bit_of more n ≡ bit_of bytes n
bits_same bytes more h n = ap (λ x. bit_at x (n % 8) == 1) (h (n / 8))

pub unset_zero : (bytes : List ℕ) (n : ℕ) → get_or bytes (n / 8) 0 ≡ 0 → bit_of bytes n ≡ false
unset_zero bytes n z = rw (z, bit_at-zero (n % 8)) refl

pub bit_of-at : (bytes : List ℕ) (i j : ℕ) → j < 8 → bit_at (get_or bytes i 0) j ≡ 1 → bit_of bytes (8 * i + j) ≡ true
bit_of-at bytes i j l e =
    let byte : (8 * i + j) / 8 ≡ i = omega arith in
    let place : (8 * i + j) % 8 ≡ j = omega arith in
    rw (byte, place, e) refl

-- a nonzero byte has a bit that is 1
pub set_bit_of : (bytes : List ℕ) (i : ℕ) → 0 < get_or bytes i 0 → get_or bytes i 0 < 256 → (n : ℕ) × ((n / 8 ≡ i) × (bit_of bytes n ≡ true))
set_bit_of bytes i above fits = let low = bit_at-trailing_zeros w8 (get_or bytes i 0) above fits in at (trailing_zeros w8 (get_or bytes i 0)) low.0 low.1
  where
    at : (j : ℕ) → j < 8 → bit_at (get_or bytes i 0) j ≡ 1 → (n : ℕ) × ((n / 8 ≡ i) × (bit_of bytes n ≡ true))
    at j l e = (8 * i + j, (omega arith, bit_of-at bytes i j l e))

-- ---- bytes that spell a directory

pub IsDirectory-faultless : (bytes : List ℕ) → AreFaultless bytes → IsDirectory (splits_of bytes)
IsDirectory-faultless bytes f = IsDirectory-from_bits bytes low parents
  where
    low : (n : ℕ) → bit_of bytes n ≡ true → n < 2 ^ 31 - 1
    low n t = elim (cases_lt n (2 ^ 31 - 1)) as (λ _. n < 2 ^ 31 - 1) [
      | inl l ↦ l
      | inr l ↦ absurd (f.shallow (n, record { is_set = t; deep = l }))
    ]

    parents : (n : ℕ) → 0 < n → bit_of bytes n ≡ true → bit_of bytes ((n - 1) / 2) ≡ true
    parents n l t = elim (bit_of bytes ((n - 1) / 2)) as (λ b. bit_of bytes ((n - 1) / 2) ≡ b → b ≡ true) [
      | true ↦ λ _. refl
      | false ↦ λ e. absurd (f.closed (n, record { is_set = t; below = l; parent = e }))
    ] refl

-- a list padded with zeros
pub padded : (old new : List ℕ) (size len : ℕ) → len ≡ length old → length old ≤ size → length new ≡ size
    → ((k : ℕ) (d : ℕ) → k < size → k < len → get_or new k d ≡ get_or old k d) → ((k : ℕ) (d : ℕ) → len ≤ k → k < size → get_or new k d ≡ 0)
    → (k : ℕ) → get_or new k 0 ≡ get_or old k 0
padded old new size len is l e low high k = elim (cases_lt k (length old)) as (λ _. get_or new k 0 ≡ get_or old k 0) [
  | inl i ↦ low k 0 (omega arith) (omega arith)
  | inr i ↦ elim (cases_lt k size) as (λ _. get_or new k 0 ≡ get_or old k 0) [
    | inl j ↦ high k 0 (omega arith) j ∙ sym (get_or_past old k 0 i)
    | inr j ↦ get_or_past new k 0 (omega arith) ∙ sym (get_or_past old k 0 i)
  ]
]

-- ---- the end of bytes

pub unset_from_end : (bytes : List ℕ) (end n : ℕ) → IsEnd bytes end → end ≤ n / 8 → bit_of bytes n ≡ false
unset_from_end bytes end n e l = unset_zero bytes n (e.zeros (n / 8) l)

pub take_end : (bytes : List ℕ) (end : ℕ) → IsEnd bytes end → (k : ℕ) → get_or (take end bytes) k 0 ≡ get_or bytes k 0
take_end bytes end e k =
    let long : length (take end bytes) ≡ end = length-take-le end bytes e.within in
    elim (cases_lt k end) as (λ _. get_or (take end bytes) k 0 ≡ get_or bytes k 0) [
      | inl l ↦ get_or-take end bytes k 0 l
      | inr l ↦ get_or_past (take end bytes) k 0 (omega arith) ∙ sym (e.zeros k l)
    ]

no_deep_bit : (bytes : List ℕ) (end : ℕ) → IsEnd bytes end → end ≤ 2 ^ 28 → bit_of bytes (2 ^ 31 - 1) ≡ false → HasDeepBit bytes → ⊥
no_deep_bit bytes end e l unset d = elim (cases_eq d.0 (2 ^ 31 - 1)) as (λ _. ⊥) [
  | inl s ↦ true≢false (sym d.1.is_set ∙ ap (bit_of bytes) s ∙ unset)
  | inr s ↦ let deep : 2 ^ 31 - 1 ≤ d.0 = d.1.deep in true≢false (sym d.1.is_set ∙ unset_from_end bytes end d.0 e (omega arith))
]

-- one test decides whether a bit is too deep, if all bytes from 2^28 on are zero
pub HasDeepBit-tested : (bytes : List ℕ) (end : ℕ) (r : Bool) → IsEnd bytes end → end ≤ 2 ^ 28 → r ≡ bit_of bytes (2 ^ 31 - 1) → (r ≡ true → HasDeepBit bytes) × (HasDeepBit bytes → r ≡ true)
HasDeepBit-tested bytes end r e l is = (
  λ t. (2 ^ 31 - 1, record { is_set = sym is ∙ t; deep = omega arith }),
  λ d. elim (bit_of bytes (2 ^ 31 - 1)) as (λ b. bit_of bytes (2 ^ 31 - 1) ≡ b → r ≡ true) [
    | true ↦ λ s. is ∙ s
    | false ↦ λ s. absurd (no_deep_bit bytes end e l s d)
  ] refl,
)

pub HasDeepBit-past : (bytes : List ℕ) (end : ℕ) → ((k : ℕ) → get_or bytes k 0 < 256) → IsEnd bytes end → 2 ^ 28 < end → HasDeepBit bytes
HasDeepBit-past bytes end fit e l =
    let found = set_bit_of bytes (end - 1) (e.last (omega arith)) (fit (end - 1)) in
    let byte : found.0 / 8 ≡ end - 1 = found.1.0 in
    (found.0, record { is_set = found.1.1; deep = omega arith })

pub no_orphan_bit : (bytes : List ℕ) (end : ℕ) → IsEnd bytes end → ((n : ℕ) → n / 8 < end → IsOrphanBit bytes n → ⊥) → HasOrphanBit bytes → ⊥
no_orphan_bit bytes end e none o = elim (cases_lt (o.0 / 8) end) as (λ _. ⊥) [
  | inl l ↦ none o.0 l o.1
  | inr l ↦ true≢false (sym o.1.is_set ∙ unset_from_end bytes end o.0 e l)
]

-- if no bit is too deep, all bytes from 2^28 on are zero
pub end_shallow : (bytes : List ℕ) (end : ℕ) → ((k : ℕ) → get_or bytes k 0 < 256) → IsEnd bytes end → (HasDeepBit bytes → ⊥) → end ≤ 2 ^ 28
end_shallow bytes end fit e none = elim (cases_lt (2 ^ 28) end) as (λ _. end ≤ 2 ^ 28) [
  | inl l ↦ absurd (none (HasDeepBit-past bytes end fit e l))
  | inr l ↦ l
]

-- ---- a bitmap of bytes

pub IsBitmap-same : (bytes made : List ℕ) → AreFaultless bytes → ((k : ℕ) → get_or made k 0 ≡ get_or bytes k 0) → length made ≤ 2 ^ 28 → length made % 4096 ≡ 0 → IsBitmap made
IsBitmap-same bytes made f same l whole = record {
  directory = subst IsDirectory (sym (splits_of-same bytes made (bits_same bytes made same))) (IsDirectory-faultless bytes f);
  short = omega arith;
  blocks = whole;
}

pub SpellsDirectory-same : (bytes made : List ℕ) → ((k : ℕ) → get_or made k 0 ≡ get_or bytes k 0) → IsBitmap made → SpellsDirectory bytes (splits_of made)
SpellsDirectory-same bytes made same p = record {
  bits = λ w. sym (bits_same bytes made same (word_number w)) ∙ sym (contains-splits_of made w);
  directory = p.directory;
}

-- ---- the written bytes

pub AreDirectoryBytes-take : (bytes : List ℕ) (end size : ℕ) → IsBitmap bytes → ((k : ℕ) → get_or bytes k 0 < 256) → IsEnd bytes end
    → size % 4096 ≡ 0 → end ≤ size → size < end + 4096 → AreDirectoryBytes (splits_of bytes) (take size bytes)
AreDirectoryBytes-take bytes end size p fit e whole long short = record {
  spells = record { bits = λ w. bits_same bytes (take size bytes) same (word_number w) ∙ sym (contains-splits_of bytes w); directory = p.directory };
  fit = λ k. let here : get_or (take size bytes) k 0 ≡ get_or bytes k 0 = same k in let small : get_or bytes k 0 < 256 = fit k in omega arith;
  blocks = rw size_is whole;
  last = λ l. last (omega (arith, size_is));
}
  where
    size_is : length (take size bytes) ≡ size
    size_is = let inside : end ≤ length bytes = e.within in let blocks : length bytes % 4096 ≡ 0 = p.blocks in length-take-le size bytes (omega arith)

    same : (k : ℕ) → get_or (take size bytes) k 0 ≡ get_or bytes k 0
    same k = elim (cases_lt k size) as (λ _. get_or (take size bytes) k 0 ≡ get_or bytes k 0) [
      | inl l ↦ get_or-take size bytes k 0 l
      | inr l ↦ get_or_past (take size bytes) k 0 (omega (arith, size_is)) ∙ sym (e.zeros k (omega arith))
    ]

    last : 0 < end → (w : Word) × ((set.contains (splits_of bytes) w ≡ true) × (length (take size bytes) ≤ word_number w / 8 + 4096))
    last l =
        let found = set_bit_of bytes (end - 1) (e.last l) (fit (end - 1)) in
        let byte : found.0 / 8 ≡ end - 1 = found.1.0 in
        (word_of found.0, (contains-word_of bytes found.0 ∙ found.1.1, rw (size_is, word_number-word_of found.0) (omega arith)))

-- whole blocks whose last block has a nonzero byte
pub AreDirectoryBytes-whole : (bytes : List ℕ) (at : ℕ) → IsBitmap bytes → ((k : ℕ) → get_or bytes k 0 < 256) → 0 < get_or bytes at 0 → length bytes ≤ at + 4096
    → AreDirectoryBytes (splits_of bytes) bytes
AreDirectoryBytes-whole bytes at p fit one near = record {
  spells = record { bits = λ w. sym (contains-splits_of bytes w); directory = p.directory };
  fit = fit;
  blocks = p.blocks;
  last = λ _.
      let found = set_bit_of bytes at one (fit at) in
      let byte : found.0 / 8 ≡ at = found.1.0 in
      (word_of found.0, (contains-word_of bytes found.0 ∙ found.1.1, rw (word_number-word_of found.0) (omega arith)));
}

-- ---- bytes and directories determine each other

pub SpellsDirectory-unique : (bytes : List ℕ) (d e : Splits) → SpellsDirectory bytes d → SpellsDirectory bytes e → d ≡ e
SpellsDirectory-unique bytes d e p q = set.same_set words_total same_word d e (λ w. sym (p.bits w) ∙ q.bits w)

-- bytes that spell a directory have neither fault
pub AreFaultless-spells : (bytes : List ℕ) (d : Splits) → SpellsDirectory bytes d → AreFaultless bytes
AreFaultless-spells bytes d p = record { shallow = λ f. few f.0 f.1; closed = λ f. kept f.0 f.1 }
  where
    of_bit : (n : ℕ) → bit_of bytes n ≡ set.contains d (word_of n)
    of_bit n = ap (bit_of bytes) (sym (word_number-word_of n)) ∙ p.bits (word_of n)

    few : (n : ℕ) → IsDeepBit bytes n → ⊥
    few n f =
        let short : length (word_of n) ≤ 30 = p.directory.short (word_of n) (sym (of_bit n) ∙ f.is_set) in
        let number : word_number (word_of n) ≡ n = word_number-word_of n in
        let long : 2 ^ 31 - 1 ≤ n = f.deep in
        let above : word_number (word_of n) + 1 < 2 ^ (length (word_of n) + 1) = word_number-lt (word_of n) in
        let most : 2 ^ (length (word_of n) + 1) ≤ 2 ^ 31 = pow-le-pow_right {n = 2} (lit< tt) (let l31 : length (word_of n) + 1 ≤ 31 = omega arith in l31) in
        absurd (omega arith)

    kept : (n : ℕ) → IsOrphanBit bytes n → ⊥
    kept n f = true≢false (sym (above_it (word_of n) (word_number-word_of n) (sym (of_bit n) ∙ f.is_set)) ∙ f.parent)
      where
        half : (b : Bool) (m : ℕ) → 2 * m + cond b 2 1 ≡ n → m ≡ (n - 1) / 2
        half true m e = omega arith
        half false m e = omega arith

        above_it : (w : Word) → word_number w ≡ n → set.contains d w ≡ true → bit_of bytes ((n - 1) / 2) ≡ true
        above_it [] e t = let low : 0 < n = f.below in absurd (omega arith)
        above_it (b ∷ w) e t = ap (bit_of bytes) (sym (half b (word_number w) e)) ∙ p.bits w ∙ p.directory.closed b w t

pub no_directory : (bytes : List ℕ) (fault : DirFault) → IsDirFault bytes fault → fault ≢ NoMemory → SpellsNoDirectory bytes
no_directory bytes TooDeep f told = λ d p. (AreFaultless-spells bytes d p).shallow f
no_directory bytes DirOrphan f told = λ d p. (AreFaultless-spells bytes d p).closed f.1
no_directory bytes NoMemory f told = λ d p. told refl

-- the canonical bytes of a directory are unique
pub AreDirectoryBytes-unique : (d : Splits) (a b : List ℕ) → AreDirectoryBytes d a → AreDirectoryBytes d b → a ≡ b
AreDirectoryBytes-unique d a b p q = same_number_lists a b (omega (arith, no_longer a b p q, no_longer b a q p)) (λ k _. byte k)
  where
    no_longer : (a b : List ℕ) → AreDirectoryBytes d a → AreDirectoryBytes d b → length a ≤ length b
    no_longer a b p q = elim (cases_lt 0 (length a)) as (λ _. length a ≤ length b) [
      | inl l ↦ reaches (p.last l).0 (p.last l).1.0 (p.last l).1.1
      | inr l ↦ omega arith
    ]
      where
        reaches : (w : Word) → set.contains d w ≡ true → length a ≤ word_number w / 8 + 4096 → length a ≤ length b
        reaches w t l = elim (cases_lt (word_number w) (8 * length b)) as (λ _. length a ≤ length b) [
          | inl i ↦ let whole_a : length a % 4096 ≡ 0 = p.blocks in let whole_b : length b % 4096 ≡ 0 = q.blocks in omega arith
          | inr i ↦ absurd (true≢false (sym t ∙ sym (q.spells.bits w) ∙ unset_past b (word_number w) i))
        ]

    bit : (n : ℕ) → bit_of a n ≡ bit_of b n
    bit n = subst (λ (m : ℕ). bit_of a m ≡ bit_of b m) (word_number-word_of n) (p.spells.bits (word_of n) ∙ sym (q.spells.bits (word_of n)))

    byte : (k : ℕ) → get_or a k 0 ≡ get_or b k 0
    byte k = same_from_bits_below 8 _ _ (p.fit k) (q.fit k) (λ i l. same_test _ _ (bit_at-lt _ i) (bit_at-lt _ i) (digit i l))
      where
        same_test : (x y : ℕ) → x < 2 → y < 2 → (x == 1) ≡ (y == 1) → x ≡ y
        same_test x y l m e = grind arith

        digit : (i : ℕ) → i < 8 → (bit_at (get_or a k 0) i == 1) ≡ (bit_at (get_or b k 0) i == 1)
        digit i l =
            let at : (8 * k + i) / 8 ≡ k = omega arith in
            let place : (8 * k + i) % 8 ≡ i = omega arith in
            let here : bit_of a (8 * k + i) ≡ bit_of b (8 * k + i) = bit (8 * k + i) in
            rw (at, place) at here
