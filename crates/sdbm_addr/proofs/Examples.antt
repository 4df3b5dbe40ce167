-- The definitions at values computed by hand: hashes, numbers of words and of pages, the bytes of pages and of directories.
use Rattle.std.proofs.Common.{◌≡◌, ℕ, zero, suc, ◌/◌, ◌%◌, ◌-◌, ◌^◌, ◌<◌, ◌≤◌, ◌==◌, ◌||◌, List, [], ◌∷◌, ◌++◌, length, get_or, replicate, Bool, true, false, refl, sym, ap, ◌∙◌, arith, inl, inr, lit<, lit≤}
use Rattle.std.specs.Int.{bit_at}
use Rattle.std.specs.FinSet as set
use Rattle.std.specs.Ordering.{eq_by_cmp}
use Rattle.std.proofs.lemmas.Bool.{cases_lt, true≢false}
use Rattle.std.proofs.lemmas.Nat.Bits.{bit_at-zero, bit_at_above}
use Rattle.std.proofs.lemmas.List.{get_or_past, get_or-replicate, length-replicate}
use Rattle.std.proofs.Math.Seq.{get_or-append_seam}
use Rattle.sdbm_addr.specs.declared.KeyBytes.TheVariants.{Signed, Unsigned}
use Rattle.sdbm_addr.specs.declared.PageSize.TheVariants.{Small, Wide}
use Rattle.sdbm_addr.specs.Hash.{hash_of}
use Rattle.sdbm_addr.specs.Directory.{Word, word_cmp, Splits, word_number, page_number, hash_prefix}
use Rattle.sdbm_addr.specs.DirectoryFile.{bit_of, SpellsDirectory, AreDirectoryBytes, HasDeepBit, HasOrphanBit}
use Rattle.sdbm_addr.specs.Layout.{bytes_with, bytes_of_page}
use Rattle.sdbm_addr.proofs.DirectoryLemmas.{contains-insert}

-- ---- hashes: of the empty key, of `a`, `ab` and `abc`, and of the byte 255 as signed and as unsigned

hash-empty : hash_of Signed [] ≡ 0
unfolding hash_of
hash-empty = refl

hash-a : hash_of Signed (97 ∷ []) ≡ 97
unfolding hash_of
hash-a = refl

hash-ab : hash_of Signed (97 ∷ 98 ∷ []) ≡ 6363201
unfolding hash_of
hash-ab = refl

hash-abc : hash_of Signed (97 ∷ 98 ∷ 99 ∷ []) ≡ 807794786
unfolding hash_of
hash-abc = refl

hash-signed : hash_of Signed (255 ∷ []) ≡ 4294967295
unfolding hash_of
hash-signed = refl

hash-unsigned : hash_of Unsigned (255 ∷ []) ≡ 255
unfolding hash_of
hash-unsigned = refl

-- ---- places: the hash of `c` is 99, whose lowest bits are 11; its prefix of two letters is the word numbered 6, on page 3

prefix-c : hash_prefix 2 99 ≡ true ∷ true ∷ []
prefix-c = refl

number-c : word_number (hash_prefix 2 99) ≡ 6
number-c = refl

page-c : page_number (hash_prefix 2 99) ≡ 3
page-c = refl

-- the hash of `a` is 97, whose lowest bits are 01: the lowest bit is the first letter, at the end of the list
page-a : page_number (hash_prefix 2 97) ≡ 1
page-a = refl

-- ten zeros are the word numbered 1023; nine zeros followed by a one lead to page 512
number-zeros : word_number (hash_prefix 10 0) ≡ 1023
number-zeros = refl

page-ones : page_number (hash_prefix 10 524800) ≡ 512
page-ones = refl

-- ---- bytes of pages

-- the pair `ab`, `xyz`
bytes-one : bytes_of_page Small ((97 ∷ 98 ∷ [], 120 ∷ 121 ∷ 122 ∷ []) ∷ []) ≡ 2 ∷ 0 ∷ 254 ∷ 3 ∷ 251 ∷ 3 ∷ (replicate 1013 0 ++ 120 ∷ 121 ∷ 122 ∷ 97 ∷ 98 ∷ [])
unfolding bytes_of_page bytes_with
bytes-one = refl

-- the same pair on a large page
bytes-wide : bytes_of_page Wide ((97 ∷ 98 ∷ [], 120 ∷ 121 ∷ 122 ∷ []) ∷ []) ≡ 2 ∷ 0 ∷ 254 ∷ 31 ∷ 251 ∷ 31 ∷ (replicate 8181 0 ++ 120 ∷ 121 ∷ 122 ∷ 97 ∷ 98 ∷ [])
unfolding bytes_of_page bytes_with
bytes-wide = refl

-- the pair `a`, 1,007 zeros: ten bytes are free between index and pair
bytes-full : bytes_of_page Small ((97 ∷ [], replicate 1007 0) ∷ []) ≡ 2 ∷ 0 ∷ 255 ∷ 3 ∷ 16 ∷ 0 ∷ (replicate 1017 0 ++ 97 ∷ [])
unfolding bytes_of_page bytes_with
bytes-full = refl

-- the pairs `b`, `2` and `a`, `3`
bytes-two : bytes_of_page Small ((98 ∷ [], 50 ∷ []) ∷ (97 ∷ [], 51 ∷ []) ∷ []) ≡ 4 ∷ 0 ∷ 255 ∷ 3 ∷ 254 ∷ 3 ∷ 253 ∷ 3 ∷ 252 ∷ 3 ∷ (replicate 1010 0 ++ 51 ∷ 97 ∷ 50 ∷ 98 ∷ [])
unfolding bytes_of_page bytes_with
bytes-two = refl

-- ---- bytes of directories

-- a byte below 2^k has no bit from k on
unset-above : (b k n : ℕ) → b < 2 ^ k → k ≤ n → bit_of (b ∷ []) n ≡ false
unset-above b k n l h = elim (cases_lt n 8) as (λ _. bit_of (b ∷ []) n ≡ false) [
  | inl i ↦ let byte : n / 8 ≡ 0 = omega arith in let place : n % 8 ≡ n = omega arith in rw (byte, place, bit_at_above b k n l h) refl
  | inr i ↦ rw (get_or_past (b ∷ []) (n / 8) 0 (omega arith), bit_at-zero (n % 8)) refl
]

-- the empty word, and the word 1, whose number is 2
abbrev split-twice : Splits
split-twice = set.insert (set.insert set.empty []) (true ∷ [])

in-split-twice : (w : Word) → set.contains split-twice w ≡ (eq_by_cmp word_cmp w (true ∷ []) || (eq_by_cmp word_cmp w [] || false))
in-split-twice w =
    contains-insert (set.insert set.empty []) (true ∷ []) w
    ∙ ap (λ b. eq_by_cmp word_cmp w (true ∷ []) || b) (contains-insert set.empty [] w ∙ ap (λ b. eq_by_cmp word_cmp w [] || b) (set.contains-empty word_cmp w))

-- the byte `05` spells the directory of these two
spells-five : SpellsDirectory (5 ∷ []) split-twice
spells-five = record { bits = bits; directory = record { closed = closed; short = short } }
  where
    bits : (w : Word) → bit_of (5 ∷ []) (word_number w) ≡ set.contains split-twice w
    bits [] = sym (in-split-twice [])
    bits (true ∷ []) = sym (in-split-twice (true ∷ []))
    bits (false ∷ []) = sym (in-split-twice (false ∷ []))
    bits (true ∷ true ∷ w) = unset-above 5 3 (word_number (true ∷ true ∷ w)) (lit< tt) (omega arith) ∙ sym (in-split-twice (true ∷ true ∷ w))
    bits (true ∷ false ∷ w) = unset-above 5 3 (word_number (true ∷ false ∷ w)) (lit< tt) (omega arith) ∙ sym (in-split-twice (true ∷ false ∷ w))
    bits (false ∷ true ∷ w) = unset-above 5 3 (word_number (false ∷ true ∷ w)) (lit< tt) (omega arith) ∙ sym (in-split-twice (false ∷ true ∷ w))
    bits (false ∷ false ∷ w) = unset-above 5 3 (word_number (false ∷ false ∷ w)) (lit< tt) (omega arith) ∙ sym (in-split-twice (false ∷ false ∷ w))

    closed : (b : Bool) (w : Word) → set.contains split-twice (b ∷ w) ≡ true → set.contains split-twice w ≡ true
    closed b [] t = in-split-twice []
    closed true (c ∷ w) t = absurd (true≢false (sym t ∙ in-split-twice (true ∷ c ∷ w)))
    closed false (c ∷ w) t = absurd (true≢false (sym t ∙ in-split-twice (false ∷ c ∷ w)))

    short : (w : Word) → set.contains split-twice w ≡ true → length w ≤ 30
    short [] t = omega arith
    short (b ∷ []) t = omega arith
    short (true ∷ c ∷ w) t = absurd (true≢false (sym t ∙ in-split-twice (true ∷ c ∷ w)))
    short (false ∷ c ∷ w) t = absurd (true≢false (sym t ∙ in-split-twice (false ∷ c ∷ w)))

-- the empty directory is spelled by no bytes, which are its canonical bytes
own-none : AreDirectoryBytes set.empty []
own-none = record {
  spells = record {
    bits = λ w. rw (get_or_past {X = ℕ} [] (word_number w / 8) 0 (omega arith), bit_at-zero (word_number w % 8)) (sym (set.contains-empty word_cmp w));
    directory = record {
      closed = λ b w t. absurd (true≢false (sym t ∙ set.contains-empty word_cmp (b ∷ w)));
      short = λ w t. absurd (true≢false (sym t ∙ set.contains-empty word_cmp w));
    };
  };
  fit = λ k. lit< tt;
  blocks = refl;
  last = λ l. absurd (omega arith);
}

-- the directory of the empty word is written as one block whose first byte is `01`
abbrev split-once : Splits
split-once = set.insert set.empty []

in-split-once : (w : Word) → set.contains split-once w ≡ (eq_by_cmp word_cmp w [] || false)
in-split-once w = contains-insert set.empty [] w ∙ ap (λ b. eq_by_cmp word_cmp w [] || b) (set.contains-empty word_cmp w)

abbrev zeros : ℕ → List ℕ
zeros n = replicate n 0

zeros-everywhere : (n k : ℕ) → get_or (zeros n) k 0 ≡ 0
zeros-everywhere n k = elim (cases_lt k n) as (λ _. get_or (zeros n) k 0 ≡ 0) [
  | inl l ↦ get_or-replicate n k 0 0 l
  | inr l ↦ let long : length (zeros n) ≡ n = length-replicate n 0 in get_or_past (zeros n) k 0 (omega arith)
]

-- all bytes after the first are zero
block-past : (rest : List ℕ) → ((k : ℕ) → get_or rest k 0 ≡ 0) → (n : ℕ) → 1 ≤ n → bit_of (1 ∷ rest) n ≡ false
block-past rest all n l = elim (cases_lt n 8) as (λ _. bit_of (1 ∷ rest) n ≡ false) [
  | inl i ↦ let byte : n / 8 ≡ 0 = omega arith in let place : n % 8 ≡ n = omega arith in rw (byte, place, bit_at_above 1 1 n (lit< tt) l) refl
  | inr i ↦ let byte : n / 8 ≡ suc (n / 8 - 1) = omega arith in rw (byte, all (n / 8 - 1), bit_at-zero (n % 8)) refl
]

own-root : AreDirectoryBytes split-once (1 ∷ zeros 4095)
own-root = record {
  spells = record { bits = bits; directory = record { closed = closed; short = short } };
  fit = fit;
  blocks = refl;
  last = λ l. ([], (in-split-once [], lit≤ tt));
}
  where
    bits : (w : Word) → bit_of (1 ∷ zeros 4095) (word_number w) ≡ set.contains split-once w
    bits [] = sym (in-split-once [])
    bits (true ∷ w) = block-past (zeros 4095) (zeros-everywhere 4095) (word_number (true ∷ w)) (omega arith) ∙ sym (in-split-once (true ∷ w))
    bits (false ∷ w) = block-past (zeros 4095) (zeros-everywhere 4095) (word_number (false ∷ w)) (omega arith) ∙ sym (in-split-once (false ∷ w))

    closed : (b : Bool) (w : Word) → set.contains split-once (b ∷ w) ≡ true → set.contains split-once w ≡ true
    closed b w t = absurd (true≢false (sym t ∙ in-split-once (b ∷ w)))

    short : (w : Word) → set.contains split-once w ≡ true → length w ≤ 30
    short [] t = omega arith
    short (b ∷ w) t = absurd (true≢false (sym t ∙ in-split-once (b ∷ w)))

    fit : (k : ℕ) → get_or (1 ∷ zeros 4095) k 0 < 256
    fit zero = lit< tt
    fit (suc k) = omega (arith, zeros-everywhere 4095 k)

-- `02` sets the bit of the word 0 without that of the empty word
orphan-two : HasOrphanBit (2 ∷ [])
orphan-two = (1, record { is_set = refl; below = lit< tt; parent = refl })

-- the last bit of 2^28 bytes is too deep
deep-bit : (front : List ℕ) → length front ≡ 2 ^ 28 - 1 → HasDeepBit (front ++ 128 ∷ [])
deep-bit front long = (2 ^ 31 - 1, record { is_set = at (get_or-append_seam front 128 [] 0); deep = omega arith })
  where
    at : get_or (front ++ 128 ∷ []) (length front) 0 ≡ 128 → bit_of (front ++ 128 ∷ []) (2 ^ 31 - 1) ≡ true
    at e = ap (λ x. bit_at x 7 == 1) (ap (λ k. get_or (front ++ 128 ∷ []) k 0) (sym long) ∙ e)
