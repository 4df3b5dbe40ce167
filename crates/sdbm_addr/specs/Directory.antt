-- The split prefixes of hashes, and the page of each hash (Larson 1978, "Dynamic hashing": the index as a forest of binary trees;
-- Yigit, sdbm 1990: sdbm.c, `getpage`: a trie stored as an array of bits).
-- A word is written in reverse: its last letter is the head of the list, so `∷` adds a letter.
use Rattle.std.specs.Prelude.{◌≡◌, ℕ, ◌+◌, ◌*◌, ◌/◌, ◌%◌, ◌^◌, ◌<◌, ◌≤◌, Bool, true, false, List, [], ◌∷◌, length, suc, zero, ◌==◌, cond}
use Rattle.std.specs.Ordering.{bool_cmp}
use Rattle.std.specs.declared.cmp.Ordering.{Ordering}
use Rattle.std.specs.Cmp.Lexicographic.{slice_cmp}
use Rattle.std.specs.FinSet as set
use Rattle.std.specs.FinSet.{FinSet}

-- the letters of a hash's prefix, the last letter first
abbrev pub Word : Type 0
Word = List Bool

abbrev pub word_cmp : Word → Word → Ordering
word_cmp = slice_cmp bool_cmp

-- the set of split prefixes
abbrev pub Splits : Type 0
Splits = FinSet word_cmp

-- every shorter prefix of a split prefix is split, and a split prefix has at most 30 letters
pub record IsDirectory (d : Splits) : Type 0 where
  pub closed : (b : Bool) (w : Word) → set.contains d (b ∷ w) ≡ true → set.contains d w ≡ true
  pub short : (w : Word) → set.contains d w ≡ true → length w ≤ 30

-- The number of a word and of its directory bit: the empty word has number 0; each further letter doubles the number and adds 1 or 2.
abbrev pub word_number : Word → ℕ
word_number [] = 0
word_number (b ∷ w) = 2 * word_number w + cond b 2 1

-- the word as a number whose lowest bit is the first letter
abbrev pub page_number : Word → ℕ
page_number [] = 0
page_number (b ∷ w) = page_number w + cond b (2 ^ length w) 0

-- bit n of a hash; bit 0 is the lowest
abbrev pub hash_bit : ℕ → ℕ → Bool
hash_bit n hash = (hash / 2 ^ n % 2) == 1

-- the word of the n lowest bits of a hash; its first letter is the lowest bit
abbrev pub hash_prefix : ℕ → ℕ → Word
hash_prefix zero hash = []
hash_prefix (suc n) hash = hash_bit n hash ∷ hash_prefix n hash

-- h is the length of the hash's shortest prefix that is not split
pub record IsDepth (d : Splits) (hash h : ℕ) : Type 0 where
  pub leaf : set.contains d (hash_prefix h hash) ≡ false
  pub above : (k : ℕ) → k < h → set.contains d (hash_prefix k hash) ≡ true

-- the length of the hash's shortest unsplit prefix with h to h + n - 1 letters, or h + n if all these prefixes are split
abbrev pub depth_from : Splits → ℕ → ℕ → ℕ → ℕ
depth_from d hash zero h = h
depth_from d hash (suc n) h = cond (set.contains d (hash_prefix h hash)) (depth_from d hash n (h + 1)) h

unfoldable pub depth_of : Splits → ℕ → ℕ
depth_of d hash = depth_from d hash 31 0

-- the page that a hash leads to
unfoldable pub page_of : Splits → ℕ → ℕ
page_of d hash = page_number (hash_prefix (depth_of d hash) hash)
