-- The bytes of a directory, the `.dir` file (Yigit, sdbm 1990: sdbm.c, `getdbit` and `setdbit`): an array with one bit for each word. It
-- represents the trees of Larson 1978, "Dynamic hashing". The bytes are written in blocks of 4,096 (`DBLKSIZ`).
use Rattle.std.specs.Prelude.{◌≡◌, ℕ, ◌+◌, ◌/◌, ◌%◌, ◌^◌, ◌-◌, ◌<◌, ◌≤◌, ◌==◌, Bool, true, false, List, length, slice_index_or}
use Rattle.std.specs.Int.{bit_at}
use Rattle.std.specs.FinSet as set
use Rattle.sdbm_addr.specs.Directory.{Word, Splits, IsDirectory, word_number}

-- Bit n of the bytes: bit n % 8 of byte n / 8; bit 0 is the lowest. Bits after the end are 0 (our own rule).
abbrev pub bit_of : List ℕ → ℕ → Bool
bit_of bytes n = bit_at (slice_index_or bytes (n / 8) 0) (n % 8) == 1

-- The bytes spell a directory: the bit of a word is 1 if and only if the word is split. Trailing zeros do not matter.
pub record SpellsDirectory (bytes : List ℕ) (d : Splits) : Type 0 where
  pub bits : (w : Word) → bit_of bytes (word_number w) ≡ set.contains d w
  pub directory : IsDirectory d

-- The canonical bytes of a directory, which are written to its file (our own rule): whole blocks, and the last block has the bit of a split
-- word.
pub record AreDirectoryBytes (d : Splits) (bytes : List ℕ) : Type 0 where
  pub spells : SpellsDirectory bytes d
  pub fit : (k : ℕ) → slice_index_or bytes k 0 < 256
  pub blocks : length bytes % 4096 ≡ 0
  pub last : 0 < length bytes → (w : Word) × ((set.contains d w ≡ true) × (length bytes ≤ word_number w / 8 + 4096))

-- a bit that is 1 and belongs to a word of more than 30 letters
pub record IsDeepBit (bytes : List ℕ) (bit : ℕ) : Type 0 where
  pub is_set : bit_of bytes bit ≡ true
  pub deep : 2 ^ 31 - 1 ≤ bit

-- a bit that is 1 although the bit of its word's parent is 0
pub record IsOrphanBit (bytes : List ℕ) (bit : ℕ) : Type 0 where
  pub is_set : bit_of bytes bit ≡ true
  pub below : 0 < bit
  pub parent : bit_of bytes ((bit - 1) / 2) ≡ false

abbrev pub HasDeepBit : List ℕ → Type 0
HasDeepBit bytes = (bit : ℕ) × IsDeepBit bytes bit

abbrev pub HasOrphanBit : List ℕ → Type 0
HasOrphanBit bytes = (bit : ℕ) × IsOrphanBit bytes bit
