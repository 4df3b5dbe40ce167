-- A directory stored as a list of bytes: bit n is 1 if and only if word number n is split (Yigit, sdbm 1990: the `.dir` file).
use Rattle.std.specs.Prelude.{◌≡◌, ℕ, zero, suc, ◌*◌, ◌%◌, ◌^◌, ◌≤◌, cond, List, length}
use Rattle.std.specs.FinSet as set
use Rattle.sdbm_addr.specs.Directory.{Splits, IsDirectory}
use Rattle.sdbm_addr.specs.DirectoryFile.{bit_of}
use Rattle.sdbm_dir.specs.Words.{word_of}

-- the words with a number below n whose bits are 1
abbrev pub splits_below : List ℕ → ℕ → Splits
splits_below bytes zero = set.empty
splits_below bytes (suc n) = cond (bit_of bytes n) (set.insert (splits_below bytes n) (word_of n)) (splits_below bytes n)

-- the words whose bits are 1
unfoldable pub splits_of : List ℕ → Splits
splits_of bytes = splits_below bytes (8 * length bytes)

-- bytes in whole blocks that represent a valid directory
pub record IsBitmap (bytes : List ℕ) : Type 0 where
  pub directory : IsDirectory (splits_of bytes)
  pub short : length bytes ≤ 2 ^ 29
  pub blocks : length bytes % 4096 ≡ 0
