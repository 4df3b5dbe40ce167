-- The bytes of a plan that is built from changes. `Redo.antt` defines the meaning of these bytes.
use Rattle.std.specs.Prelude.{◌≡◌, ◌≢◌, ◌⊎◌, ◌<◌, ◌≤◌, ℕ, ◌+◌, ◌/◌, ◌%◌, List, [], ◌∷◌, ◌++◌, length, drop, get_or, min}
use Rattle.sdbm_saves.specs.declared.disk.DiskFile.{DiskFile}
use Rattle.sdbm_saves.specs.declared.disk.DiskFile.TheVariants.{Pages, Directory, Redo}
use Rattle.sdbm_saves.specs.Disk.{written, resized}
use Rattle.sdbm_saves.specs.Redo.{file_of, offset_of, size_of, was_of, span_of, rest_after, replayed, data_in, signature}

-- a number below 2^32 as four bytes, little-endian
abbrev pub spelled : ℕ → List ℕ
spelled n = n % 256 ∷ n / 256 % 256 ∷ n / 65536 % 256 ∷ n / 16777216 % 256 ∷ []

abbrev pub file_code : DiskFile → ℕ
file_code Pages = 0
file_code Directory = 1
file_code Redo = 1

-- n bytes of a file from an offset on; bytes past the end of the file are zeros
abbrev pub part_of : List ℕ → ℕ → ℕ → List ℕ
part_of old at n = resized n (drop (min at (length old)) old)

-- the bytes of a change: the file, the offset, the length, the new bytes, and the old bytes
abbrev pub change_bytes : DiskFile → ℕ → List ℕ → List ℕ → List ℕ
change_bytes file at bytes was = file_code file ∷ (spelled at ++ (spelled (length bytes) ++ (bytes ++ was)))

-- the bytes of a plan: the signature, the new lengths of the pages and the directory, their old lengths, the number of changes, and the
-- changes
abbrev pub plan_bytes : ℕ → ℕ → ℕ → ℕ → ℕ → List ℕ → List ℕ
plan_bytes pages directory old_pages old_directory count changes =
    signature ++ (spelled pages ++ (spelled directory ++ (spelled old_pages ++ (spelled old_directory ++ (spelled count ++ changes)))))

abbrev pub length_in : ℕ → ℕ → DiskFile → ℕ
length_in pages directory Pages = pages
length_in pages directory Directory = directory
length_in pages directory Redo = 0

-- the change is complete and within its file, and its old bytes are those of the file
pub record FitsIn (pages directory : ℕ) (before : List ℕ × List ℕ) (change : List ℕ) : Type 0 where
  pub whole : span_of change ≤ length change
  pub inside : offset_of change + size_of change ≤ length_in pages directory (file_of change)
  pub was : (i : ℕ) → i < size_of change → get_or (was_of change) i 0 ≡ get_or (data_in before (file_of change)) (offset_of change + i) 0

-- The bytes are `count` changes and nothing else. `before` are the bytes of both files before the changes; `pages` and `directory` are the
-- new lengths.
pub record AreChanges (pages directory : ℕ) (before : List ℕ × List ℕ) (count : ℕ) (changes : List ℕ) : Type 0 where
  pub fits : (k : ℕ) → k < count → FitsIn pages directory before (rest_after k changes)
  pub ends : rest_after count changes ≡ []

-- `after` is `before` with the new bytes at an offset, provided that each byte of `before` there is the old or the new one
abbrev pub Puts : ℕ → List ℕ → List ℕ → List ℕ → List ℕ → Type 0
Puts at old new before after =
    at + length new ≤ length before
    → ((i : ℕ) → i < length new → (get_or before (at + i) 0 ≡ get_or old i 0) ⊎ (get_or before (at + i) 0 ≡ get_or new i 0))
    → after ≡ written at new before

-- the `size` bytes of a file from an offset on are those of `old`; bytes past the end of `old` or of the file count as zeros
abbrev pub ReadsAt : ℕ → List ℕ → ℕ → List ℕ → Type 0
ReadsAt at old size file = (i : ℕ) → i < size → get_or old i 0 ≡ get_or file (at + i) 0

-- `after` is `before` and more changes; these write the new bytes over the old bytes at an offset of a file, and contain the old bytes
pub record HasPut (pages directory : ℕ) (both : List ℕ × List ℕ) (file : DiskFile) (at : ℕ) (old new : List ℕ) (few : ℕ) (before : List ℕ) (many : ℕ) (after : List ℕ) : Type 0 where
  pub changes : AreChanges pages directory both many after
  pub put : (x : List ℕ) → Puts at old new (replayed file few before x) (replayed file many after x)
  pub others : (g : DiskFile) → g ≢ file → (x : List ℕ) → replayed g many after x ≡ replayed g few before x

-- the first `upto` bytes of a block are those of `known`, except the bytes from `start` to `end`
pub record AreOutside (known block : List ℕ) (start end upto : ℕ) : Type 0 where
  pub before : (i : ℕ) → i < start → get_or block i 0 ≡ get_or known i 0
  pub after : (i : ℕ) → end ≤ i → i < upto → i < length block → get_or block i 0 ≡ get_or known i 0
  pub inside : end ≤ length block
