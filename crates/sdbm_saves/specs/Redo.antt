-- The format and the meaning of a redo file with a single save (specs/Log.antt of sdbm_log defines a log of saves). The file has a commit
-- byte (mark), which is 1 if the save is committed, and the plan of the save. A plan has an eight-byte signature, the new lengths of the
-- pages and the directory, their old lengths, the number of changes, and the changes; nothing follows the last change. A change has a file
-- (0 for the pages, otherwise the directory), an offset, a length, the new bytes, and the old bytes; bytes past the end of a file count as
-- zeros. Numbers have four bytes, little-endian. This is a redo log with old and new bytes: one write commits a plan, and the plan may be
-- applied any number of times (Gray and Reuter, Transaction Processing 1993, chapters 9 and 10).
use Rattle.std.specs.Prelude.{◌<◌, ◌≡◌, ◌≢◌, ◌⊎◌, ℕ, zero, suc, ◌+◌, ◌*◌, ◌≤◌, List, [], ◌∷◌, length, take, drop, get_or, if◌then◌else◌, ◌==◌, min, max}
use Rattle.sdbm_saves.specs.declared.disk.DiskFile.{DiskFile}
use Rattle.sdbm_saves.specs.declared.disk.DiskFile.TheVariants.{Pages, Directory, Redo}
use Rattle.sdbm_saves.specs.Disk.{Image, written, resized}

unfoldable pub number_at : List ℕ → ℕ → ℕ
number_at bytes at = get_or bytes at 0 + 256 * get_or bytes (at + 1) 0 + 65536 * get_or bytes (at + 2) 0 + 16777216 * get_or bytes (at + 3) 0

-- the file with this code
abbrev pub data_file : ℕ → DiskFile
data_file zero = Pages
data_file (suc n) = Directory

-- the parts of the first change in these bytes
abbrev pub file_of : List ℕ → DiskFile
file_of change = data_file (get_or change 0 0)

abbrev pub offset_of : List ℕ → ℕ
offset_of change = number_at change 1

abbrev pub size_of : List ℕ → ℕ
size_of change = number_at change 5

abbrev pub data_of : List ℕ → List ℕ
data_of change = take (size_of change) (drop 9 change)

-- the old bytes of the first change
abbrev pub was_of : List ℕ → List ℕ
was_of change = take (size_of change) (drop (9 + size_of change) change)

-- the size of the first change in bytes
abbrev pub span_of : List ℕ → ℕ
span_of change = 9 + (size_of change + size_of change)

abbrev pub rest_of : List ℕ → List ℕ
rest_of change = drop (span_of change) change

-- the bytes after the first n changes
abbrev pub rest_after : ℕ → List ℕ → List ℕ
rest_after zero changes = changes
rest_after (suc n) changes = rest_after n (rest_of changes)

-- the result of applying a change of the file `touched` to the bytes of `file`; a change of another file has no effect
abbrev pub effect : DiskFile → DiskFile → List ℕ → List ℕ → List ℕ
effect Pages Pages change old = written (offset_of change) (data_of change) old
effect Directory Directory change old = written (offset_of change) (data_of change) old
effect touched file change old = old

-- the result of applying the first n changes to the bytes of a file
abbrev pub replayed : DiskFile → ℕ → List ℕ → List ℕ → List ℕ
replayed file zero changes old = old
replayed file (suc n) changes old = replayed file n (rest_of changes) (effect (file_of changes) file changes old)

abbrev pub new_length : DiskFile → List ℕ → ℕ
new_length Pages plan = number_at plan 8
new_length Directory plan = number_at plan 12
new_length Redo plan = 0

abbrev pub old_length : DiskFile → List ℕ → ℕ
old_length Pages plan = number_at plan 16
old_length Directory plan = number_at plan 20
old_length Redo plan = 0

abbrev pub count_of : List ℕ → ℕ
count_of plan = number_at plan 24

abbrev pub changes_of : List ℕ → List ℕ
changes_of plan = drop 28 plan

-- the result of applying the whole plan to the bytes of a file
abbrev pub renewed : DiskFile → List ℕ → List ℕ → List ℕ
renewed file plan old = replayed file (count_of plan) (changes_of plan) (resized (new_length file plan) old)

-- the result of applying the first n changes to an image, without the change of lengths
abbrev pub replayed_image : ℕ → List ℕ → Image → Image
replayed_image n plan image = record { pages = replayed Pages n (changes_of plan) image.pages; directory = replayed Directory n (changes_of plan) image.directory; redo = image.redo }

abbrev pub renewed_image : List ℕ → Image → Image
renewed_image plan image = record { pages = renewed Pages plan image.pages; directory = renewed Directory plan image.directory; redo = image.redo }

-- the change is complete and within its file
pub record Fits (plan change : List ℕ) : Type 0 where
  pub whole : span_of change ≤ length change
  pub inside : offset_of change + size_of change ≤ new_length (file_of change) plan

-- the bytes of "sdbmred2"
abbrev pub signature : List ℕ
signature = 115 ∷ 100 ∷ 98 ∷ 109 ∷ 114 ∷ 101 ∷ 100 ∷ 50 ∷ []

pub record IsPlan (plan : List ℕ) : Type 0 where
  pub header : 28 ≤ length plan
  pub signed : take 8 plan ≡ signature
  pub fits : (k : ℕ) → k < count_of plan → Fits plan (rest_after k (changes_of plan))
  pub ends : rest_after (count_of plan) (changes_of plan) ≡ []

-- both data files
abbrev pub files : Image → List ℕ × List ℕ
files image = (image.pages, image.directory)

abbrev pub renewed_files : List ℕ → Image → List ℕ × List ℕ
renewed_files plan image = (renewed Pages plan image.pages, renewed Directory plan image.directory)

abbrev pub mark_of : Image → ℕ
mark_of image = get_or image.redo 0 0

-- the data files that an image represents: its own data files, with the plan applied if the mark is 1
abbrev pub stands_for : Image → List ℕ × List ℕ
stands_for image = if mark_of image == 1 then renewed_files (drop 1 image.redo) image else files image

-- a change of the plan, followed by the rest of the plan
pub record IsChangeOf (plan change : List ℕ) : Type 0 where
  pub index : ℕ
  pub counted : index < count_of plan
  pub is : change ≡ rest_after index (changes_of plan)

-- The change covers this offset of the file, and `byte` is the new or the old byte of the change at this offset.
pub record Offers (change : List ℕ) (file : DiskFile) (at byte : ℕ) : Type 0 where
  pub touches : file_of change ≡ file
  pub index : ℕ
  pub covered : index < size_of change
  pub place : offset_of change + index ≡ at
  pub is : (byte ≡ get_or (data_of change) index 0) ⊎ (byte ≡ get_or (was_of change) index 0)

-- some change of the plan covers this offset of the file and has `byte` there
pub record HasByte (plan : List ℕ) (file : DiskFile) (at byte : ℕ) : Type 0 where
  pub change : List ℕ
  pub one : IsChangeOf plan change
  pub offers : Offers change file at byte

-- a length is one of two lengths or between them
pub record IsBetween (one other len : ℕ) : Type 0 where
  pub no_shorter : min one other ≤ len
  pub no_longer : len ≤ max one other

abbrev pub data_in : List ℕ × List ℕ → DiskFile → List ℕ
data_in both Pages = both.0
data_in both Directory = both.1
data_in both Redo = []

-- each byte of a file in the range of a change is the new or the old byte of some change of the plan
abbrev pub KnowsBlock : List ℕ → List ℕ → List ℕ → Type 0
KnowsBlock plan change bytes = (i : ℕ) → i < size_of change → HasByte plan (file_of change) (offset_of change + i) (get_or bytes (offset_of change + i) 0)

-- The plan knows the data files: it was made for these files, and a part of the plan may already be applied. Each byte in the range of a
-- change is old or new, and each length is old, new, or between.
pub record Knows (plan : List ℕ) (both : List ℕ × List ℕ) : Type 0 where
  pub pages : IsBetween (old_length Pages plan) (new_length Pages plan) (length both.0)
  pub directory : IsBetween (old_length Directory plan) (new_length Directory plan) (length both.1)
  pub bytes : (change : List ℕ) → IsChangeOf plan change → KnowsBlock plan change (data_in both (file_of change))

-- An interrupted save can be recovered: if the commit byte is 1, the bytes after it are a plan that knows the files. Otherwise there is
-- nothing to recover.
abbrev pub CanEnd : Image → Type 0
CanEnd image = mark_of image ≡ 1 → IsPlan (drop 1 image.redo) × Knows (drop 1 image.redo) (files image)

-- The images have the same redo file, and the plan has the same result on both. If the plan knows the files of `old`, it also knows the
-- files of `new`.
pub record Alike (plan : List ℕ) (old new : Image) : Type 0 where
  pub redo : new.redo ≡ old.redo
  pub same : renewed_files plan new ≡ renewed_files plan old
  pub known : Knows plan (files old) → Knows plan (files new)

-- `whole` is a plan that ends with the changes of `plan` and has the same new lengths
pub record EndsWith (whole plan : List ℕ) : Type 0 where
  pub is_plan : IsPlan whole
  pub before : ℕ
  pub count : count_of whole ≡ before + count_of plan
  pub changes : rest_after before (changes_of whole) ≡ changes_of plan
  pub lengths : (g : ℕ) → new_length (data_file g) whole ≡ new_length (data_file g) plan

-- the images are alike for each plan that ends with this one
abbrev pub AlikeFor : List ℕ → Image → Image → Type 0
AlikeFor plan old new = (whole : List ℕ) → EndsWith whole plan → Alike whole old new

-- the data files are unchanged, and the commit byte does not become 1
pub record StaysUnmarked (old new : Image) : Type 0 where
  pub files : files new ≡ files old
  pub mark : mark_of old ≢ 1 → mark_of new ≢ 1
