-- The offsets of a data file that the changes of a plan cover, and the bytes that the changes have there.
use Rattle.std.specs.Prelude.{◌<◌, ◌≡◌, ◌⊎◌, ℕ, ◌+◌, List, get_or}
use Rattle.sdbm_saves.specs.declared.disk.DiskFile.{DiskFile}
use Rattle.sdbm_saves.specs.Redo.{file_of, offset_of, size_of, data_of, was_of, IsChangeOf, KnowsBlock}

-- `byte` is the new or the old byte of a change at index i
abbrev pub HasOwn : List ℕ → ℕ → ℕ → Type 0
HasOwn change i byte = (byte ≡ get_or (data_of change) i 0) ⊎ (byte ≡ get_or (was_of change) i 0)

-- the change covers the offset `at`
pub record IsIn (change : List ℕ) (at : ℕ) : Type 0 where
  pub index : ℕ
  pub covered : index < size_of change
  pub place : offset_of change + index ≡ at

-- some change of the plan covers this offset of the file
pub record Covers (plan : List ℕ) (file : DiskFile) (at : ℕ) : Type 0 where
  pub change : List ℕ
  pub one : IsChangeOf plan change
  pub touches : file_of change ≡ file
  pub inside : IsIn change at

-- the plan knows the bytes of one data file; the length of the file does not matter
abbrev pub KnowsFile : List ℕ → DiskFile → List ℕ → Type 0
KnowsFile plan file bytes = (change : List ℕ) → IsChangeOf plan change → file_of change ≡ file → KnowsBlock plan change bytes
