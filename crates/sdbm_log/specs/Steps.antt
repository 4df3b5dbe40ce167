-- The calls that steps represent, and the promises of this crate's lists of steps.
use Rattle.std.specs.Prelude.{◌≡◌, ◌⊎◌, ℕ, List, ◌∷◌, map, take, drop, replicate}
use Rattle.sdbm_saves.specs.Disk.{Image}
use Rattle.sdbm_saves.specs.Acts.{Act, write, resize, sync, seen_after, LeftAfter}
use Rattle.sdbm_saves.specs.Redo.{files, renewed_files}
use Rattle.sdbm_log.specs.declared.steps.Step.{Step}
use Rattle.sdbm_log.specs.declared.steps.Step.TheVariants.{Write, Zeros, Resize, Sync}
use Rattle.sdbm_log.specs.Log.{Holds, files_of, IsReady, IsAtRest}
use Rattle.sdbm_log.specs.Doing.{Does}

-- the call that a step represents; the bytes of writes are in one buffer
abbrev pub act_of : List ℕ → Step → Act
act_of bytes (Write file at from len) = write file at (take len (drop from bytes))
act_of bytes (Zeros file at len) = write file at (replicate len 0)
act_of bytes (Resize file len) = resize file len
act_of bytes (Sync file) = sync file

abbrev pub acts_of : List ℕ → List Step → List Act
acts_of bytes steps = map (act_of bytes) steps

-- a buffer of steps: it begins with the commit byte and the first nine bytes of an empty log
abbrev pub with_head : List ℕ → List ℕ
with_head rest = 1 ∷ 0 ∷ 115 ∷ 100 ∷ 98 ∷ 109 ∷ 108 ∷ 111 ∷ 103 ∷ 49 ∷ rest

-- The promise of a save. A crash during the calls of `commit` leaves the files with or without the plan applied; a crash after these calls
-- leaves the files with the plan applied. After the calls of `apply`, both data files have the plan applied, and the log is ready for the
-- next save.
pub record IsSave (plan : List ℕ) (commit apply : List Act) (end room count : ℕ) (seen : Image) (may_leave : Image → Type 0) : Type 0 where
  pub commits : Does commit seen may_leave (λ c. Holds (files seen) c ⊎ Holds (renewed_files plan seen) c)
      (λ s m. Holds (renewed_files plan seen) s × ((c : Image) → m c → Holds (renewed_files plan seen) c))
  pub applies : Does apply (seen_after commit seen) (LeftAfter commit seen may_leave) (λ c. Holds (renewed_files plan seen) c)
      (λ s m. IsReady end room count s m × (files s ≡ renewed_files plan seen))

-- The promise of opening a log. A crash at any time leaves an image that it might have left before, or an image that represents the same
-- files. Afterwards the data files are those that the image represented before, and the log is ready for a save.
abbrev pub IsOpening : List Act → ℕ → ℕ → ℕ → Image → (Image → Type 0) → Type 0
IsOpening acts end room count seen may_leave =
    Does acts seen may_leave (λ c. may_leave c ⊎ Holds (files_of seen) c) (λ s m. IsReady end room count s m × (files s ≡ files_of seen))

-- The promise of recovering the files: like opening, but afterwards no save is in progress.
abbrev pub IsRecovering : List Act → Image → (Image → Type 0) → Type 0
IsRecovering acts seen may_leave = Does acts seen may_leave (λ c. may_leave c ⊎ Holds (files_of seen) c) (λ s m. IsAtRest s m × (files s ≡ files_of seen))

-- The promise of closing a log. A crash at any time leaves the same files. Afterwards no save is in progress.
abbrev pub IsClosing : List Act → Image → (Image → Type 0) → Type 0
IsClosing acts seen may_leave = Does acts seen may_leave (λ c. Holds (files seen) c) (λ s m. IsAtRest s m × (files s ≡ files seen))
