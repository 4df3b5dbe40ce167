-- The files after a list of recorded calls, and the images that a crash may leave after these calls.
use Rattle.std.specs.Prelude.{◌≡◌, ◌≤◌, ℕ, List, [], ◌∷◌, ◌++◌, length, take, Result, Ok, Err}
use Rattle.std.proofs.Common.{sym, subst, arith}
use Rattle.std.proofs.lemmas.List.{take_all}
use Rattle.sdbm_saves.specs.declared.disk.DiskError.{DiskError}
use Rattle.sdbm_saves.specs.declared.disk.DiskError.TheVariants.{Memory, Failed}
use Rattle.sdbm_saves.specs.declared.disk.DiskFile.{DiskFile}
use Rattle.sdbm_saves.specs.declared.disk.DiskFile.TheVariants.{Redo}
use Rattle.sdbm_saves.specs.Disk.{Image, content, put, written, resized, Torn, TornLength, Gone, Within}

-- a call that was begun; a sync is recorded only after it succeeded
pub data Act : Type 0 where
  write : DiskFile → ℕ → List ℕ → Act
  resize : DiskFile → ℕ → Act
  sync : DiskFile → Act
  clear : Act

-- The record after a call. If memory ran out, the call was not begun and is not added; every other call is added, even if the disk failed.
abbrev pub Notes : {T : Type 0} → Act → List Act → List Act → Result T DiskError → Type 0
Notes act old new (Ok x) = new ≡ old ++ act ∷ []
Notes act old new (Err Failed) = new ≡ old ++ act ∷ []
Notes act old new (Err Memory) = new ≡ old

-- the image that is read after a call
abbrev pub acted : Act → Image → Image
acted (write file at bytes) image = put file (written at bytes (content file image)) image
acted (resize file len) image = put file (resized len (content file image)) image
acted (sync file) image = image
acted clear image = put Redo [] image

abbrev pub seen_after : List Act → Image → Image
seen_after [] image = image
seen_after (act ∷ acts) image = seen_after acts (acted act image)

-- the images that a crash may leave after a call, if a crash may leave the images `before` before the call
abbrev pub LeftBy : Act → Image → (Image → Type 0) → Image → Type 0
LeftBy (write file at bytes) image before c = (d : Image) × before d × Within file (Torn at bytes) d c
LeftBy (resize file len) image before c = (d : Image) × before d × Within file (TornLength len) d c
LeftBy (sync file) image before c = before c × (content file c ≡ content file image)
LeftBy clear image before c = (d : Image) × before d × Within Redo Gone d c

abbrev pub LeftAfter : List Act → Image → (Image → Type 0) → Image → Type 0
LeftAfter [] image before c = before c
LeftAfter (act ∷ acts) image before c = LeftAfter acts (acted act image) (LeftBy act image before) c

-- an image that a crash might have left after the first t calls or later
pub record LeftSince (acts : List Act) (image : Image) (before : Image → Type 0) (t : ℕ) (c : Image) : Type 0 where
  pub moment : ℕ
  pub later : t ≤ moment
  pub made : moment ≤ length acts
  pub left : LeftAfter (take moment acts) image before c

pub now_counts : (acts : List Act) (image : Image) (before : Image → Type 0) (t : ℕ) (c : Image) → t ≤ length acts → LeftAfter acts image before c → LeftSince acts image before t c
now_counts acts image before t c later left = record {
  moment = length acts;
  later = later;
  made = omega arith;
  left = subst (λ (l : List Act). LeftAfter l image before c) (sym (take_all (length acts) acts (omega arith))) left;
}

pub only_the_last : (acts : List Act) (image : Image) (before : Image → Type 0) (c : Image) → LeftSince acts image before (length acts) c → LeftAfter acts image before c
only_the_last acts image before c since =
    subst (λ (l : List Act). LeftAfter l image before c) (take_all since.moment acts since.later) since.left
