-- The effect of disk calls on the three files, and the images that a crash may leave.
use Rattle.std.specs.Prelude.{◌<◌, ◌≡◌, ◌⊎◌, ℕ, ◌+◌, ◌≤◌, min, max, List, [], ◌++◌, length, take, drop, replicate, get_or, Result, IsErrOf}
use Rattle.sdbm_saves.specs.declared.disk.DiskFile.{DiskFile}
use Rattle.sdbm_saves.specs.declared.disk.DiskFile.TheVariants.{Pages, Directory, Redo}
use Rattle.sdbm_saves.specs.declared.disk.DiskError.{DiskError}
use Rattle.sdbm_saves.specs.declared.disk.DiskError.TheVariants.{Failed}

-- the bytes of the three files
pub record Image : Type 0 where
  pub pages : List ℕ
  pub directory : List ℕ
  pub redo : List ℕ

abbrev pub content : DiskFile → Image → List ℕ
content Pages image = image.pages
content Directory image = image.directory
content Redo image = image.redo

-- the result of replacing the bytes of one file
abbrev pub put : DiskFile → List ℕ → Image → Image
put Pages bytes image = record { pages = bytes; directory = image.directory; redo = image.redo }
put Directory bytes image = record { pages = image.pages; directory = bytes; redo = image.redo }
put Redo bytes image = record { pages = image.pages; directory = image.directory; redo = bytes }

-- the result of writing `bytes` over the old bytes at an offset
abbrev pub written : ℕ → List ℕ → List ℕ → List ℕ
written at bytes old = take at old ++ (bytes ++ drop (at + length bytes) old)

-- the old bytes, cut off at n bytes or extended with zeros to n bytes
abbrev pub resized : ℕ → List ℕ → List ℕ
resized n old = take n (old ++ replicate n 0)

-- The result of a write that a crash interrupts: each byte in the range is old or new, and all other bytes are unchanged. Bytes past the
-- end count as zero, so a gap between the old end and the range is filled with zeros.
pub record Torn (at : ℕ) (bytes old new : List ℕ) : Type 0 where
  pub before : (i : ℕ) → i < at → get_or new i 0 ≡ get_or old i 0
  pub within : (i : ℕ) → i < length bytes → (get_or new (at + i) 0 ≡ get_or old (at + i) 0) ⊎ (get_or new (at + i) 0 ≡ get_or bytes i 0)
  pub after : (i : ℕ) → at + length bytes ≤ i → get_or new i 0 ≡ get_or old i 0
  pub no_shorter : length old ≤ length new
  pub no_longer : length new ≤ max (length old) (at + length bytes)

-- The result of a change of length that a crash interrupts: a length between the old and the new length. Bytes below the new length are
-- the old bytes, with zeros after the old end; bytes above the new length are unspecified.
pub record TornLength (n : ℕ) (old new : List ℕ) : Type 0 where
  pub same : (i : ℕ) → i < n → get_or new i 0 ≡ get_or old i 0
  pub no_shorter : min n (length old) ≤ length new
  pub no_longer : length new ≤ max n (length old)

-- the result of a removal that a crash interrupts: the file is unchanged or empty
abbrev pub Gone : List ℕ → List ℕ → Type 0
Gone old new = (new ≡ old) ⊎ (new ≡ [])

-- a step changes one file, and the two other files stay unchanged
pub record Within (file : DiskFile) (step : List ℕ → List ℕ → Type 0) (old new : Image) : Type 0 where
  pub stepped : step (content file old) (content file new)
  pub others : new ≡ put file (content file new) old

-- each image in `new` results by this step from an image in `old`
abbrev pub Follows : (Image → Image → Type 0) → (Image → Type 0) → (Image → Type 0) → Type 0
Follows step old new = (c : Image) → new c → (d : Image) × old d × step d c

-- a crash leaves this image and no other
abbrev pub Only : Image → (Image → Type 0) → Type 0
Only image outcomes = (c : Image) → outcomes c → c ≡ image

-- in every outcome of a crash, this file has the bytes that reads return
abbrev pub IsKept : DiskFile → Image → (Image → Type 0) → Type 0
IsKept file image outcomes = (c : Image) → outcomes c → content file c ≡ content file image

-- Time passes. Each image that a crash since time t might have left was possible before, or is an image that a crash may leave now.
pub record Elapses (before now : ℕ) (past since : ℕ → Image → Type 0) (may_leave : Image → Type 0) : Type 0 where
  pub later : before ≤ now
  pub nothing_else : (t : ℕ) (c : Image) → t ≤ before → since t c → past t c ⊎ may_leave c
  pub keeps : (t : ℕ) (c : Image) → t ≤ before → past t c → since t c

-- a crash at any time since `old` leaves only images that satisfy P
pub record LeavesOnly {D : Type 0} (moment : D → ℕ) (left_since : D → ℕ → Image → Type 0) (old new : D) (P : Image → Type 0) : Type 0 where
  pub later : moment old ≤ moment new
  pub each : (c : Image) → left_since new (moment old) c → P c
  -- a crash since an earlier time t leaves an image that was possible before, or an image that satisfies P
  pub before : (t : ℕ) (c : Image) → t ≤ moment old → left_since new t c → left_since old t c ⊎ P c

-- A crash during or after this call leaves only results of the step on images that a crash might have left before the call.
pub record Through {D : Type 0} (moment : D → ℕ) (left_since : D → ℕ → Image → Type 0) (may_leave : D → Image → Type 0) (step : Image → Image → Type 0) (old new : D) : Type 0 where
  pub crash : Follows step (may_leave old) (may_leave new)
  pub moments : LeavesOnly moment left_since old new (λ c. (d : Image) × may_leave old d × step d c)

-- A failed disk stays failed, and `Failed` is returned only if the disk has failed.
pub record HasCause {T : Type 0} (before now : Type 0) (result : Result T DiskError) : Type 0 where
  pub stays : before → now
  pub failed : IsErrOf result Failed → now
