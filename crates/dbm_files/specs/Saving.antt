-- The files that a crash during or after a save may leave.
use Rattle.std.specs.Prelude.{◌≡◌, ◌⊎◌, ℕ, List}
use Rattle.sdbm_addr.specs.Database.{Database}
use Rattle.sdbm_saves.specs.Disk.{Image}
use Rattle.sdbm_saves.specs.Saves.{AreFilesFor}
use Rattle.sdbm_log.specs.Log.{Holds}
use Rattle.store_saves.specs.Saved.{HoldsDatabase}

-- each image that a crash may leave represents these files and can be recovered
abbrev pub LeavesFiles : {D : Type 0} → List ℕ × List ℕ → (D → Image → Type 0) → D → Type 0
LeavesFiles both may_leave disk = (c : Image) → may_leave disk c → Holds both c

-- an image represents the old files, or the files of a database, and can be recovered
abbrev pub IsOldOrSaved : List ℕ × List ℕ → Database → Image → Type 0
IsOldOrSaved old db image = Holds old image ⊎ HoldsDatabase db image

-- A database is saved. Either its files were on the disk before, and the disk is unchanged; or each image that a crash may leave represents
-- its files and can be recovered.
abbrev pub IsSaved : {D : Type 0} → Database → List ℕ × List ℕ → (D → Image → Type 0) → D → D → Type 0
IsSaved db before may_leave old new = (AreFilesFor db before.0 before.1 × (new ≡ old)) ⊎ ((c : Image) → may_leave new c → HoldsDatabase db c)
