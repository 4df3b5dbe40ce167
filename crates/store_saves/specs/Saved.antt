-- The outcome of a save in an open log.
use Rattle.std.specs.Prelude.{◌≡◌, ⊤, ℕ, List, Some, Result, Ok, Err}
use Rattle.sdbm_addr.specs.Database.{Database}
use Rattle.sdbm_saves.specs.declared.disk.DiskError.{DiskError}
use Rattle.sdbm_saves.specs.declared.disk.DiskFile.TheVariants.{Pages, Directory}
use Rattle.sdbm_saves.specs.Disk.{Image}
use Rattle.sdbm_saves.specs.Redo.{renewed}
use Rattle.sdbm_saves.specs.Saves.{AreFilesFor}
use Rattle.sdbm_log.specs.Log.{files_of, CanRecover, Holds}
use Rattle.sdbm_logged.specs.declared.keeping.Keeper.{Keeper}
use Rattle.store_saves.specs.declared.saved.AfterSave.{AfterSave}
use Rattle.store_saves.specs.declared.saved.AfterSave.TheVariants.{Full, Pending, Done}

-- if the log cannot take the plan, the disk and its files are unchanged
abbrev pub IsStill : {D : Type 0} → D × Keeper → AfterSave D → Type 0
IsStill kept (Full still) = still ≡ kept
IsStill kept (Pending disk fault) = ⊤
IsStill kept (Done saved) = ⊤

-- if the save is done, the files in memory are those of this database
abbrev pub IsKnown : {D : Type 0} → Database → AfterSave D → Type 0
IsKnown db (Full still) = ⊤
IsKnown db (Pending disk fault) = ⊤
IsKnown db (Done saved) = saved.1 ≡ Some db

-- an image represents the files of a database and can be recovered
abbrev pub HoldsDatabase : Database → Image → Type 0
HoldsDatabase db image = AreFilesFor db (files_of image).0 (files_of image).1 × CanRecover image

-- each image that a crash may leave on a disk represents the files of a database and can be recovered
abbrev pub LeavesDatabase : {D : Type 0} → (D → Image → Type 0) → Database → D → Type 0
LeavesDatabase may_leave db disk = (c : Image) → may_leave disk c → HoldsDatabase db c

-- the result of applying a plan to the data files in memory
abbrev pub renewed_in : List ℕ → Keeper → List ℕ × List ℕ
renewed_in plan keeper = (renewed Pages plan keeper.files.pages.items, renewed Directory plan keeper.files.directory.items)

-- if the save is done or pending, each image that a crash may leave represents these files and can be recovered
abbrev pub LeavesSaved : {D : Type 0} → (D → Image → Type 0) → List ℕ × List ℕ → AfterSave D → Type 0
LeavesSaved may_leave both (Full still) = ⊤
LeavesSaved may_leave both (Pending disk fault) = (c : Image) → may_leave disk c → Holds both c
LeavesSaved may_leave both (Done saved) = (c : Image) → may_leave saved.0.0 c → Holds both c

-- the disk after a save
abbrev pub disk_after : {D : Type 0} → Result (AfterSave D) (DiskError × D) → D
disk_after (Ok (Full still)) = still.0
disk_after (Ok (Pending disk fault)) = disk
disk_after (Ok (Done saved)) = saved.0.0
disk_after (Err refused) = refused.1
