-- A log that stays open from one save to the next.
use Rattle.std.specs.Prelude.{◌≡◌, ℕ, List}
use Rattle.sdbm_saves.specs.Disk.{Image}
use Rattle.sdbm_saves.specs.Redo.{files}
use Rattle.sdbm_log.specs.Log.{IsReady}
use Rattle.sdbm_logged.specs.declared.keeping.DataBytes.{DataBytes}
use Rattle.sdbm_logged.specs.declared.keeping.Keeper.{Keeper}

abbrev pub bytes_of : DataBytes → List ℕ × List ℕ
bytes_of both = (both.pages.items, both.directory.items)

-- the log is ready for the next record, and the keeper has the bytes of the data files
pub record IsKept (keeper : Keeper) (seen : Image) (may_leave : Image → Type 0) : Type 0 where
  pub ready : IsReady keeper.log.end keeper.log.room keeper.log.count seen may_leave
  pub files : files seen ≡ bytes_of keeper.files
