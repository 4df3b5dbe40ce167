-- The conversion of a fault of a disk or of a plan to a fault of the files.
use Rattle.sdbm_saves.specs.declared.disk.DiskError.{DiskError}
use Rattle.sdbm_saves.specs.declared.disk.DiskError.TheVariants as disk
use Rattle.sdbm_saves.specs.declared.planning.SavePlanFault.{SavePlanFault}
use Rattle.sdbm_saves.specs.declared.planning.SavePlanFault.TheVariants as planned
use Rattle.dbm_places.specs.declared.fault.FilesFault.{FilesFault}
use Rattle.dbm_places.specs.declared.fault.FilesFault.TheVariants.{FileTooLong, WriteFile, NoMemory}

-- an error of a disk, as a fault of the files
abbrev pub disk_fault : DiskError → FilesFault
disk_fault disk.Memory = NoMemory
disk_fault disk.Failed = WriteFile

-- a fault of planning a save, as a fault of the files
abbrev pub plan_fault : SavePlanFault → FilesFault
plan_fault planned.TooLong = FileTooLong
plan_fault planned.NoMemory = NoMemory
