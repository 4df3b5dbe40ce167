-- The text of a fault: its name.
use Rattle.std.specs.Prelude.{ℕ, List, codes}
use Rattle.sdbm_dir.specs.declared.DirFault.{DirFault}
use Rattle.sdbm_dir.specs.declared.DirFault.TheVariants.{TooDeep, DirOrphan, NoMemory}

abbrev pub fault_text : DirFault → List ℕ
fault_text TooDeep = codes "TooDeep"
fault_text DirOrphan = codes "DirOrphan"
fault_text NoMemory = codes "NoMemory"
