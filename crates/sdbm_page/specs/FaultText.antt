-- The text of a fault: its name.
use Rattle.std.specs.Prelude.{ℕ, List, codes}
use Rattle.sdbm_page.specs.declared.PageFault.{PageFault}
use Rattle.sdbm_page.specs.declared.PageFault.TheVariants.{Count, Offsets, DoubleKey, NoMemory}

abbrev pub fault_text : PageFault → List ℕ
fault_text Count = codes "Count"
fault_text Offsets = codes "Offsets"
fault_text DoubleKey = codes "DoubleKey"
fault_text NoMemory = codes "NoMemory"
