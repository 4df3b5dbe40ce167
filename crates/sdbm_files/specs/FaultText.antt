-- The text of a fault: its name and, in brackets, the page number and the cause, if any.
use Rattle.std.specs.Prelude.{ℕ, List, ◌++◌, codes, decimal}
use Rattle.sdbm_dir.specs.FaultText as dir
use Rattle.sdbm_page.specs.FaultText as page
use Rattle.sdbm_files.specs.declared.opening.OpenFault.{OpenFault}
use Rattle.sdbm_files.specs.declared.opening.OpenFault.TheVariants.{PagLength, Page, Dir, Misplaced, NoMemory}

abbrev pub fault_text : OpenFault → List ℕ
fault_text PagLength = codes "PagLength"
fault_text (Page number fault) = codes "Page(" ++ (decimal number ++ (codes ", " ++ (page.fault_text fault ++ codes ")")))
fault_text (Dir fault) = codes "Dir(" ++ (dir.fault_text fault ++ codes ")")
fault_text (Misplaced number) = codes "Misplaced(" ++ (decimal number ++ codes ")")
fault_text NoMemory = codes "NoMemory"
