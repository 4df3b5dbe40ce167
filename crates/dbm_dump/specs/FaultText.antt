-- The text of a fault.
use Rattle.std.specs.Prelude.{ℕ, List, ◌++◌, codes, decimal}
use Rattle.dbm_dump.specs.declared.fault.DumpFault.{DumpFault}
use Rattle.dbm_dump.specs.declared.fault.DumpFault.TheVariants.{BadFormat, Read, BadDump, TooLarge, Crowded, CutOff, NoMemory}

abbrev pub fault_text : DumpFault → List ℕ
fault_text BadFormat = codes "BadFormat"
fault_text Read = codes "Read"
fault_text (BadDump line) = codes "BadDump(" ++ (decimal line ++ codes ")")
fault_text (TooLarge line key) = codes "TooLarge(" ++ (decimal line ++ codes ")")
fault_text (Crowded line key) = codes "Crowded(" ++ (decimal line ++ codes ")")
fault_text CutOff = codes "CutOff"
fault_text NoMemory = codes "NoMemory"
