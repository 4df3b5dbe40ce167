-- The text of a fault, printed after `dbm: ` on standard error.
use Rattle.std.specs.Prelude.{ℕ, List, ◌++◌, codes, decimal}
use Rattle.prog_registry.specs.FaultText as registry
use Rattle.store_shared.specs.FaultText as closing
use Rattle.worker_pool.specs.FaultText as pool
use Rattle.dbm_dump.specs.FaultText as dumping
use Rattle.dbm_reports.specs.FaultText as reports
use Rattle.dbm_messages.specs.declared.fault.ServeFault.{ServeFault}
use Rattle.dbm_messages.specs.declared.fault.ServeFault.TheVariants.{NotText, ReadFile, FileTooLong, WriteFile, BadRedo, Unsafe, OtherSize, ReadClock, BadBase, Absent, Exists, NoStock, Locked, Moved, Changed, Report, Dump, Submit, BadLine, CutLine, Pool, Close, Write, Saved, NoMemory}

abbrev pub fault_text : ServeFault → List ℕ
fault_text NotText = codes "NotText"
fault_text ReadFile = codes "ReadFile"
fault_text FileTooLong = codes "FileTooLong"
fault_text WriteFile = codes "WriteFile"
fault_text BadRedo = codes "BadRedo"
fault_text Unsafe = codes "Unsafe"
fault_text OtherSize = codes "OtherSize"
fault_text ReadClock = codes "ReadClock"
fault_text BadBase = codes "BadBase"
fault_text Absent = codes "Absent"
fault_text Exists = codes "Exists"
fault_text NoStock = codes "NoStock"
fault_text Locked = codes "Locked"
fault_text (Moved _) = codes "Moved"
fault_text Changed = codes "Changed"
fault_text (Report fault) = reports.fault_text fault
fault_text (Dump fault) = dumping.fault_text fault
fault_text (Submit fault) = registry.fault_text fault
fault_text (BadLine number) = codes "bad line " ++ decimal number
fault_text (CutLine number) = codes "CutLine(" ++ (decimal number ++ codes ")")
fault_text (Pool fault) = pool.fault_text fault
fault_text (Close fault) = closing.fault_text fault
fault_text Write = codes "Write"
fault_text Saved = codes "Write"
fault_text NoMemory = codes "NoMemory"
