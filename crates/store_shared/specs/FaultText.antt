-- The text of a fault: its name, and the session's number in parentheses if the fault has one.
use Rattle.std.specs.Prelude.{ℕ, List, ◌++◌, codes, decimal}
use Rattle.store_shared.specs.declared.close.CloseFault.{CloseFault}
use Rattle.store_shared.specs.declared.close.CloseFault.TheVariants.{Stranger, Double, Missing, Torn, Opening}

abbrev pub fault_text : CloseFault → List ℕ
fault_text (Stranger session) = codes "Stranger(" ++ (decimal session ++ codes ")")
fault_text (Double session) = codes "Double(" ++ (decimal session ++ codes ")")
fault_text (Missing session) = codes "Missing(" ++ (decimal session ++ codes ")")
fault_text (Torn session) = codes "Torn(" ++ (decimal session ++ codes ")")
fault_text Opening = codes "Opening"
