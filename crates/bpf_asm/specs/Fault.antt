-- The text of a fault.
use Rattle.std.specs.Prelude.{ℕ, ◌≡◌, ◌<◌, ◌++◌, List, codes}
use Rattle.std.specs.Fmt.{decimal}
use Rattle.bpf_asm.specs.declared.fault.FaultKind.{FaultKind}
use Rattle.bpf_asm.specs.declared.fault.FaultKind.TheVariants.{NoMemory, Mnemonic, Operand, Number, Label, Backward, TooLong}
use Rattle.bpf_asm.specs.declared.fault.AsmFault.{AsmFault}

-- the name of a kind of fault
abbrev pub kind_text : FaultKind → List ℕ
kind_text NoMemory = codes "NoMemory"
kind_text Mnemonic = codes "Mnemonic"
kind_text Operand = codes "Operand"
kind_text Number = codes "Number"
kind_text Label = codes "Label"
kind_text Backward = codes "Backward"
kind_text TooLong = codes "TooLong"

-- the name of a kind of fault after its line number; `NoMemory` has no line
abbrev pub at_line : ℕ → FaultKind → List ℕ
at_line line NoMemory = kind_text NoMemory
at_line line kind = codes "line " ++ (decimal line ++ (codes ": " ++ kind_text kind))

abbrev pub fault_text : AsmFault → List ℕ
fault_text fault = at_line fault.line fault.kind

-- the line of a fault, counted from 1; the line of `NoMemory` is 0
abbrev pub IsLineOf : FaultKind → ℕ → Type 0
IsLineOf NoMemory line = line ≡ 0
IsLineOf kind line = 0 < line
