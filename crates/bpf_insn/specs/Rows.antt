-- The results of reading a unit from its fields, and of reading bytes.
use Rattle.std.specs.Prelude.{◌≡◌, ◌*◌, ◌++◌, List, ℕ, drop, Result, Ok, IfOk}
use Rattle.bpf_insn.specs.declared.insn.Insn.{Insn}
use Rattle.bpf_insn.specs.declared.fields.Fields.{Fields}
use Rattle.bpf_insn.specs.declared.operands.UnitFault.{UnitFault}
use Rattle.bpf_insn.specs.Spelling.{HasSpelling, row_of, spelling_of}
use Rattle.bpf_insn.specs.Code.{units_of}

-- the result is an instruction of the table with these fields
abbrev pub Reads : Fields → Result Insn UnitFault → Type 0
Reads fields r = IfOk r (λ i. HasSpelling i × (row_of i ≡ fields))

-- if the instruction is in the table and has these fields, the instruction is the result
abbrev pub OnlyReads : Fields → Result Insn UnitFault → Insn → Type 0
OnlyReads fields r i = HasSpelling i → row_of i ≡ fields → r ≡ Ok i

-- the result is an instruction of the table, and the bytes begin with its spelling
abbrev pub Finds : List ℕ → Result Insn UnitFault → Type 0
Finds bytes r = IfOk r (λ i. HasSpelling i × (bytes ≡ spelling_of i ++ drop (8 * units_of i) bytes))

-- if the instruction is in the table and the bytes begin with its spelling, the instruction is the result
abbrev pub OnlyFinds : List ℕ → Result Insn UnitFault → Insn → Type 0
OnlyFinds bytes r i = (more : List ℕ) → HasSpelling i → bytes ≡ spelling_of i ++ more → r ≡ Ok i
