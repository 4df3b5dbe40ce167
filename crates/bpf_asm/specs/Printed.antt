-- The text of a code.
use Rattle.std.specs.Prelude.{ℕ, ℤ, pos, negsuc, suc, ◌-◌, ◌++◌, List, [], ◌∷◌, length, replicate, codes, false}
use Rattle.std.specs.List.{flat_map}
use Rattle.std.specs.Fmt.{decimal, signed_decimal, digits}
use Rattle.bpf_insn.specs.declared.insn.Op.{Op}
use Rattle.bpf_insn.specs.declared.insn.Op.TheVariants.{MovSx}
use Rattle.bpf_insn.specs.declared.insn.Width.{Width}
use Rattle.bpf_insn.specs.declared.insn.Operand.{Operand}
use Rattle.bpf_insn.specs.declared.insn.Operand.TheVariants.{Imm, Reg}
use Rattle.bpf_insn.specs.declared.insn.Insn.{Insn}
use Rattle.bpf_insn.specs.declared.insn.Insn.TheVariants as insns
use Rattle.bpf_asm.specs.declared.row.Row.{Row}
use Rattle.bpf_asm.specs.declared.row.Row.TheVariants as rows
use Rattle.bpf_asm.specs.Mnemonics.{name_of}

abbrev pub register_text : ℕ → List ℕ
register_text r = codes "r" ++ decimal r

abbrev pub operand_text : Operand → List ℕ
operand_text (Imm k) = signed_decimal k
operand_text (Reg r) = register_text r

-- a number with its sign
abbrev pub distance_text : ℤ → List ℕ
distance_text (pos n) = codes "+" ++ decimal n
distance_text (negsuc n) = codes "-" ++ decimal (suc n)

-- a base and an offset; an offset of 0 is printed too
abbrev pub address_text : ℕ → ℤ → List ℕ
address_text r n = codes "[" ++ (register_text r ++ (distance_text n ++ codes "]"))

-- `0x` and sixteen hex digits
abbrev pub long_text : ℕ → List ℕ
long_text n = codes "0x" ++ (replicate (16 - length (digits 16 false n)) 48 ++ digits 16 false n)

-- the row of an operation with an operand
abbrev pub operation_row : Op → Width → Row
operation_row (MovSx n) w = rows.SignMove n w
operation_row op w = rows.Arith op w

-- the row with the mnemonic of an instruction
abbrev pub row_for : Insn → Row
row_for (insns.Alu op w d s) = operation_row op w
row_for (insns.Unary op w d) = rows.Unary op w
row_for (insns.Branch t w d s off) = rows.Branch t w
row_for (insns.Jump off) = rows.Jump
row_for (insns.JumpFar off) = rows.JumpFar
row_for (insns.Call id) = rows.Call
row_for insns.Exit = rows.Exit
row_for (insns.Load n d b off) = rows.Load n
row_for (insns.LoadSigned n d b off) = rows.LoadSigned n
row_for (insns.StoreImm n b off k) = rows.StoreImm n
row_for (insns.Store n b off s) = rows.Store n
row_for (insns.Wide d n) = rows.Wide

-- two operands
abbrev pub pair_text : List ℕ → List ℕ → List ℕ
pair_text a b = a ++ (codes ", " ++ b)

-- the text after a mnemonic
abbrev pub operands_text : Insn → List ℕ
operands_text (insns.Alu op w d s) = codes " " ++ pair_text (register_text d) (operand_text s)
operands_text (insns.Unary op w d) = codes " " ++ register_text d
operands_text (insns.Branch t w d s off) = codes " " ++ pair_text (register_text d) (pair_text (operand_text s) (distance_text off))
operands_text (insns.Jump off) = codes " " ++ distance_text off
operands_text (insns.JumpFar off) = codes " " ++ distance_text off
operands_text (insns.Call id) = codes " " ++ signed_decimal id
operands_text insns.Exit = []
operands_text (insns.Load n d b off) = codes " " ++ pair_text (register_text d) (address_text b off)
operands_text (insns.LoadSigned n d b off) = codes " " ++ pair_text (register_text d) (address_text b off)
operands_text (insns.StoreImm n b off k) = codes " " ++ pair_text (address_text b off) (signed_decimal k)
operands_text (insns.Store n b off s) = codes " " ++ pair_text (address_text b off) (register_text s)
operands_text (insns.Wide d n) = codes " " ++ pair_text (register_text d) (long_text n)

-- the text of an instruction
abbrev pub insn_text : Insn → List ℕ
insn_text i = name_of (row_for i) ++ operands_text i

-- the line of an instruction: its text and a line feed
abbrev pub line_text : Insn → List ℕ
line_text i = insn_text i ++ (10 ∷ [])

-- the text of a code: one instruction per line
abbrev pub text_of : List Insn → List ℕ
text_of code = flat_map line_text code
