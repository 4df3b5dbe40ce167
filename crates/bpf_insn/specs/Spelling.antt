-- The spelling of an instruction: the rows of the table of instructions, and the bytes of their
-- fields.
use Rattle.std.specs.Prelude.{ℕ, ℤ, pos, ◌≡◌, ◌+◌, ◌*◌, ◌/◌, ◌%◌, ◌^◌, ◌<◌, ◌≤◌, ◌++◌, ◌∷◌, [], List, ⊤, Bool, true, false, IsTrue, FitsSigned}
use Rattle.std.specs.Int.{to_le_bytes, cast_signed, cast_unsigned, w16, w32}
use Rattle.bpf_insn.specs.declared.insn.Width.{Width}
use Rattle.bpf_insn.specs.declared.insn.Width.TheVariants.{W32, W64}
use Rattle.bpf_insn.specs.declared.insn.Size.{Size}
use Rattle.bpf_insn.specs.declared.insn.Size.TheVariants.{Byte, Half, Word, Double}
use Rattle.bpf_insn.specs.declared.insn.Op.{Op}
use Rattle.bpf_insn.specs.declared.insn.Op.TheVariants.{Add, Sub, Mul, Div, SDiv, Or, And, Lsh, Rsh, Neg, Mod, SMod, Xor, Mov, MovSx, Arsh, Little, Big, Swap}
use Rattle.bpf_insn.specs.declared.insn.Test.{Test}
use Rattle.bpf_insn.specs.declared.insn.Test.TheVariants.{Eq, Gt, Ge, Set, Ne, SGt, SGe, Lt, Le, SLt, SLe}
use Rattle.bpf_insn.specs.declared.insn.Operand.{Operand}
use Rattle.bpf_insn.specs.declared.insn.Operand.TheVariants.{Imm, Reg}
use Rattle.bpf_insn.specs.declared.insn.Insn.{Insn}
use Rattle.bpf_insn.specs.declared.insn.Insn.TheVariants.{Alu, Unary, Branch, Jump, JumpFar, Call, Exit, Load, LoadSigned, StoreImm, Store, Wide}
use Rattle.bpf_insn.specs.declared.fields.Fields.{Fields}

-- ---- units

-- The bytes of a unit: the opcode, the destination in the low and the source in the high four bits, the
-- offset and the immediate, both little-endian (RFC 9669, section 3.1; without big-endian images).
abbrev pub unit_bytes : Fields → List ℕ
unit_bytes f = f.opcode ∷ (f.dst + 16 * f.src) ∷ (to_le_bytes w16 (cast_unsigned w16 f.offset) ++ to_le_bytes w32 (cast_unsigned w32 f.imm))

-- fields that fit a unit
pub record IsFields (f : Fields) : Type 0 where
  pub opcode_fits : f.opcode < 256
  pub dst_fits : f.dst < 16
  pub src_fits : f.src < 16
  pub offset_fits : FitsSigned w16 f.offset
  pub imm_fits : FitsSigned w32 f.imm

-- ---- opcodes

-- The classes of arithmetic and of jumps (RFC 9669, section 3.3).
abbrev pub arithmetic_class : Width → ℕ
arithmetic_class W32 = 4
arithmetic_class W64 = 7

abbrev pub jump_class : Width → ℕ
jump_class W32 = 6
jump_class W64 = 5

-- The number of an operation (RFC 9669, section 4.1).
abbrev pub code_of : Op → ℕ
code_of Add = 0
code_of Sub = 1
code_of Mul = 2
code_of Div = 3
code_of SDiv = 3
code_of Or = 4
code_of And = 5
code_of Lsh = 6
code_of Rsh = 7
code_of Neg = 8
code_of Mod = 9
code_of SMod = 9
code_of Xor = 10
code_of Mov = 11
code_of (MovSx s) = 11
code_of Arsh = 12
code_of (Little s) = 13
code_of (Big s) = 13
code_of (Swap s) = 13

abbrev pub size_bits : Size → ℕ
size_bits Byte = 8
size_bits Half = 16
size_bits Word = 32
size_bits Double = 64

-- The offset that chooses among operations with the same number (RFC 9669, section 4.1).
abbrev pub selector_of : Op → ℕ
selector_of SDiv = 1
selector_of SMod = 1
selector_of (MovSx s) = size_bits s
selector_of op = 0

-- The source bit of an operation without an operand: set for big endian (RFC 9669, section 4.2).
abbrev pub order_bit : Op → ℕ
order_bit (Big s) = 8
order_bit op = 0

-- The immediate of an operation without an operand: the bits of a byte swap (RFC 9669, section 4.2).
abbrev pub swap_bits : Op → ℕ
swap_bits (Little s) = size_bits s
swap_bits (Big s) = size_bits s
swap_bits (Swap s) = size_bits s
swap_bits op = 0

-- The number of a test (RFC 9669, section 4.3).
abbrev pub test_code : Test → ℕ
test_code Eq = 1
test_code Gt = 2
test_code Ge = 3
test_code Set = 4
test_code Ne = 5
test_code SGt = 6
test_code SGe = 7
test_code Lt = 10
test_code Le = 11
test_code SLt = 12
test_code SLe = 13

-- The number of a size (RFC 9669, section 5).
abbrev pub size_code : Size → ℕ
size_code Word = 0
size_code Half = 1
size_code Byte = 2
size_code Double = 3

-- ---- rows

-- The parts of an operand in the opcode, the source and the immediate (RFC 9669, section 4).
abbrev pub source_bit : Operand → ℕ
source_bit (Imm k) = 0
source_bit (Reg r) = 8

abbrev pub source_of : Operand → ℕ
source_of (Imm k) = 0
source_of (Reg r) = r

abbrev pub immediate_of : Operand → ℤ
immediate_of (Imm k) = k
immediate_of (Reg r) = pos 0

-- The row of an instruction: the fields of its first unit. Unused fields are zero (RFC 9669,
-- sections 4.1, 4.2, 4.3, 5.1, 5.2 and 5.4).
abbrev pub row_of : Insn → Fields
row_of (Alu op w d s) = record { opcode = code_of op * 16 + source_bit s + arithmetic_class w; dst = d; src = source_of s; offset = pos (selector_of op); imm = immediate_of s }
row_of (Unary op w d) = record { opcode = code_of op * 16 + order_bit op + arithmetic_class w; dst = d; src = 0; offset = pos 0; imm = pos (swap_bits op) }
row_of (Branch t w d s off) = record { opcode = test_code t * 16 + source_bit s + jump_class w; dst = d; src = source_of s; offset = off; imm = immediate_of s }
row_of (Jump off) = record { opcode = 0x05; dst = 0; src = 0; offset = off; imm = pos 0 }
row_of (JumpFar off) = record { opcode = 0x06; dst = 0; src = 0; offset = pos 0; imm = off }
row_of (Call id) = record { opcode = 0x85; dst = 0; src = 0; offset = pos 0; imm = id }
row_of Exit = record { opcode = 0x95; dst = 0; src = 0; offset = pos 0; imm = pos 0 }
row_of (Load n d b off) = record { opcode = 0x61 + size_code n * 8; dst = d; src = b; offset = off; imm = pos 0 }
row_of (LoadSigned n d b off) = record { opcode = 0x81 + size_code n * 8; dst = d; src = b; offset = off; imm = pos 0 }
row_of (StoreImm n b off k) = record { opcode = 0x62 + size_code n * 8; dst = b; src = 0; offset = off; imm = k }
row_of (Store n b off s) = record { opcode = 0x63 + size_code n * 8; dst = b; src = s; offset = off; imm = pos 0 }
row_of (Wide d n) = record { opcode = 0x18; dst = d; src = 0; offset = pos 0; imm = cast_signed w32 (n % 2 ^ 32) }

-- The second unit of a constant of 64 bits: its high half (RFC 9669, section 5.4).
abbrev pub high_half : ℕ → Fields
high_half n = record { opcode = 0; dst = 0; src = 0; offset = pos 0; imm = cast_signed w32 (n / 2 ^ 32) }

-- the high half of a constant as a number; 0 for any other instruction
abbrev pub high_number : Insn → ℕ
high_number (Wide d n) = n / 2 ^ 32
high_number i = 0

-- the bytes after the first unit
abbrev pub second_unit : Insn → List ℕ
second_unit (Alu op w d s) = []
second_unit (Unary op w d) = []
second_unit (Branch t w d s off) = []
second_unit (Jump off) = []
second_unit (JumpFar off) = []
second_unit (Call id) = []
second_unit Exit = []
second_unit (Load n d b off) = []
second_unit (LoadSigned n d b off) = []
second_unit (StoreImm n b off k) = []
second_unit (Store n b off s) = []
second_unit (Wide d n) = unit_bytes (high_half n)

-- the only spelling of an instruction, of 8 or 16 bytes
abbrev pub spelling_of : Insn → List ℕ
spelling_of i = unit_bytes (row_of i) ++ second_unit i

-- ---- the instructions that have a row

-- An operation with an operand. A sign-extending move takes a register and a part narrower than the
-- width (RFC 9669, section 4.1).
abbrev pub is_binary : Op → Width → Operand → Bool
is_binary Neg w s = false
is_binary (Little n) w s = false
is_binary (Big n) w s = false
is_binary (Swap n) w s = false
is_binary (MovSx n) w (Imm k) = false
is_binary (MovSx Byte) w (Reg r) = true
is_binary (MovSx Half) w (Reg r) = true
is_binary (MovSx Word) W32 (Reg r) = false
is_binary (MovSx Word) W64 (Reg r) = true
is_binary (MovSx Double) w (Reg r) = false
is_binary op w s = true

-- the operations that take an operand at some width
abbrev pub takes_operand : Op → Bool
takes_operand Neg = false
takes_operand (Little n) = false
takes_operand (Big n) = false
takes_operand (Swap n) = false
takes_operand (MovSx Double) = false
takes_operand op = true

-- the sizes of a byte swap: 16, 32 and 64 bits
abbrev pub has_order : Size → Bool
has_order Byte = false
has_order n = true

-- An operation without an operand: ALU converts to little or big endian, ALU64 swaps (RFC 9669,
-- sections 4.1, 4.2).
abbrev pub is_unary : Op → Width → Bool
is_unary Neg w = true
is_unary (Little n) W32 = has_order n
is_unary (Big n) W32 = has_order n
is_unary (Swap n) W64 = has_order n
is_unary op w = false

-- A sign-extending load reads a part narrower than 64 bits (RFC 9669, section 5.2).
abbrev pub is_narrow : Size → Bool
is_narrow Double = false
is_narrow n = true

abbrev pub is_access : Insn → Bool
is_access (Load n d b off) = true
is_access (LoadSigned n d b off) = true
is_access (StoreImm n b off k) = true
is_access (Store n b off s) = true
is_access i = false

-- The registers are R0 to R10 (RFC 9669, section 3.1).
abbrev pub IsRegister : ℕ → Type 0
IsRegister r = r ≤ 10

abbrev pub IsOperand : Operand → Type 0
IsOperand (Imm k) = FitsSigned w32 k
IsOperand (Reg r) = IsRegister r

-- An instruction of the table: its operation has a row, its registers exist and its numbers fit their fields.
abbrev pub HasSpelling : Insn → Type 0
HasSpelling (Alu op w d s) = IsTrue (is_binary op w s) × IsRegister d × IsOperand s
HasSpelling (Unary op w d) = IsTrue (is_unary op w) × IsRegister d
HasSpelling (Branch t w d s off) = IsRegister d × IsOperand s × FitsSigned w16 off
HasSpelling (Jump off) = FitsSigned w16 off
HasSpelling (JumpFar off) = FitsSigned w32 off
HasSpelling (Call id) = FitsSigned w32 id
HasSpelling Exit = ⊤
HasSpelling (Load n d b off) = IsRegister d × IsRegister b × FitsSigned w16 off
HasSpelling (LoadSigned n d b off) = IsTrue (is_narrow n) × IsRegister d × IsRegister b × FitsSigned w16 off
HasSpelling (StoreImm n b off k) = IsRegister b × FitsSigned w16 off × FitsSigned w32 k
HasSpelling (Store n b off s) = IsRegister b × IsRegister s × FitsSigned w16 off
HasSpelling (Wide d n) = IsRegister d × (n < 2 ^ 64)

-- The bytes spell the instruction.
pub record Spells (i : Insn) (bytes : List ℕ) : Type 0 where
  pub has : HasSpelling i
  pub are : bytes ≡ spelling_of i

-- The bytes do not begin with the spelling of any instruction.
abbrev pub NoneBegins : List ℕ → Type 0
NoneBegins bytes = (i : Insn) (text more : List ℕ) → Spells i text → bytes ≡ text ++ more → ⊥
