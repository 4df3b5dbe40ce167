-- Mnemonics for the operations, tests and sizes of RFC 9669.
use Rattle.std.specs.Prelude.{ℕ, ◌++◌, Bool, true, false, List, [], Option, codes}
use Rattle.std.specs.List.{find}
use Rattle.std.specs.Str.{bytes_eq}
use Rattle.bpf_insn.specs.declared.insn.Width.{Width}
use Rattle.bpf_insn.specs.declared.insn.Width.TheVariants.{W32, W64}
use Rattle.bpf_insn.specs.declared.insn.Size.{Size}
use Rattle.bpf_insn.specs.declared.insn.Size.TheVariants.{Byte, Half, Word, Double}
use Rattle.bpf_insn.specs.declared.insn.Op.{Op}
use Rattle.bpf_insn.specs.declared.insn.Op.TheVariants.{Add, Sub, Mul, Div, SDiv, Or, And, Lsh, Rsh, Neg, Mod, SMod, Xor, Mov, MovSx, Arsh, Little, Big, Swap}
use Rattle.bpf_insn.specs.declared.insn.Test.{Test}
use Rattle.bpf_insn.specs.declared.insn.Test.TheVariants.{Eq, Gt, Ge, Set, Ne, SGt, SGe, Lt, Le, SLt, SLe}
use Rattle.bpf_insn.specs.Spelling.{is_unary, is_narrow, takes_operand}
use Rattle.bpf_asm.specs.declared.row.Row.{Row}
use Rattle.bpf_asm.specs.declared.row.Row.TheVariants as rows
use Rattle.bpf_asm.specs.declared.row.TheConstants.{ROWS}

-- ---- parts of names

-- the name of an operation; empty if its mnemonic contains a size
abbrev pub op_name : Op → List ℕ
op_name Add = codes "add"
op_name Sub = codes "sub"
op_name Mul = codes "mul"
op_name Div = codes "div"
op_name SDiv = codes "sdiv"
op_name Or = codes "or"
op_name And = codes "and"
op_name Lsh = codes "lsh"
op_name Rsh = codes "rsh"
op_name Neg = codes "neg"
op_name Mod = codes "mod"
op_name SMod = codes "smod"
op_name Xor = codes "xor"
op_name Mov = codes "mov"
op_name Arsh = codes "arsh"
op_name (MovSx n) = []
op_name (Little n) = []
op_name (Big n) = []
op_name (Swap n) = []

abbrev pub test_name : Test → List ℕ
test_name Eq = codes "eq"
test_name Gt = codes "gt"
test_name Ge = codes "ge"
test_name Set = codes "set"
test_name Ne = codes "ne"
test_name SGt = codes "sgt"
test_name SGe = codes "sge"
test_name Lt = codes "lt"
test_name Le = codes "le"
test_name SLt = codes "slt"
test_name SLe = codes "sle"

-- the letters of the size of a memory access
abbrev pub size_letters : Size → List ℕ
size_letters Byte = codes "b"
size_letters Half = codes "h"
size_letters Word = codes "w"
size_letters Double = codes "dw"

-- a size in bits
abbrev pub size_digits : Size → List ℕ
size_digits Byte = codes "8"
size_digits Half = codes "16"
size_digits Word = codes "32"
size_digits Double = codes "64"

-- the name of an operation, followed by `32` if the width is 32 bits
abbrev pub with_width : Op → Width → List ℕ
with_width (MovSx n) w = []
with_width (Little n) w = []
with_width (Big n) w = []
with_width (Swap n) w = []
with_width op W64 = op_name op
with_width op W32 = op_name op ++ codes "32"

-- ---- rows

-- the mnemonic of a row
abbrev pub name_of : Row → List ℕ
name_of (rows.Arith op w) = with_width op w
name_of (rows.SignMove n W64) = codes "movsx" ++ size_digits n
name_of (rows.SignMove n W32) = codes "mov32sx" ++ size_digits n
name_of (rows.Unary (Little n) w) = codes "le" ++ size_digits n
name_of (rows.Unary (Big n) w) = codes "be" ++ size_digits n
name_of (rows.Unary (Swap n) w) = codes "swap" ++ size_digits n
name_of (rows.Unary Neg W64) = codes "neg"
name_of (rows.Unary Neg W32) = codes "neg32"
name_of (rows.Unary op w) = []
name_of rows.Wide = codes "lddw"
name_of (rows.Load n) = codes "ldx" ++ size_letters n
name_of (rows.LoadSigned n) = codes "ldxs" ++ size_letters n
name_of (rows.StoreImm n) = codes "st" ++ size_letters n
name_of (rows.Store n) = codes "stx" ++ size_letters n
name_of rows.Jump = codes "ja"
name_of rows.JumpFar = codes "ja32"
name_of (rows.Branch t W64) = codes "j" ++ test_name t
name_of (rows.Branch t W32) = codes "j" ++ (test_name t ++ codes "32")
name_of rows.Call = codes "call"
name_of rows.Exit = codes "exit"

-- the row of a mnemonic
unfoldable pub row_named : List ℕ → Option Row
row_named name = find (λ r. bytes_eq (name_of r) name) ROWS

-- true if a move of this width can sign-extend from this size
abbrev pub is_part : Size → Width → Bool
is_part Byte w = true
is_part Half w = true
is_part Word W64 = true
is_part n w = false

-- the operations that take a register or a number
abbrev pub takes_number : Op → Bool
takes_number (MovSx n) = false
takes_number op = takes_operand op

-- true if the instruction table has the instructions of this row
abbrev pub is_row : Row → Bool
is_row (rows.Arith op w) = takes_number op
is_row (rows.SignMove n w) = is_part n w
is_row (rows.Unary op w) = is_unary op w
is_row (rows.LoadSigned n) = is_narrow n
is_row row = true
