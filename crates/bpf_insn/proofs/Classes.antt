-- The class of an opcode determines the form of its instruction.
use Rattle.std.proofs.Common.{◌≡◌, ℕ, ℤ, ◌%◌, ◌<◌, refl, sym, ap, ◌∙◌, arith, inl, inr}
use Rattle.std.specs.Prelude.{Result, List, ◌≤◌, ◌⊎◌}
use Rattle.bpf_insn.specs.declared.insn.Width.{Width}
use Rattle.bpf_insn.specs.declared.insn.Width.TheVariants.{W32, W64}
use Rattle.bpf_insn.specs.declared.insn.Size.{Size}
use Rattle.bpf_insn.specs.declared.insn.Op.{Op}
use Rattle.bpf_insn.specs.declared.insn.Test.{Test}
use Rattle.bpf_insn.specs.declared.insn.Operand.{Operand}
use Rattle.bpf_insn.specs.declared.insn.Operand.TheVariants.{Imm, Reg}
use Rattle.bpf_insn.specs.declared.insn.Insn.{Insn}
use Rattle.bpf_insn.specs.declared.insn.Insn.TheVariants.{Alu, Unary, Branch, Jump, JumpFar, Call, Exit, Load, LoadSigned, StoreImm, Store, Wide}
use Rattle.bpf_insn.specs.declared.fields.Fields.{Fields}
use Rattle.bpf_insn.specs.declared.operands.UnitFault.{UnitFault}
use Rattle.bpf_insn.specs.Spelling.{row_of, order_bit, arithmetic_class, jump_class}
use Rattle.bpf_insn.specs.Rows.{OnlyReads, OnlyFinds}

-- the class of an instruction
abbrev pub class : Insn → ℕ
class (Alu op w d s) = arithmetic_class w
class (Unary op w d) = arithmetic_class w
class (Branch t w d s off) = jump_class w
class (Jump off) = 5
class (JumpFar off) = 6
class (Call id) = 5
class Exit = 5
class (Load n d b off) = 1
class (LoadSigned n d b off) = 1
class (StoreImm n b off k) = 2
class (Store n b off s) = 3
class (Wide d n) = 0

order_is : (op : Op) → order_bit op % 8 ≡ 0
order_is op = grind arith

pub class_is : (i : Insn) → (row_of i).opcode % 8 ≡ class i
class_is (Alu op W32 d (Imm k)) = omega arith
class_is (Alu op W32 d (Reg r)) = omega arith
class_is (Alu op W64 d (Imm k)) = omega arith
class_is (Alu op W64 d (Reg r)) = omega arith
class_is (Unary op W32 d) = omega (arith, order_is op)
class_is (Unary op W64 d) = omega (arith, order_is op)
class_is (Branch t W32 d (Imm k) off) = omega arith
class_is (Branch t W32 d (Reg r) off) = omega arith
class_is (Branch t W64 d (Imm k) off) = omega arith
class_is (Branch t W64 d (Reg r) off) = omega arith
class_is (Jump off) = refl
class_is (JumpFar off) = refl
class_is (Call id) = refl
class_is Exit = refl
class_is (Load n d b off) = omega arith
class_is (LoadSigned n d b off) = omega arith
class_is (StoreImm n b off k) = omega arith
class_is (Store n b off s) = omega arith
class_is (Wide d n) = refl

-- an instruction with these fields has their class
pub by_class : (fields : Fields) (r : Result Insn UnitFault) → ((i : Insn) → class i ≡ fields.opcode % 8 → OnlyReads fields r i) → (i : Insn) → OnlyReads fields r i
by_class fields r each i has e = each i (sym (class_is i) ∙ ap (λ (f : Fields). f.opcode % 8) e) has e

high : (w : Width) → 4 ≤ arithmetic_class w
high W32 = omega arith
high W64 = omega arith

middle : (w : Width) → (5 ≤ jump_class w) × (jump_class w ≤ 6)
middle W32 = (omega arith, omega arith)
middle W64 = (omega arith, omega arith)

outer : (w : Width) → (arithmetic_class w < 5) ⊎ (6 < arithmetic_class w)
outer W32 = inl (omega arith)
outer W64 = inr (omega arith)

-- ---- the forms of the classes

pub of_arithmetic : (fields : Fields) (r : Result Insn UnitFault) (w : Width)
    → ((op : Op) (w : Width) (d : ℕ) (s : Operand) → OnlyReads fields r (Alu op w d s))
    → ((op : Op) (w : Width) (d : ℕ) → OnlyReads fields r (Unary op w d))
    → (i : Insn) → class i ≡ arithmetic_class w → OnlyReads fields r i
of_arithmetic fields r w binary unary (Alu op v d s) e = binary op v d s
of_arithmetic fields r w binary unary (Unary op v d) e = unary op v d
of_arithmetic fields r w binary unary (Branch t v d s off) e = absurd (omega (arith, outer w, middle v))
of_arithmetic fields r w binary unary i e = absurd (omega (arith, high w, outer w))

pub of_jump : (fields : Fields) (r : Result Insn UnitFault) (w : Width)
    → ((t : Test) (w : Width) (d : ℕ) (s : Operand) (off : ℤ) → OnlyReads fields r (Branch t w d s off))
    → ((off : ℤ) → OnlyReads fields r (Jump off))
    → ((off : ℤ) → OnlyReads fields r (JumpFar off))
    → ((id : ℤ) → OnlyReads fields r (Call id))
    → OnlyReads fields r Exit
    → (i : Insn) → class i ≡ jump_class w → OnlyReads fields r i
of_jump fields r w branch jump far call exit (Branch t v d s off) e = branch t v d s off
of_jump fields r w branch jump far call exit (Jump off) e = jump off
of_jump fields r w branch jump far call exit (JumpFar off) e = far off
of_jump fields r w branch jump far call exit (Call id) e = call id
of_jump fields r w branch jump far call exit Exit e = exit
of_jump fields r w branch jump far call exit (Alu op v d s) e = absurd (omega (arith, outer v, middle w))
of_jump fields r w branch jump far call exit (Unary op v d) e = absurd (omega (arith, outer v, middle w))
of_jump fields r w branch jump far call exit i e = absurd (omega (arith, middle w))

pub of_memory : (fields : Fields) (r : Result Insn UnitFault) (k : ℕ) → 0 < k → k < 4
    → ((n : Size) (d b : ℕ) (off : ℤ) → OnlyReads fields r (Load n d b off))
    → ((n : Size) (d b : ℕ) (off : ℤ) → OnlyReads fields r (LoadSigned n d b off))
    → ((n : Size) (b : ℕ) (off v : ℤ) → OnlyReads fields r (StoreImm n b off v))
    → ((n : Size) (b : ℕ) (off : ℤ) (s : ℕ) → OnlyReads fields r (Store n b off s))
    → (i : Insn) → class i ≡ k → OnlyReads fields r i
of_memory fields r k above below load signed number register (Load n d b off) e = load n d b off
of_memory fields r k above below load signed number register (LoadSigned n d b off) e = signed n d b off
of_memory fields r k above below load signed number register (StoreImm n b off v) e = number n b off v
of_memory fields r k above below load signed number register (Store n b off s) e = register n b off s
of_memory fields r k above below load signed number register (Alu op w d s) e = absurd (omega (arith, high w))
of_memory fields r k above below load signed number register (Unary op w d) e = absurd (omega (arith, high w))
of_memory fields r k above below load signed number register (Branch t w d s off) e = absurd (omega (arith, middle w))
of_memory fields r k above below load signed number register i e = absurd (omega arith)

-- the only instruction of class 0
pub of_wide : (bytes : List ℕ) (r : Result Insn UnitFault) → ((d n : ℕ) → OnlyFinds bytes r (Wide d n)) → (i : Insn) → class i ≡ 0 → OnlyFinds bytes r i
of_wide bytes r wide (Wide d n) e = wide d n
of_wide bytes r wide (Alu op w d s) e = absurd (omega (arith, high w))
of_wide bytes r wide (Unary op w d) e = absurd (omega (arith, high w))
of_wide bytes r wide (Branch t w d s off) e = absurd (omega (arith, middle w))
of_wide bytes r wide i e = absurd (omega arith)
