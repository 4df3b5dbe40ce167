-- The operands that the rows of the table take.
use Rattle.std.proofs.Common.{ℕ, IsTrue, refl}
use Rattle.bpf_insn.specs.declared.insn.Width.{Width}
use Rattle.bpf_insn.specs.declared.insn.Width.TheVariants.{W32, W64}
use Rattle.bpf_insn.specs.declared.insn.Size.{Size}
use Rattle.bpf_insn.specs.declared.insn.Size.TheVariants.{Byte, Half, Word, Double}
use Rattle.bpf_insn.specs.declared.insn.Op.{Op}
use Rattle.bpf_insn.specs.declared.insn.Op.TheVariants.{Add, Sub, Mul, Div, SDiv, Or, And, Lsh, Rsh, Neg, Mod, SMod, Xor, Mov, MovSx, Arsh, Little, Big, Swap}
use Rattle.bpf_insn.specs.declared.insn.Operand.{Operand}
use Rattle.bpf_insn.specs.declared.insn.Operand.TheVariants.{Reg}
use Rattle.bpf_insn.specs.Spelling.{is_binary}
use Rattle.bpf_asm.specs.Mnemonics.{takes_number, is_part}

-- an operation whose operand may be a number takes either
pub takes_both : (op : Op) (w : Width) (s : Operand) → IsTrue (takes_number op) → IsTrue (is_binary op w s)
takes_both Add w s h = refl
takes_both Sub w s h = refl
takes_both Mul w s h = refl
takes_both Div w s h = refl
takes_both SDiv w s h = refl
takes_both Or w s h = refl
takes_both And w s h = refl
takes_both Lsh w s h = refl
takes_both Rsh w s h = refl
takes_both Mod w s h = refl
takes_both SMod w s h = refl
takes_both Xor w s h = refl
takes_both Mov w s h = refl
takes_both Arsh w s h = refl
takes_both Neg w s h = cc
takes_both (MovSx n) w s h = cc
takes_both (Little n) w s h = cc
takes_both (Big n) w s h = cc
takes_both (Swap n) w s h = cc

-- a sign-extending move takes a register
pub takes_part : (n : Size) (w : Width) (r : ℕ) → IsTrue (is_part n w) → IsTrue (is_binary (MovSx n) w (Reg r))
takes_part Byte w r h = refl
takes_part Half w r h = refl
takes_part Word W64 r h = refl
takes_part Word W32 r h = cc
takes_part Double w r h = cc
