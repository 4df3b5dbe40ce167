-- Instructions and their bytes, results and tests, on values.
use Rattle.std.proofs.Common.{◌≡◌, refl, List, [], ◌∷◌}
use Rattle.std.specs.Prelude.{pos, negsuc, true, false, Some, None}
use Rattle.bpf_insn.specs.declared.insn.Width.TheVariants.{W32, W64}
use Rattle.bpf_insn.specs.declared.insn.Size.TheVariants.{Byte, Half, Word, Double}
use Rattle.bpf_insn.specs.declared.insn.Op.TheVariants.{Add, Div, SDiv, Mod, SMod, Lsh, Arsh, MovSx, Little, Big, Swap}
use Rattle.bpf_insn.specs.declared.insn.Test.TheVariants.{Gt, SGt, Set, SLt}
use Rattle.bpf_insn.specs.declared.insn.Operand.TheVariants.{Imm, Reg}
use Rattle.bpf_insn.specs.declared.insn.Insn.{Insn}
use Rattle.bpf_insn.specs.declared.insn.Insn.TheVariants.{Alu, Unary, Branch, JumpFar, Exit, LoadSigned, Wide}
use Rattle.bpf_insn.specs.Arithmetic.{result_of}
use Rattle.bpf_insn.specs.Conditions.{holds_of}
use Rattle.bpf_insn.specs.Spelling.{spelling_of}
use Rattle.bpf_insn.specs.Code.{fetch, unit_count}

-- ---- spellings

signed_move : spelling_of (Alu (MovSx Byte) W32 1 (Reg 2)) ≡ 0xbc ∷ 0x21 ∷ 8 ∷ 0 ∷ 0 ∷ 0 ∷ 0 ∷ 0 ∷ []
signed_move = refl

to_big : spelling_of (Unary (Big Half) W32 3) ≡ 0xdc ∷ 3 ∷ 0 ∷ 0 ∷ 16 ∷ 0 ∷ 0 ∷ 0 ∷ []
to_big = refl

swap : spelling_of (Unary (Swap Double) W64 4) ≡ 0xd7 ∷ 4 ∷ 0 ∷ 0 ∷ 64 ∷ 0 ∷ 0 ∷ 0 ∷ []
swap = refl

signed_rest : spelling_of (Alu SMod W64 6 (Imm (pos 3))) ≡ 0x97 ∷ 6 ∷ 1 ∷ 0 ∷ 3 ∷ 0 ∷ 0 ∷ 0 ∷ []
signed_rest = refl

far : spelling_of (JumpFar (pos 1)) ≡ 6 ∷ 0 ∷ 0 ∷ 0 ∷ 1 ∷ 0 ∷ 0 ∷ 0 ∷ []
far = refl

branch : spelling_of (Branch SLt W32 1 (Imm (negsuc 0)) (pos 2)) ≡ 0xc6 ∷ 1 ∷ 2 ∷ 0 ∷ 255 ∷ 255 ∷ 255 ∷ 255 ∷ []
branch = refl

load : spelling_of (LoadSigned Word 1 2 (negsuc 3)) ≡ 0x81 ∷ 0x21 ∷ 0xfc ∷ 0xff ∷ 0 ∷ 0 ∷ 0 ∷ 0 ∷ []
load = refl

constant : spelling_of (Wide 1 0x8000000200000001) ≡ 0x18 ∷ 1 ∷ 0 ∷ 0 ∷ 1 ∷ 0 ∷ 0 ∷ 0 ∷ 0 ∷ 0 ∷ 0 ∷ 0 ∷ 2 ∷ 0 ∷ 0 ∷ 0x80 ∷ []
constant = refl

-- ---- units

abbrev two : List Insn
two = Wide 0 1 ∷ Exit ∷ []

units : unit_count two ≡ 3
units = refl

at_first : fetch two 0 ≡ Some (Wide 0 1)
at_first = refl

at_second : fetch two 1 ≡ None
at_second = refl

at_end : fetch two 2 ≡ Some Exit
at_end = refl

past_end : fetch two 3 ≡ None
past_end = refl

-- ---- results

rounds_to_zero : result_of SDiv W64 0xfffffffffffffff9 2 ≡ 0xfffffffffffffffd
rounds_to_zero = refl

sign_of_dividend : result_of SMod W64 0xfffffffffffffff3 3 ≡ 0xffffffffffffffff
sign_of_dividend = refl

least_quotient : result_of SDiv W32 0x80000000 0xffffffff ≡ 0x80000000
least_quotient = refl

least_rest : result_of SMod W32 0x80000000 0xffffffff ≡ 0
least_rest = refl

by_zero : result_of Div W64 7 0 ≡ 0
by_zero = refl

rest_by_zero : result_of Mod W32 0x100000005 0 ≡ 5
rest_by_zero = refl

sum_of_32_bits : result_of Add W32 0xffffffffffffffff 1 ≡ 0
sum_of_32_bits = refl

low_bits_of_a_count : result_of Lsh W64 1 65 ≡ 2
low_bits_of_a_count = refl

sign_stays : result_of Arsh W32 0x80000000 31 ≡ 0xffffffff
sign_stays = refl

sign_of_a_part : result_of (MovSx Byte) W32 0 0x80 ≡ 0xffffff80
sign_of_a_part = refl

bytes_reversed : result_of (Big Half) W32 0x12345678 0 ≡ 0x7856
bytes_reversed = refl

cut : result_of (Little Word) W32 0x100000002 0 ≡ 2
cut = refl

-- ---- tests

above : holds_of Gt W64 0xffffffffffffffff 0 ≡ true
above = refl

not_above : holds_of SGt W64 0xffffffffffffffff 0 ≡ false
not_above = refl

no_common_bit : holds_of Set W32 0x100000000 0x100000000 ≡ false
no_common_bit = refl
