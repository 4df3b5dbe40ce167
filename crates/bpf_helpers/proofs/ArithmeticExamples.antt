-- The results of programs that compute.
use Rattle.std.proofs.Common.{ℕ, refl, List, [], ◌∷◌}
use Rattle.std.specs.Prelude.{pos, negsuc}
use Rattle.bpf_insn.specs.declared.insn.Width.TheVariants.{W32, W64}
use Rattle.bpf_insn.specs.declared.insn.Size.TheVariants.{Byte, Half, Word, Double}
use Rattle.bpf_insn.specs.declared.insn.Op.TheVariants.{Add, Mul, Div, SDiv, Mod, SMod, MovSx, Arsh, Neg, Little, Big, Swap}
use Rattle.bpf_insn.specs.declared.insn.Test.TheVariants.{Eq, Gt, SLt}
use Rattle.bpf_insn.specs.declared.insn.Operand.TheVariants.{Imm, Reg}
use Rattle.bpf_insn.specs.declared.insn.Insn.{Insn}
use Rattle.bpf_insn.specs.declared.insn.Insn.TheVariants.{Alu, Unary, Branch, JumpFar, Call, Exit, Load, Wide}
use Rattle.bpf_helpers.specs.Runs.{Ends}
use Rattle.bpf_helpers.proofs.Running.{ends, here, set, move}

-- the value of R6 at the program's end becomes the reply word
abbrev replied : List Insn
replied = move 1 6 ∷ Call (pos 1) ∷ Exit ∷ []

-- the run of a program on an empty record ends with 0 and this reply word
abbrev Replies : List Insn → ℕ → ℕ → Type 0
Replies program word steps = Ends program [] [] here (record { code = 0; word = word; bytes = []; steps = steps })

signed_remainder : Ends (set 6 (negsuc 12) ∷ Alu SMod W64 6 (Imm (pos 3)) ∷ replied) [] [] here (record { code = 0; word = 18446744073709551615; bytes = []; steps = 5 })
signed_remainder = ends 4 _ [] [] here _ refl

least_by_minus_one : Ends (Wide 6 0x8000000000000000 ∷ Alu SDiv W64 6 (Imm (negsuc 0)) ∷ replied) [] [] here (record { code = 0; word = 9223372036854775808; bytes = []; steps = 5 })
least_by_minus_one = ends 4 _ [] [] here _ refl

remainder_by_zero_32 : Ends (Wide 6 0x100000005 ∷ set 7 (pos 0) ∷ Alu Mod W32 6 (Reg 7) ∷ replied) [] [] here (record { code = 0; word = 5; bytes = []; steps = 6 })
remainder_by_zero_32 = ends 5 _ [] [] here _ refl

remainder_by_zero : Ends (Wide 6 0x100000005 ∷ set 7 (pos 0) ∷ Alu Mod W64 6 (Reg 7) ∷ replied) [] [] here (record { code = 0; word = 4294967301; bytes = []; steps = 6 })
remainder_by_zero = ends 5 _ [] [] here _ refl

quotient_by_zero : Ends (Wide 6 0x100000005 ∷ set 7 (pos 0) ∷ Alu Div W64 6 (Reg 7) ∷ replied) [] [] here (record { code = 0; word = 0; bytes = []; steps = 6 })
quotient_by_zero = ends 5 _ [] [] here _ refl

-- no number is above the greatest, so the multiplied pointer is never reached
never_above : Ends (Load Double 6 10 (negsuc 7) ∷ Branch Gt W64 6 (Imm (negsuc 0)) (pos 2) ∷ set 0 (pos 0) ∷ Exit ∷ Alu Mul W64 1 (Imm (pos 2)) ∷ Exit ∷ []) [] [] here (record { code = 0; word = 0; bytes = []; steps = 4 })
never_above = ends 3 _ [] [] here _ refl

upper_half_is_cleared : Ends (set 6 (negsuc 0) ∷ Alu Add W32 6 (Imm (pos 1)) ∷ move 0 6 ∷ Exit ∷ []) [] [] here (record { code = 0; word = 0; bytes = []; steps = 4 })
upper_half_is_cleared = ends 3 _ [] [] here _ refl

-- ---- sign-extending moves

byte_with_sign : Replies (set 7 (pos 0x180) ∷ Alu (MovSx Byte) W64 6 (Reg 7) ∷ replied) 18446744073709551488 5
byte_with_sign = ends 4 _ [] [] here _ refl

half_with_sign : Replies (set 7 (pos 0x17fff) ∷ Alu (MovSx Half) W64 6 (Reg 7) ∷ replied) 32767 5
half_with_sign = ends 4 _ [] [] here _ refl

word_with_sign : Replies (Wide 7 0x180000000 ∷ Alu (MovSx Word) W64 6 (Reg 7) ∷ replied) 18446744071562067968 5
word_with_sign = ends 4 _ [] [] here _ refl

byte_with_sign_32 : Replies (set 7 (pos 0x180) ∷ Alu (MovSx Byte) W32 6 (Reg 7) ∷ replied) 4294967168 5
byte_with_sign_32 = ends 4 _ [] [] here _ refl

-- ---- byte swaps

little_half : Replies (Wide 6 0x0102030405060708 ∷ Unary (Little Half) W32 6 ∷ replied) 0x0708 5
little_half = ends 4 _ [] [] here _ refl

big_half : Replies (Wide 6 0x0102030405060708 ∷ Unary (Big Half) W32 6 ∷ replied) 0x0807 5
big_half = ends 4 _ [] [] here _ refl

big_double : Replies (Wide 6 0x0102030405060708 ∷ Unary (Big Double) W32 6 ∷ replied) 0x0807060504030201 5
big_double = ends 4 _ [] [] here _ refl

swapped_word : Replies (Wide 6 0x0102030405060708 ∷ Unary (Swap Word) W64 6 ∷ replied) 0x08070605 5
swapped_word = ends 4 _ [] [] here _ refl

-- ---- signs

shifted_with_sign : Replies (set 6 (negsuc 15) ∷ Alu Arsh W64 6 (Imm (pos 2)) ∷ replied) 18446744073709551612 5
shifted_with_sign = ends 4 _ [] [] here _ refl

-- a count of 33 is 1 at 32 bits
shifted_with_sign_32 : Replies (Wide 6 0x180000000 ∷ Alu Arsh W32 6 (Imm (pos 33)) ∷ replied) 0xc0000000 5
shifted_with_sign_32 = ends 4 _ [] [] here _ refl

negated : Replies (set 6 (pos 1) ∷ Unary Neg W64 6 ∷ replied) 18446744073709551615 5
negated = ends 4 _ [] [] here _ refl

negated_32 : Replies (Wide 6 0x100000001 ∷ Unary Neg W32 6 ∷ replied) 4294967295 5
negated_32 = ends 4 _ [] [] here _ refl

negated_zero : Replies (set 6 (pos 0) ∷ Unary Neg W64 6 ∷ replied) 0 5
negated_zero = ends 4 _ [] [] here _ refl

-- ---- 32-bit branches

-- replies 2 if the branch over the number 1 is taken, otherwise 1
abbrev chosen : Insn → List Insn
chosen branch = branch ∷ set 6 (pos 1) ∷ replied

abbrev two_if : Insn → ℕ → List Insn
two_if branch n = Wide 7 n ∷ set 6 (pos 2) ∷ chosen branch

upper_half_is_left_out : Replies (two_if (Branch Eq W32 7 (Imm (pos 0)) (pos 1)) 0x100000000) 2 6
upper_half_is_left_out = ends 5 _ [] [] here _ refl

upper_half_counts : Replies (two_if (Branch Eq W64 7 (Imm (pos 0)) (pos 1)) 0x100000000) 1 7
upper_half_counts = ends 6 _ [] [] here _ refl

below_zero_32 : Replies (two_if (Branch SLt W32 7 (Imm (pos 0)) (pos 1)) 0x80000000) 2 6
below_zero_32 = ends 5 _ [] [] here _ refl

not_below_zero : Replies (two_if (Branch SLt W64 7 (Imm (pos 0)) (pos 1)) 0x80000000) 1 7
not_below_zero = ends 6 _ [] [] here _ refl

-- ---- jumps

far : Replies (set 6 (pos 2) ∷ chosen (JumpFar (pos 1))) 2 5
far = ends 4 _ [] [] here _ refl

-- a branch backward that is not taken
not_backward : Replies (set 6 (pos 2) ∷ chosen (Branch Eq W64 2 (Imm (pos 5)) (negsuc 1))) 1 6
not_backward = ends 5 _ [] [] here _ refl
