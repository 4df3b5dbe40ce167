-- The definitions computed on values.
use Rattle.std.proofs.Common.{◌≡◌, ℕ, ◌∷◌, [], List, Some, None, pos, negsuc, refl, codes, map, true, false}
use Rattle.std.specs.Fmt.{digits}
use Rattle.bpf_insn.specs.declared.insn.Width.TheVariants.{W32, W64}
use Rattle.bpf_insn.specs.declared.insn.Size.TheVariants.{Byte, Half, Double}
use Rattle.bpf_insn.specs.declared.insn.Op.TheVariants.{Add, MovSx, Big}
use Rattle.bpf_insn.specs.declared.insn.Test.TheVariants.{Lt}
use Rattle.bpf_insn.specs.declared.insn.Operand.TheVariants.{Imm, Reg}
use Rattle.bpf_insn.specs.declared.insn.Insn.TheVariants as insns
use Rattle.bpf_asm.specs.Text.{trimmed}
use Rattle.bpf_asm.specs.Words.{register, numeral, magnitude, number, word, long, near, distance, is_name}
use Rattle.bpf_asm.specs.Mnemonics.{row_named}
use Rattle.bpf_asm.specs.Lines.{Blank, Mark, Plain, Aimed, meaning, meaning_of_body, statement, instruction, two, three, address, operand}
use Rattle.bpf_asm.specs.Denotes.{meanings, units_above}
use Rattle.bpf_asm.specs.Printed.{address_text, insn_text}

-- ---- words

registers : map register (codes "r0" ∷ codes "r10" ∷ codes "r11" ∷ codes "r01" ∷ codes "r" ∷ []) ≡ Some 0 ∷ Some 10 ∷ None ∷ None ∷ None ∷ []
registers = refl

words : map word (codes "007" ∷ codes "-0x1F" ∷ codes "2147483647" ∷ codes "2147483648" ∷ codes "-2147483648" ∷ codes "0x" ∷ codes "+1" ∷ codes "0X1" ∷ []) ≡ Some (pos 7) ∷ Some (negsuc 30) ∷ Some (pos 2147483647) ∷ None ∷ Some (negsuc 2147483647) ∷ None ∷ None ∷ None ∷ []
unfolding word number magnitude numeral
words = refl

longs : map long (codes "18446744073709551615" ∷ codes "-1" ∷ codes "18446744073709551616" ∷ []) ≡ Some 18446744073709551615 ∷ Some 18446744073709551615 ∷ None ∷ []
unfolding long number magnitude numeral
longs = refl

distances : map near (codes "+5" ∷ codes "-32768" ∷ codes "+32768" ∷ codes "5" ∷ codes "+0x5" ∷ []) ≡ Some (pos 5) ∷ Some (negsuc 32767) ∷ None ∷ None ∷ None ∷ []
unfolding near distance numeral
distances = refl

names : map is_name (codes "_a1" ∷ codes "1a" ∷ codes "" ∷ codes "A" ∷ []) ≡ true ∷ false ∷ false ∷ false ∷ []
unfolding is_name
names = refl

-- ---- lines

comment : meaning (codes "  add r1 , 0x2 ; two") ≡ Some (Plain (insns.Alu Add W64 1 (Imm (pos 2))))
unfolding meaning meaning_of_body statement instruction two operand row_named trimmed numeral magnitude number word is_name
comment = refl

load : meaning (codes "ldxdw r3, [r10-8]") ≡ Some (Plain (insns.Load Double 3 10 (negsuc 7)))
unfolding meaning meaning_of_body statement instruction two address row_named trimmed numeral distance near is_name
load = refl

moves : map meaning (codes "mov32sx8 r1, r2" ∷ codes "movsx8 r1, 2" ∷ codes "be16 r3" ∷ []) ≡ Some (Plain (insns.Alu (MovSx Byte) W32 1 (Reg 2))) ∷ None ∷ Some (Plain (insns.Unary (Big Half) W32 3)) ∷ []
unfolding meaning meaning_of_body statement instruction two row_named trimmed is_name
moves = refl

jump : meaning (codes "jlt32 r1, r2, done") ≡ Some (Aimed (insns.Branch Lt W32 1 (Reg 2) (pos 0)) (codes "done"))
unfolding meaning meaning_of_body statement instruction three operand row_named trimmed is_name
jump = refl

labels : map meaning (codes "done: ; here" ∷ codes "1x:" ∷ codes "x: exit" ∷ codes "" ∷ []) ≡ Some (Mark (codes "done")) ∷ None ∷ None ∷ Some Blank ∷ []
unfolding meaning meaning_of_body statement instruction row_named trimmed is_name
labels = refl

-- ---- texts

abbrev forward : List ℕ
forward = codes "ja x\nlddw r0, 1\nx:\nexit"

three_above : units_above (meanings forward) 2 ≡ 3
unfolding meaning meaning_of_body statement instruction two row_named trimmed numeral magnitude number long is_name
three_above = refl

texts : map insn_text (insns.Alu Add W64 1 (Imm (negsuc 0)) ∷ insns.Exit ∷ []) ≡ codes "add r1, -1" ∷ codes "exit" ∷ []
unfolding digits
texts = refl

addresses : address_text 10 (pos 0) ≡ codes "[r10+0]"
unfolding digits
addresses = refl
