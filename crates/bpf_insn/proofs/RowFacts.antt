-- The rows of instructions are fields of a unit, and bytes determine them.
use Rattle.std.proofs.Common.{◌≡◌, ℕ, ℤ, ◌+◌, ◌*◌, ◌/◌, ◌%◌, ◌^◌, ◌<◌, ◌≤◌, ◌++◌, List, take, refl, sym, ap, ◌∙◌, arith, append_assoc}
use Rattle.std.proofs.lemmas.List.{take-append-drop, drop-drop}
use Rattle.std.specs.Prelude.{pos, FitsSigned, drop}
use Rattle.std.specs.Int.{cast_signed, cast_unsigned, w16, w32}
use Rattle.std.proofs.lemmas.Int.{of_z-to_z, to_z-of_z, ints}
use Rattle.bpf_insn.specs.declared.insn.Width.{Width}
use Rattle.bpf_insn.specs.declared.insn.Size.{Size}
use Rattle.bpf_insn.specs.declared.insn.Op.{Op}
use Rattle.bpf_insn.specs.declared.insn.Test.{Test}
use Rattle.bpf_insn.specs.declared.insn.Operand.{Operand}
use Rattle.bpf_insn.specs.declared.insn.Operand.TheVariants.{Imm, Reg}
use Rattle.bpf_insn.specs.declared.insn.Insn.{Insn}
use Rattle.bpf_insn.specs.declared.insn.Insn.TheVariants.{Alu, Unary, Branch, Jump, JumpFar, Call, Exit, Load, LoadSigned, StoreImm, Store, Wide}
use Rattle.bpf_insn.specs.declared.fields.Fields.{Fields}
use Rattle.bpf_insn.specs.Spelling.{HasSpelling, IsFields, IsOperand, row_of, high_half, unit_bytes, spelling_of, code_of, selector_of, order_bit, swap_bits, size_code, test_code, source_bit, source_of, immediate_of, arithmetic_class, jump_class}
use Rattle.bpf_insn.proofs.Units.{unit_tells, same_fields, unsigned_fits_32}

-- ---- the bounds of the parts of a row

code_below : (op : Op) → code_of op < 14
code_below op = grind arith

order_below : (op : Op) → order_bit op ≤ 8
order_below op = grind arith

selector_below : (op : Op) → selector_of op ≤ 64
selector_below op = grind arith

swap_below : (op : Op) → swap_bits op ≤ 64
swap_below op = grind arith

test_below : (t : Test) → test_code t < 14
test_below t = grind arith

size_below : (n : Size) → size_code n < 4
size_below n = grind arith

class_below : (w : Width) → arithmetic_class w < 8
class_below w = grind arith

jump_below : (w : Width) → jump_class w < 8
jump_below w = grind arith

bit_below : (s : Operand) → source_bit s ≤ 8
bit_below s = grind arith

source_fits : (s : Operand) → IsOperand s → source_of s < 16
source_fits s h = grind arith

immediate_fits : (s : Operand) → IsOperand s → FitsSigned w32 (immediate_of s)
immediate_fits (Imm k) h = h
immediate_fits (Reg r) h = omega (arith, ints)

small_fits_16 : (n : ℕ) → n < 2 ^ 15 → FitsSigned w16 (pos n)
small_fits_16 n h = omega (arith, ints)

small_fits_32 : (n : ℕ) → n < 2 ^ 31 → FitsSigned w32 (pos n)
small_fits_32 n h = omega (arith, ints)

half_fits : (n : ℕ) → n < 2 ^ 32 → FitsSigned w32 (cast_signed w32 n)
half_fits n h = omega (arith, ints)

-- the row of an instruction of the table fits a unit
pub row_fits : (i : Insn) → HasSpelling i → IsFields (row_of i)
row_fits (Alu op w d s) h = record {
  opcode_fits = omega (arith, code_below op, bit_below s, class_below w);
  dst_fits = omega (arith, h.1);
  src_fits = source_fits s h.2;
  offset_fits = small_fits_16 (selector_of op) (omega (arith, selector_below op));
  imm_fits = immediate_fits s h.2;
}
row_fits (Unary op w d) h = record {
  opcode_fits = omega (arith, code_below op, order_below op, class_below w);
  dst_fits = omega (arith, h.1);
  src_fits = omega arith;
  offset_fits = small_fits_16 0 (omega arith);
  imm_fits = small_fits_32 (swap_bits op) (omega (arith, swap_below op));
}
row_fits (Branch t w d s off) h = record {
  opcode_fits = omega (arith, test_below t, bit_below s, jump_below w);
  dst_fits = omega (arith, h.0);
  src_fits = source_fits s h.1;
  offset_fits = h.2;
  imm_fits = immediate_fits s h.1;
}
row_fits (Jump off) h = record { opcode_fits = omega arith; dst_fits = omega arith; src_fits = omega arith; offset_fits = h; imm_fits = small_fits_32 0 (omega arith) }
row_fits (JumpFar off) h = record { opcode_fits = omega arith; dst_fits = omega arith; src_fits = omega arith; offset_fits = small_fits_16 0 (omega arith); imm_fits = h }
row_fits (Call id) h = record { opcode_fits = omega arith; dst_fits = omega arith; src_fits = omega arith; offset_fits = small_fits_16 0 (omega arith); imm_fits = h }
row_fits Exit h = record { opcode_fits = omega arith; dst_fits = omega arith; src_fits = omega arith; offset_fits = small_fits_16 0 (omega arith); imm_fits = small_fits_32 0 (omega arith) }
row_fits (Load n d b off) h = record { opcode_fits = omega (arith, size_below n); dst_fits = omega (arith, h.0); src_fits = omega (arith, h.1); offset_fits = h.2; imm_fits = small_fits_32 0 (omega arith) }
row_fits (LoadSigned n d b off) h = record { opcode_fits = omega (arith, size_below n); dst_fits = omega (arith, h.1); src_fits = omega (arith, h.2); offset_fits = h.3; imm_fits = small_fits_32 0 (omega arith) }
row_fits (StoreImm n b off k) h = record { opcode_fits = omega (arith, size_below n); dst_fits = omega (arith, h.0); src_fits = omega arith; offset_fits = h.1; imm_fits = h.2 }
row_fits (Store n b off s) h = record { opcode_fits = omega (arith, size_below n); dst_fits = omega (arith, h.0); src_fits = omega (arith, h.1); offset_fits = h.2; imm_fits = small_fits_32 0 (omega arith) }
row_fits (Wide d n) h = record { opcode_fits = omega arith; dst_fits = omega (arith, h.0); src_fits = omega arith; offset_fits = small_fits_16 0 (omega arith); imm_fits = half_fits _ (omega arith) }

pub high_half_fits : (n : ℕ) → n < 2 ^ 64 → IsFields (high_half n)
high_half_fits n h = record { opcode_fits = omega arith; dst_fits = omega arith; src_fits = omega arith; offset_fits = small_fits_16 0 (omega arith); imm_fits = half_fits _ (omega arith) }

-- ---- bytes determine the fields

-- bytes that begin with an instruction's spelling begin with its row
pub tells_row : (i : Insn) (f : Fields) (bytes more : List ℕ) → IsFields f → take 8 bytes ≡ unit_bytes f → HasSpelling i → bytes ≡ spelling_of i ++ more → row_of i ≡ f
tells_row i f bytes more fits unit has e = unit_tells (row_of i) f (row_fits i has) fits (sym (ap (take 8) e) ∙ unit)

-- the second unit after a constant's first is its high half
pub tells_high : (d n : ℕ) (f : Fields) (bytes more : List ℕ) → IsFields f → take 8 (drop 8 bytes) ≡ unit_bytes f → HasSpelling (Wide d n) → bytes ≡ spelling_of (Wide d n) ++ more → high_half n ≡ f
tells_high d n f bytes more fits unit has e = unit_tells (high_half n) f (high_half_fits n has.1) fits (sym (ap (λ (xs : List ℕ). take 8 (drop 8 xs)) e) ∙ unit)

-- a constant is its two halves
pub tells_number : (d n : ℕ) (first second : Fields) → n < 2 ^ 64 → row_of (Wide d n) ≡ first → high_half n ≡ second → cast_unsigned w32 second.imm * 2 ^ 32 + cast_unsigned w32 first.imm ≡ n
tells_number d n first second h e g =
    let low : cast_unsigned w32 first.imm ≡ n % 2 ^ 32 = sym (ap (λ (f : Fields). cast_unsigned w32 f.imm) e) ∙ of_z-to_z w32 (n % 2 ^ 32) (omega arith) in
    let high : cast_unsigned w32 second.imm ≡ n / 2 ^ 32 = sym (ap (λ (f : Fields). cast_unsigned w32 f.imm) g) ∙ of_z-to_z w32 (n / 2 ^ 32) (omega arith) in
    omega arith

-- two units that are the halves of a constant spell it
pub halves_spell : (bytes : List ℕ) (first second : Fields)
    → first.opcode ≡ 24 → first.dst ≤ 10 → first.src ≡ 0 → first.offset ≡ pos 0
    → second.opcode ≡ 0 → second.dst ≡ 0 → second.src ≡ 0 → second.offset ≡ pos 0
    → IsFields first → IsFields second → take 8 bytes ≡ unit_bytes first → take 8 (drop 8 bytes) ≡ unit_bytes second
    → HasSpelling (Wide first.dst (cast_unsigned w32 second.imm * 2 ^ 32 + cast_unsigned w32 first.imm))
    × (bytes ≡ spelling_of (Wide first.dst (cast_unsigned w32 second.imm * 2 ^ 32 + cast_unsigned w32 first.imm)) ++ drop 16 bytes)
halves_spell bytes first second a b c d e f g h p q one two =
    let n = cast_unsigned w32 second.imm * 2 ^ 32 + cast_unsigned w32 first.imm in
    let low_fits : cast_unsigned w32 first.imm < 2 ^ 32 = unsigned_fits_32 first.imm p.imm_fits in
    let high_fits : cast_unsigned w32 second.imm < 2 ^ 32 = unsigned_fits_32 second.imm q.imm_fits in
    let low : n % 2 ^ 32 ≡ cast_unsigned w32 first.imm = omega arith in
    let high : n / 2 ^ 32 ≡ cast_unsigned w32 second.imm = omega arith in
    let row : row_of (Wide first.dst n) ≡ first = same_fields _ first (sym a) refl (sym c) (sym d) (ap (cast_signed w32) low ∙ to_z-of_z w32 first.imm p.imm_fits) in
    let rest : high_half n ≡ second = same_fields _ second (sym e) (sym f) (sym g) (sym h) (ap (cast_signed w32) high ∙ to_z-of_z w32 second.imm q.imm_fits) in
    let unit : unit_bytes (row_of (Wide first.dst n)) ≡ take 8 bytes = ap unit_bytes row ∙ sym one in
    let next : unit_bytes (high_half n) ≡ take 8 (drop 8 bytes) = ap unit_bytes rest ∙ sym two in
    ((b, omega arith), sym (sixteen bytes (unit_bytes (row_of (Wide first.dst n))) (unit_bytes (high_half n)) unit next))
  where
    sixteen : (bytes a b : List ℕ) → a ≡ take 8 bytes → b ≡ take 8 (drop 8 bytes) → (a ++ b) ++ drop 16 bytes ≡ bytes
    sixteen bytes a b p q = rw (p, q, append_assoc) (rw (sym (drop-drop 8 8 bytes)) (rw take-append-drop (take-append-drop 8 bytes)))

-- a number with zero bits is zero
pub zero_16 : (z : ℤ) → FitsSigned w16 z → cast_unsigned w16 z ≡ 0 → z ≡ pos 0
zero_16 z fits e = omega (arith, ints)

-- the bits of a number after reading and writing it again
pub bits_again_32 : (z : ℤ) (n : ℕ) → FitsSigned w32 z → n ≡ cast_unsigned w32 (cast_signed w32 (cast_unsigned w32 z)) → n ≡ cast_unsigned w32 z
bits_again_32 z n fits e = e ∙ ap (cast_unsigned w32) (to_z-of_z w32 z fits)
