-- A unit's bytes and its fields.
use Rattle.std.proofs.Common.{◌≡◌, ℕ, ℤ, zero, suc, ◌+◌, ◌*◌, ◌/◌, ◌%◌, ◌^◌, ◌<◌, ◌≤◌, ◌++◌, length, take, refl, sym, ap, ◌∙◌, arith, List, [], ◌∷◌, lit<}
use Rattle.std.specs.Prelude.{slice_index, drop, FitsSigned}
use Rattle.std.specs.Int.{to_le_bytes, from_le_bytes, cast_unsigned, cast_signed, w16, w32}
use Rattle.std.proofs.lemmas.Int.{of_z-to_z, to_z-of_z, ints}
use Rattle.std.proofs.lemmas.Nat.{le_bytes_2, le_bytes_4, from_le_bytes-to_le_bytes_2, from_le_bytes-to_le_bytes_4}
use Rattle.bpf_insn.specs.declared.fields.Fields.{Fields}
use Rattle.bpf_insn.specs.Spelling.{unit_bytes, IsFields}

two : (a b : ℕ) → a < 256 → b < 256 → to_le_bytes w16 (a + b * 256) ≡ a ∷ b ∷ []
two a b p q = le_bytes_2 (a ∷ b ∷ []) (a + b * 256) refl each refl
  where
    each : (i : ℕ) → slice_index (a ∷ b ∷ []) i < 256
    each zero = p
    each (suc zero) = q
    each (suc (suc i)) = lit< tt

four : (a b c d : ℕ) → a < 256 → b < 256 → c < 256 → d < 256 → to_le_bytes w32 (a + b * 256 + c * 65536 + d * 16777216) ≡ a ∷ b ∷ c ∷ d ∷ []
four a b c d p q r s = le_bytes_4 (a ∷ b ∷ c ∷ d ∷ []) _ refl each refl
  where
    each : (i : ℕ) → slice_index (a ∷ b ∷ c ∷ d ∷ []) i < 256
    each zero = p
    each (suc zero) = q
    each (suc (suc zero)) = r
    each (suc (suc (suc zero))) = s
    each (suc (suc (suc (suc i)))) = lit< tt

-- eight bytes are those of the fields that they spell
unit_is : (a b c d e f g h : ℕ) → b < 256 → c < 256 → d < 256 → e < 256 → f < 256 → g < 256 → h < 256
    → a ∷ b ∷ c ∷ d ∷ e ∷ f ∷ g ∷ h ∷ [] ≡ unit_bytes (record { opcode = a; dst = b % 16; src = b / 16; offset = cast_signed w16 (c + d * 256); imm = cast_signed w32 (e + f * 256 + g * 65536 + h * 16777216) })
unit_is a b c d e f g h pb pc pd pe pf pg ph =
    let o : cast_unsigned w16 (cast_signed w16 (c + d * 256)) ≡ c + d * 256 = of_z-to_z w16 (c + d * 256) (omega arith) in
    let i : cast_unsigned w32 (cast_signed w32 (e + f * 256 + g * 65536 + h * 16777216)) ≡ e + f * 256 + g * 65536 + h * 16777216 = of_z-to_z w32 _ (omega arith) in
    let r : b ≡ b % 16 + 16 * (b / 16) = omega arith in
    let x : to_le_bytes w16 (cast_unsigned w16 (cast_signed w16 (c + d * 256))) ≡ c ∷ d ∷ [] = ap (to_le_bytes w16) o ∙ two c d pc pd in
    let y : to_le_bytes w32 (cast_unsigned w32 (cast_signed w32 (e + f * 256 + g * 65536 + h * 16777216))) ≡ e ∷ f ∷ g ∷ h ∷ [] = ap (to_le_bytes w32) i ∙ four e f g h pe pf pg ph in
    let z : c ∷ d ∷ e ∷ f ∷ g ∷ h ∷ [] ≡ to_le_bytes w16 (cast_unsigned w16 (cast_signed w16 (c + d * 256))) ++ to_le_bytes w32 (cast_unsigned w32 (cast_signed w32 (e + f * 256 + g * 65536 + h * 16777216))) = sym (ap (λ l. l ++ to_le_bytes w32 (cast_unsigned w32 (cast_signed w32 (e + f * 256 + g * 65536 + h * 16777216)))) x ∙ ap (λ l. c ∷ d ∷ l) y) in
    ap (λ n. a ∷ n ∷ c ∷ d ∷ e ∷ f ∷ g ∷ h ∷ []) r ∙ ap (λ l. a ∷ (b % 16 + 16 * (b / 16)) ∷ l) z

eight : (xs : List ℕ) → 8 ≤ length xs → take 8 xs ≡ slice_index xs 0 ∷ slice_index xs 1 ∷ slice_index xs 2 ∷ slice_index xs 3 ∷ slice_index xs 4 ∷ slice_index xs 5 ∷ slice_index xs 6 ∷ slice_index xs 7 ∷ []
eight (a ∷ b ∷ c ∷ d ∷ e ∷ f ∷ g ∷ h ∷ xs) n = refl
eight xs n = absurd (omega arith)

pub unit_from : (xs : List ℕ) (o i : ℤ) → 8 ≤ length xs → ((k : ℕ) → slice_index xs k < 256) → o ≡ cast_signed w16 (slice_index xs 2 + slice_index xs 3 * 256) → i ≡ cast_signed w32 (slice_index xs 4 + slice_index xs 5 * 256 + slice_index xs 6 * 65536 + slice_index xs 7 * 16777216)
    → take 8 xs ≡ unit_bytes (record { opcode = slice_index xs 0; dst = slice_index xs 1 % 16; src = slice_index xs 1 / 16; offset = o; imm = i })
unit_from xs o i n t eo ei = rw (eo, ei) (eight xs n ∙ unit_is _ _ _ _ _ _ _ _ (t 1) (t 2) (t 3) (t 4) (t 5) (t 6) (t 7))

-- ---- a unit has one list of fields

-- two bytes, the low one first, determine a number below 2 ^ 16
two_tell : (m n : ℕ) → m < 2 ^ 16 → n < 2 ^ 16 → to_le_bytes w16 m ≡ to_le_bytes w16 n → m ≡ n
two_tell m n p q e = sym (from_le_bytes-to_le_bytes_2 m p) ∙ ap (from_le_bytes w16) e ∙ from_le_bytes-to_le_bytes_2 n q

four_tell : (m n : ℕ) → m < 2 ^ 32 → n < 2 ^ 32 → to_le_bytes w32 m ≡ to_le_bytes w32 n → m ≡ n
four_tell m n p q e = sym (from_le_bytes-to_le_bytes_4 m p) ∙ ap (from_le_bytes w32) e ∙ from_le_bytes-to_le_bytes_4 n q

unsigned_fits_16 : (z : ℤ) → FitsSigned w16 z → cast_unsigned w16 z < 2 ^ 16
unsigned_fits_16 z h = omega (arith, ints)

pub unsigned_fits_32 : (z : ℤ) → FitsSigned w32 z → cast_unsigned w32 z < 2 ^ 32
unsigned_fits_32 z h = omega (arith, ints)

abbrev pub made : ℕ → ℕ → ℕ → ℤ → ℤ → Fields
made opcode dst src offset imm = record { opcode = opcode; dst = dst; src = src; offset = offset; imm = imm }

pub same_fields : (f g : Fields) → f.opcode ≡ g.opcode → f.dst ≡ g.dst → f.src ≡ g.src → f.offset ≡ g.offset → f.imm ≡ g.imm → f ≡ g
same_fields f g o s t h i =
    ap (λ (x : ℕ). made x f.dst f.src f.offset f.imm) o
    ∙ (ap (λ (x : ℕ). made g.opcode x f.src f.offset f.imm) s
    ∙ (ap (λ (x : ℕ). made g.opcode g.dst x f.offset f.imm) t
    ∙ (ap (λ (x : ℤ). made g.opcode g.dst g.src x f.imm) h
    ∙ ap (λ (x : ℤ). made g.opcode g.dst g.src g.offset x) i)))

pub unit_tells : (f g : Fields) → IsFields f → IsFields g → unit_bytes f ≡ unit_bytes g → f ≡ g
unit_tells f g p q e =
    let o : f.opcode ≡ g.opcode = ap (λ (xs : List ℕ). slice_index xs 0) e in
    let r : f.dst + 16 * f.src ≡ g.dst + 16 * g.src = ap (λ (xs : List ℕ). slice_index xs 1) e in
    let a : to_le_bytes w16 (cast_unsigned w16 f.offset) ≡ to_le_bytes w16 (cast_unsigned w16 g.offset) = ap (λ (xs : List ℕ). take 2 (drop 2 xs)) e in
    let b : to_le_bytes w32 (cast_unsigned w32 f.imm) ≡ to_le_bytes w32 (cast_unsigned w32 g.imm) = ap (λ (xs : List ℕ). drop 4 xs) e in
    let c : cast_unsigned w16 f.offset ≡ cast_unsigned w16 g.offset = two_tell _ _ (unsigned_fits_16 _ p.offset_fits) (unsigned_fits_16 _ q.offset_fits) a in
    let d : cast_unsigned w32 f.imm ≡ cast_unsigned w32 g.imm = four_tell _ _ (unsigned_fits_32 _ p.imm_fits) (unsigned_fits_32 _ q.imm_fits) b in
    let s : f.dst ≡ g.dst = omega (arith, p.dst_fits, q.dst_fits) in
    let t : f.src ≡ g.src = omega (arith, p.dst_fits, q.dst_fits) in
    let h : f.offset ≡ g.offset = sym (to_z-of_z w16 f.offset p.offset_fits) ∙ ap (cast_signed w16) c ∙ to_z-of_z w16 g.offset q.offset_fits in
    let i : f.imm ≡ g.imm = sym (to_z-of_z w32 f.imm p.imm_fits) ∙ ap (cast_signed w32) d ∙ to_z-of_z w32 g.imm q.imm_fits in
    same_fields f g o s t h i
