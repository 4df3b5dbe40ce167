-- The text of a code denotes it.
use Rattle.std.proofs.Common.{◌≡◌, ℕ, zero, suc, ◌+◌, ◌-◌, ◌≤◌, ◌<◌, ◌^◌, ◌==◌, ◌&&◌, ◌∷◌, ◌++◌, [], List, Option, Some, Bool, true, false, not, nat_lt, nat_le, length, map, refl, sym, ◌∙◌, ap, arith, append_assoc, length-append, lit<, lit≤, ℤ, pos, negsuc, FitsSigned, w16, w32, IsTrue}
use Rattle.std.specs.Prelude.{replicate}
use Rattle.std.specs.Int.{IsInRange}
use Rattle.std.specs.Fmt.{decimal, signed_decimal, digits}
use Rattle.std.specs.List.{list_all, AllByRecursion}
use Rattle.std.specs.Str.{bytes_eq}
use Rattle.std.specs.Str.Parse.{AllDigits}
use Rattle.std.specs.Char.{digit_value}
use Rattle.std.proofs.lemmas.Bool.{ltb-true, ltb-false, le-leb}
use Rattle.std.proofs.lemmas.Bool.Decides.{nat_tests}
use Rattle.std.proofs.lemmas.List.Splits.{slice_split_at}
use Rattle.std.proofs.lemmas.Str.Parse.{digit_from_value}
use Rattle.std.proofs.lemmas.Fmt.{decimal_digit, decimal_step, decimal_is_IsNumeral, decimal_nonempty, digits_is_IsNumeral}
use Rattle.std.proofs.Math.Seq.{take-append_seam, drop-append_seam, get_or-append_seam}
use Rattle.bpf_insn.specs.declared.insn.Width.{Width}
use Rattle.bpf_insn.specs.declared.insn.Width.TheVariants.{W32, W64}
use Rattle.bpf_insn.specs.declared.insn.Size.{Size}
use Rattle.bpf_insn.specs.declared.insn.Size.TheVariants.{Byte, Half, Word, Double}
use Rattle.bpf_insn.specs.declared.insn.Op.{Op}
use Rattle.bpf_insn.specs.declared.insn.Op.TheVariants.{Add, Sub, Mul, Div, SDiv, Or, And, Lsh, Rsh, Neg, Mod, SMod, Xor, Mov, MovSx, Arsh, Little, Big, Swap}
use Rattle.bpf_insn.specs.declared.insn.Test.{Test}
use Rattle.bpf_insn.specs.declared.insn.Test.TheVariants.{Eq, Gt, Ge, Set, Ne, SGt, SGe, Lt, Le, SLt, SLe}
use Rattle.bpf_insn.specs.declared.insn.Operand.{Operand}
use Rattle.bpf_insn.specs.declared.insn.Operand.TheVariants.{Imm, Reg}
use Rattle.bpf_insn.specs.declared.insn.Insn.{Insn}
use Rattle.bpf_insn.specs.declared.insn.Insn.TheVariants as insns
use Rattle.bpf_insn.specs.Spelling.{HasSpelling, IsOperand, is_binary, is_unary, is_narrow}
use Rattle.bpf_insn.specs.Code.{IsCode, units_of}
use Rattle.bpf_asm.specs.declared.row.Row.{Row}
use Rattle.bpf_asm.specs.declared.row.Row.TheVariants as rows
use Rattle.bpf_asm.specs.declared.row.TheConstants.{ROWS}
use Rattle.bpf_asm.specs.Text.{lines, trimmed}
use Rattle.bpf_asm.specs.Words.{register, is_name}
use Rattle.bpf_asm.specs.Mnemonics.{name_of, row_named, takes_number}
use Rattle.bpf_asm.specs.Lines.{Meaning, Blank, Plain, meaning, meaning_of_body, statement, instruction, operand, address, inner_address, is_sign}
use Rattle.bpf_asm.specs.Denotes.{MarksAt, Gives, meanings, Denotes}
use Rattle.bpf_asm.specs.Printed.{register_text, operand_text, distance_text, address_text, long_text, pair_text, insn_text, line_text, text_of}
use Rattle.bpf_asm.proofs.Mnemonics.{found_passes}
use Rattle.bpf_asm.proofs.Digits.{word_back, not_register, near_back, far_back, not_name, long_back, widened}
use Rattle.bpf_asm.proofs.WordTexts.{Free, is_stop, free_append, by_index, seam, IsWord, word_of, IsBody, body_of, pair_body, body_line, line_meaning, line_body, two_words, three_words}

-- ---- registers

register_digit : (d : ℕ) → d < 10 → register (114 ∷ (48 + d) ∷ []) ≡ Some d
register_digit d l = rw (le-leb 48 (48 + d) (omega arith), le-leb (48 + d) 57 (omega arith)) (ap Some (omega arith))

register_back : (d : ℕ) → d ≤ 10 → register (register_text d) ≡ Some d
register_back d h = by_test (nat_lt d 10) refl where
  by_test : (b : Bool) → nat_lt d 10 ≡ b → register (register_text d) ≡ Some d
  by_test true e = let l = ltb-true d 10 e in ap (λ ds. register (114 ∷ ds)) (decimal_digit d l) ∙ register_digit d l
  by_test false e =
      let t : d ≡ 10 = omega (arith, ltb-false d 10 e) in
      let ten : decimal 10 ≡ 49 ∷ 48 ∷ [] = decimal_step 10 (lit≤ tt) (lit< tt) ∙ ap (λ ds. ds ++ (48 ∷ [])) (decimal_digit 1 (lit< tt)) in
      rw t (ap (λ ds. register (114 ∷ ds)) ten)

-- ---- words

digits_free : (ds : List ℕ) → AllDigits 10 ds → Free is_stop ds
digits_free [] h = tt
digits_free (c ∷ cs) h = (one c (digit_from_value c h.0), digits_free cs h.1) where
  one : (c : ℕ) → IsInRange 48 57 c → is_stop c ≡ false
  one c r = grind (arith, nat_tests)

decimal_free : (n : ℕ) → n < 2 ^ 64 → Free is_stop (decimal n)
decimal_free n h = digits_free (decimal n) (decimal_is_IsNumeral n h).0.1

hex_free : (ds : List ℕ) → AllDigits 16 ds → Free is_stop ds
hex_free [] h = tt
hex_free (c ∷ cs) h = (one c h.0, hex_free cs h.1) where
  one : (c : ℕ) → digit_value c < 16 → is_stop c ≡ false
  one c r = grind (arith, nat_tests)

register_word : (d : ℕ) → d ≤ 10 → IsWord (register_text d)
register_word d h = record { first = 114; more = decimal d; is = refl; free = (refl, decimal_free d (omega arith)) }

number_word : (k : ℤ) → FitsSigned w32 k → IsWord (signed_decimal k)
number_word (pos n) h = word_of (decimal n) (decimal_nonempty n (omega arith)) (decimal_free n (omega arith))
number_word (negsuc n) h = record { first = 45; more = decimal (suc n); is = refl; free = (refl, decimal_free (suc n) (omega arith)) }

operand_word : (s : Operand) → IsOperand s → IsWord (operand_text s)
operand_word (Reg r) h = register_word r h
operand_word (Imm k) h = number_word k h

distance_word : (k : ℤ) → FitsSigned w32 k → IsWord (distance_text k)
distance_word (pos n) h = record { first = 43; more = decimal n; is = refl; free = (refl, decimal_free n (omega arith)) }
distance_word (negsuc n) h = record { first = 45; more = decimal (suc n); is = refl; free = (refl, decimal_free (suc n) (omega arith)) }

address_word : (r : ℕ) (k : ℤ) → r ≤ 10 → FitsSigned w16 k → IsWord (address_text r k)
address_word r k h f = record {
  first = 91;
  more = register_text r ++ (distance_text k ++ (93 ∷ []));
  is = refl;
  free = (refl, free_append is_stop (register_text r) (distance_text k ++ (93 ∷ [])) (register_word r h).free (free_append is_stop (distance_text k) (93 ∷ []) (distance_word k (widened k f)).free (refl, tt)));
}

zeros_free : (k : ℕ) (ds : List ℕ) → Free is_stop ds → Free is_stop (replicate k 48 ++ ds)
zeros_free zero ds h = h
zeros_free (suc k) ds h = (refl, zeros_free k ds h)

long_word : (n : ℕ) → n < 2 ^ 64 → IsWord (long_text n)
long_word n h = record {
  first = 48;
  more = 120 ∷ (replicate (16 - length (digits 16 false n)) 48 ++ digits 16 false n);
  is = refl;
  free = (refl, (refl, zeros_free (16 - length (digits 16 false n)) (digits 16 false n) (hex_free (digits 16 false n) (digits_is_IsNumeral 16 false (lit≤ tt) (lit≤ tt) n (omega (arith, h))).0.1)));
}

-- ---- operands

operand_back : (s : Operand) → IsOperand s → operand (operand_text s) ≡ Some s
unfolding operand
operand_back (Reg r) h = rw (register_back r h) refl
operand_back (Imm k) h = rw (not_register k h, word_back k h) refl

sign_off : (c : ℕ) → IsInRange 48 57 c → is_sign c ≡ false
sign_off c r = grind (arith, nat_tests)

-- a register has no sign
no_sign : (r : ℕ) → r ≤ 10 → Free is_sign (register_text r)
no_sign r h = (refl, digits (decimal r) (decimal_is_IsNumeral r (omega arith)).0.1) where
  digits : (ds : List ℕ) → AllDigits 10 ds → Free is_sign ds
  digits [] h = tt
  digits (c ∷ cs) h = (sign_off c (digit_from_value c h.0), digits cs h.1)

inner_back : (r : ℕ) (k : ℤ) → r ≤ 10 → FitsSigned w16 k → inner_address (register_text r ++ distance_text k) ≡ Some (r, k)
inner_back r (pos n) h f =
    rw (seam is_sign (register_text r) 43 (decimal n) (no_sign r h) refl, take-append_seam (register_text r) (distance_text (pos n)), drop-append_seam (register_text r) (distance_text (pos n)), register_back r h, near_back (pos n) f) refl
inner_back r (negsuc n) h f =
    rw (seam is_sign (register_text r) 45 (decimal (suc n)) (no_sign r h) refl, take-append_seam (register_text r) (distance_text (negsuc n)), drop-append_seam (register_text r) (distance_text (negsuc n)), register_back r h, near_back (negsuc n) f) refl

-- the contents of brackets
bracketed : (inner : List ℕ) → address (91 ∷ (inner ++ (93 ∷ []))) ≡ inner_address inner
unfolding address
bracketed inner =
    let long : length (91 ∷ (inner ++ (93 ∷ []))) ≡ length inner + 2 = simp length-append (omega arith) in
    let enough : nat_le 2 (length (91 ∷ (inner ++ (93 ∷ [])))) ≡ true = le-leb 2 _ (omega (arith, long)) in
    let at : length (91 ∷ (inner ++ (93 ∷ []))) - 1 ≡ suc (length inner) = omega (arith, long) in
    let room : length (91 ∷ (inner ++ (93 ∷ []))) - 2 ≡ length inner = omega (arith, long) in
    rw (enough, at, room, get_or-append_seam inner 93 [] 0, take-append_seam inner (93 ∷ [])) refl

address_back : (r : ℕ) (k : ℤ) → r ≤ 10 → FitsSigned w16 k → address (address_text r k) ≡ Some (r, k)
address_back r k h f = ap (λ (xs : List ℕ). address (91 ∷ xs)) (sym (append_assoc (register_text r) (distance_text k) (93 ∷ []))) ∙ bracketed (register_text r ++ distance_text k) ∙ inner_back r k h f

-- ---- mnemonics

abbrev is_word : List ℕ → Bool
is_word bs = nat_lt 0 (length bs) && list_all (λ b. not (is_stop b)) bs

both : (t u : Bool) → (t && u) ≡ true → (t ≡ true) × (u ≡ true)
both true u h = (refl, h)
both false u h = cc

free_from : (bs : List ℕ) → list_all (λ b. not (is_stop b)) bs ≡ true → Free is_stop bs
free_from [] h = tt
free_from (b ∷ bs) h = one (is_stop b) (list_all (λ c. not (is_stop c)) bs) (free_from bs) h where
  one : (t u : Bool) → (u ≡ true → Free is_stop bs) → (not t && u) ≡ true → (t ≡ false) × Free is_stop bs
  one false u again h = (refl, again h)
  one true u again h = cc

-- the whole table at once
names_are_words : list_all (λ r. is_word (name_of r)) ROWS ≡ true
names_are_words = refl

-- a row that is found by its name
abbrev IsKnown : Row → Type 0
IsKnown row = row_named (name_of row) ≡ Some row

name_word : (row : Row) → IsKnown row → IsWord (name_of row)
unfolding row_named
name_word row known =
    let h = both (nat_lt 0 (length (name_of row))) _ (found_passes (λ r. bytes_eq (name_of r) (name_of row)) (λ r. is_word (name_of r)) ROWS row names_are_words known) in
    word_of (name_of row) (ltb-true 0 _ h.0) (free_from (name_of row) h.1)

arith_known : (op : Op) (w : Width) → IsTrue (takes_number op) → IsKnown (rows.Arith op w)
unfolding row_named
arith_known Add W32 h = refl
arith_known Add W64 h = refl
arith_known Sub W32 h = refl
arith_known Sub W64 h = refl
arith_known Mul W32 h = refl
arith_known Mul W64 h = refl
arith_known Div W32 h = refl
arith_known Div W64 h = refl
arith_known SDiv W32 h = refl
arith_known SDiv W64 h = refl
arith_known Or W32 h = refl
arith_known Or W64 h = refl
arith_known And W32 h = refl
arith_known And W64 h = refl
arith_known Lsh W32 h = refl
arith_known Lsh W64 h = refl
arith_known Rsh W32 h = refl
arith_known Rsh W64 h = refl
arith_known Mod W32 h = refl
arith_known Mod W64 h = refl
arith_known SMod W32 h = refl
arith_known SMod W64 h = refl
arith_known Xor W32 h = refl
arith_known Xor W64 h = refl
arith_known Mov W32 h = refl
arith_known Mov W64 h = refl
arith_known Arsh W32 h = refl
arith_known Arsh W64 h = refl
arith_known Neg w h = cc
arith_known (MovSx n) w h = cc
arith_known (Little n) w h = cc
arith_known (Big n) w h = cc
arith_known (Swap n) w h = cc

move_known : (n : Size) (w : Width) (s : Operand) → IsTrue (is_binary (MovSx n) w s) → IsKnown (rows.SignMove n w)
unfolding row_named
move_known Byte W32 (Reg r) h = refl
move_known Byte W64 (Reg r) h = refl
move_known Half W32 (Reg r) h = refl
move_known Half W64 (Reg r) h = refl
move_known Word W64 (Reg r) h = refl
move_known Word W32 (Reg r) h = cc
move_known Double w (Reg r) h = cc
move_known n w (Imm k) h = cc

unary_known : (op : Op) (w : Width) → IsTrue (is_unary op w) → IsKnown (rows.Unary op w)
unfolding row_named
unary_known Neg W32 h = refl
unary_known Neg W64 h = refl
unary_known (Little Half) W32 h = refl
unary_known (Little Word) W32 h = refl
unary_known (Little Double) W32 h = refl
unary_known (Little Byte) W32 h = cc
unary_known (Little n) W64 h = cc
unary_known (Big Half) W32 h = refl
unary_known (Big Word) W32 h = refl
unary_known (Big Double) W32 h = refl
unary_known (Big Byte) W32 h = cc
unary_known (Big n) W64 h = cc
unary_known (Swap Half) W64 h = refl
unary_known (Swap Word) W64 h = refl
unary_known (Swap Double) W64 h = refl
unary_known (Swap Byte) W64 h = cc
unary_known (Swap n) W32 h = cc
unary_known Add w h = cc
unary_known Sub w h = cc
unary_known Mul w h = cc
unary_known Div w h = cc
unary_known SDiv w h = cc
unary_known Or w h = cc
unary_known And w h = cc
unary_known Lsh w h = cc
unary_known Rsh w h = cc
unary_known Mod w h = cc
unary_known SMod w h = cc
unary_known Xor w h = cc
unary_known Mov w h = cc
unary_known Arsh w h = cc
unary_known (MovSx n) w h = cc

branch_known : (t : Test) (w : Width) → IsKnown (rows.Branch t w)
unfolding row_named
branch_known Eq W32 = refl
branch_known Eq W64 = refl
branch_known Gt W32 = refl
branch_known Gt W64 = refl
branch_known Ge W32 = refl
branch_known Ge W64 = refl
branch_known Set W32 = refl
branch_known Set W64 = refl
branch_known Ne W32 = refl
branch_known Ne W64 = refl
branch_known SGt W32 = refl
branch_known SGt W64 = refl
branch_known SGe W32 = refl
branch_known SGe W64 = refl
branch_known Lt W32 = refl
branch_known Lt W64 = refl
branch_known Le W32 = refl
branch_known Le W64 = refl
branch_known SLt W32 = refl
branch_known SLt W64 = refl
branch_known SLe W32 = refl
branch_known SLe W64 = refl

load_known : (n : Size) → IsKnown (rows.Load n)
unfolding row_named
load_known Byte = refl
load_known Half = refl
load_known Word = refl
load_known Double = refl

store_number_known : (n : Size) → IsKnown (rows.StoreImm n)
unfolding row_named
store_number_known Byte = refl
store_number_known Half = refl
store_number_known Word = refl
store_number_known Double = refl

store_known : (n : Size) → IsKnown (rows.Store n)
unfolding row_named
store_known Byte = refl
store_known Half = refl
store_known Word = refl
store_known Double = refl

signed_known : (n : Size) → IsTrue (is_narrow n) → IsKnown (rows.LoadSigned n)
unfolding row_named
signed_known Byte h = refl
signed_known Half h = refl
signed_known Word h = refl
signed_known Double h = cc

wide_known : IsKnown rows.Wide
unfolding row_named
wide_known = refl

jump_known : IsKnown rows.Jump
unfolding row_named
jump_known = refl

far_known : IsKnown rows.JumpFar
unfolding row_named
far_known = refl

call_known : IsKnown rows.Call
unfolding row_named
call_known = refl

-- ---- lines

-- a line that means its instruction, and is only one line
record ReadsBack (i : Insn) : Type 0 where
  says : meaning (insn_text i) ≡ Some (Plain i)
  line : Free (λ b. b == 10) (insn_text i)

-- a mnemonic with operands that its row reads
reads_line : (i : Insn) (row : Row) (rest : List ℕ) → insn_text i ≡ name_of row ++ (32 ∷ rest) → IsKnown row → IsBody rest → instruction row rest ≡ Some (Plain i) → ReadsBack i
reads_line i row rest e known x reads = record {
  says = ap meaning e ∙ line_meaning row (name_of row) rest (name_word row known) x known ∙ reads;
  line = rw e (body_line (name_of row ++ (32 ∷ rest)) (line_body (name_of row) rest (name_word row known) x));
}

pair_of_words : (a b : List ℕ) → IsWord a → IsWord b → IsBody (pair_text a b)
pair_of_words a b x y = pair_body a b (body_of a x) (body_of b y)

arith_reads : (op : Op) (w : Width) (d : ℕ) (s : Operand) → d ≤ 10 → IsOperand s → instruction (rows.Arith op w) (pair_text (register_text d) (operand_text s)) ≡ Some (Plain (insns.Alu op w d s))
unfolding instruction
arith_reads op w d s low fits = rw (two_words (register_text d) (operand_text s) (register_word d low) (operand_word s fits), register_back d low, operand_back s fits) refl

arith_back : (op : Op) (w : Width) (d : ℕ) (s : Operand) → IsTrue (takes_number op) → d ≤ 10 → IsOperand s → insn_text (insns.Alu op w d s) ≡ name_of (rows.Arith op w) ++ (32 ∷ pair_text (register_text d) (operand_text s)) → ReadsBack (insns.Alu op w d s)
arith_back op w d s number low fits e = reads_line (insns.Alu op w d s) (rows.Arith op w) (pair_text (register_text d) (operand_text s)) e (arith_known op w number) (pair_of_words _ _ (register_word d low) (operand_word s fits)) (arith_reads op w d s low fits)

move_reads : (n : Size) (w : Width) (d r : ℕ) → d ≤ 10 → r ≤ 10 → instruction (rows.SignMove n w) (pair_text (register_text d) (register_text r)) ≡ Some (Plain (insns.Alu (MovSx n) w d (Reg r)))
unfolding instruction
move_reads n w d r low h = rw (two_words (register_text d) (register_text r) (register_word d low) (register_word r h), register_back d low, register_back r h) refl

move_back : (n : Size) (w : Width) (d r : ℕ) → HasSpelling (insns.Alu (MovSx n) w d (Reg r)) → ReadsBack (insns.Alu (MovSx n) w d (Reg r))
move_back n w d r h = reads_line (insns.Alu (MovSx n) w d (Reg r)) (rows.SignMove n w) (pair_text (register_text d) (register_text r)) refl (move_known n w (Reg r) h.0) (pair_of_words _ _ (register_word d h.1) (register_word r h.2)) (move_reads n w d r h.1 h.2)

alu_back : (op : Op) (w : Width) (d : ℕ) (s : Operand) → HasSpelling (insns.Alu op w d s) → ReadsBack (insns.Alu op w d s)
alu_back Add w d s h = arith_back Add w d s refl h.1 h.2 refl
alu_back Sub w d s h = arith_back Sub w d s refl h.1 h.2 refl
alu_back Mul w d s h = arith_back Mul w d s refl h.1 h.2 refl
alu_back Div w d s h = arith_back Div w d s refl h.1 h.2 refl
alu_back SDiv w d s h = arith_back SDiv w d s refl h.1 h.2 refl
alu_back Or w d s h = arith_back Or w d s refl h.1 h.2 refl
alu_back And w d s h = arith_back And w d s refl h.1 h.2 refl
alu_back Lsh w d s h = arith_back Lsh w d s refl h.1 h.2 refl
alu_back Rsh w d s h = arith_back Rsh w d s refl h.1 h.2 refl
alu_back Mod w d s h = arith_back Mod w d s refl h.1 h.2 refl
alu_back SMod w d s h = arith_back SMod w d s refl h.1 h.2 refl
alu_back Xor w d s h = arith_back Xor w d s refl h.1 h.2 refl
alu_back Mov w d s h = arith_back Mov w d s refl h.1 h.2 refl
alu_back Arsh w d s h = arith_back Arsh w d s refl h.1 h.2 refl
alu_back (MovSx n) w d (Imm k) h = let no = h.0 in cc
alu_back (MovSx n) w d (Reg r) h = move_back n w d r h
alu_back Neg w d s h = let no = h.0 in cc
alu_back (Little n) w d s h = let no = h.0 in cc
alu_back (Big n) w d s h = let no = h.0 in cc
alu_back (Swap n) w d s h = let no = h.0 in cc

unary_reads : (op : Op) (w : Width) (d : ℕ) → HasSpelling (insns.Unary op w d) → instruction (rows.Unary op w) ((register_text d)) ≡ Some (Plain (insns.Unary op w d))
unfolding instruction
unary_reads op w d h = rw (register_back d h.1) refl

unary_back : (op : Op) (w : Width) (d : ℕ) → HasSpelling (insns.Unary op w d) → ReadsBack (insns.Unary op w d)
unary_back op w d h = reads_line (insns.Unary op w d) (rows.Unary op w) ((register_text d)) refl (unary_known op w h.0) (body_of (register_text d) (register_word d h.1)) (unary_reads op w d h)

branch_reads : (t : Test) (w : Width) (d : ℕ) (s : Operand) (off : ℤ) → HasSpelling (insns.Branch t w d s off) → instruction (rows.Branch t w) (pair_text (register_text d) (pair_text (operand_text s) (distance_text off))) ≡ Some (Plain (insns.Branch t w d s off))
unfolding instruction
branch_reads t w d s off h = rw (three_words (register_text d) (operand_text s) (distance_text off) (register_word d h.0) (operand_word s h.1) (distance_word off (widened off h.2)), register_back d h.0, operand_back s h.1, not_name off, near_back off h.2) refl

branch_back : (t : Test) (w : Width) (d : ℕ) (s : Operand) (off : ℤ) → HasSpelling (insns.Branch t w d s off) → ReadsBack (insns.Branch t w d s off)
branch_back t w d s off h = reads_line (insns.Branch t w d s off) (rows.Branch t w) (pair_text (register_text d) (pair_text (operand_text s) (distance_text off))) refl (branch_known t w) (pair_body (register_text d) (pair_text (operand_text s) (distance_text off)) (body_of (register_text d) (register_word d h.0)) (pair_of_words (operand_text s) (distance_text off) (operand_word s h.1) (distance_word off (widened off h.2)))) (branch_reads t w d s off h)

jump_reads : (off : ℤ) → HasSpelling (insns.Jump off) → instruction rows.Jump ((distance_text off)) ≡ Some (Plain (insns.Jump off))
unfolding instruction
jump_reads off h = rw (not_name off, near_back off h) refl

jump_back : (off : ℤ) → HasSpelling (insns.Jump off) → ReadsBack (insns.Jump off)
jump_back off h = reads_line (insns.Jump off) rows.Jump ((distance_text off)) refl jump_known (body_of (distance_text off) (distance_word off (widened off h))) (jump_reads off h)

far_reads : (off : ℤ) → HasSpelling (insns.JumpFar off) → instruction rows.JumpFar ((distance_text off)) ≡ Some (Plain (insns.JumpFar off))
unfolding instruction
far_reads off h = rw (not_name off, far_back off h) refl

far_back_line : (off : ℤ) → HasSpelling (insns.JumpFar off) → ReadsBack (insns.JumpFar off)
far_back_line off h = reads_line (insns.JumpFar off) rows.JumpFar ((distance_text off)) refl far_known (body_of (distance_text off) (distance_word off h)) (far_reads off h)

call_reads : (id : ℤ) → HasSpelling (insns.Call id) → instruction rows.Call ((signed_decimal id)) ≡ Some (Plain (insns.Call id))
unfolding instruction
call_reads id h = rw (word_back id h) refl

call_back : (id : ℤ) → HasSpelling (insns.Call id) → ReadsBack (insns.Call id)
call_back id h = reads_line (insns.Call id) rows.Call ((signed_decimal id)) refl call_known (body_of (signed_decimal id) (number_word id h)) (call_reads id h)

load_reads : (n : Size) (d b : ℕ) (off : ℤ) → HasSpelling (insns.Load n d b off) → instruction (rows.Load n) (pair_text (register_text d) (address_text b off)) ≡ Some (Plain (insns.Load n d b off))
unfolding instruction
load_reads n d b off h = rw (two_words (register_text d) (address_text b off) (register_word d h.0) (address_word b off h.1 h.2), register_back d h.0, address_back b off h.1 h.2) refl

load_back : (n : Size) (d b : ℕ) (off : ℤ) → HasSpelling (insns.Load n d b off) → ReadsBack (insns.Load n d b off)
load_back n d b off h = reads_line (insns.Load n d b off) (rows.Load n) (pair_text (register_text d) (address_text b off)) refl (load_known n) (pair_of_words (register_text d) (address_text b off) (register_word d h.0) (address_word b off h.1 h.2)) (load_reads n d b off h)

signed_reads : (n : Size) (d b : ℕ) (off : ℤ) → HasSpelling (insns.LoadSigned n d b off) → instruction (rows.LoadSigned n) (pair_text (register_text d) (address_text b off)) ≡ Some (Plain (insns.LoadSigned n d b off))
unfolding instruction
signed_reads n d b off h = rw (two_words (register_text d) (address_text b off) (register_word d h.1) (address_word b off h.2 h.3), register_back d h.1, address_back b off h.2 h.3) refl

signed_back : (n : Size) (d b : ℕ) (off : ℤ) → HasSpelling (insns.LoadSigned n d b off) → ReadsBack (insns.LoadSigned n d b off)
signed_back n d b off h = reads_line (insns.LoadSigned n d b off) (rows.LoadSigned n) (pair_text (register_text d) (address_text b off)) refl (signed_known n h.0) (pair_of_words (register_text d) (address_text b off) (register_word d h.1) (address_word b off h.2 h.3)) (signed_reads n d b off h)

store_number_reads : (n : Size) (b : ℕ) (off k : ℤ) → HasSpelling (insns.StoreImm n b off k) → instruction (rows.StoreImm n) (pair_text (address_text b off) (signed_decimal k)) ≡ Some (Plain (insns.StoreImm n b off k))
unfolding instruction
store_number_reads n b off k h = rw (two_words (address_text b off) (signed_decimal k) (address_word b off h.0 h.1) (number_word k h.2), address_back b off h.0 h.1, word_back k h.2) refl

store_number_back : (n : Size) (b : ℕ) (off k : ℤ) → HasSpelling (insns.StoreImm n b off k) → ReadsBack (insns.StoreImm n b off k)
store_number_back n b off k h = reads_line (insns.StoreImm n b off k) (rows.StoreImm n) (pair_text (address_text b off) (signed_decimal k)) refl (store_number_known n) (pair_of_words (address_text b off) (signed_decimal k) (address_word b off h.0 h.1) (number_word k h.2)) (store_number_reads n b off k h)

store_reads : (n : Size) (b : ℕ) (off : ℤ) (s : ℕ) → HasSpelling (insns.Store n b off s) → instruction (rows.Store n) (pair_text (address_text b off) (register_text s)) ≡ Some (Plain (insns.Store n b off s))
unfolding instruction
store_reads n b off s h = rw (two_words (address_text b off) (register_text s) (address_word b off h.0 h.2) (register_word s h.1), address_back b off h.0 h.2, register_back s h.1) refl

store_back : (n : Size) (b : ℕ) (off : ℤ) (s : ℕ) → HasSpelling (insns.Store n b off s) → ReadsBack (insns.Store n b off s)
store_back n b off s h = reads_line (insns.Store n b off s) (rows.Store n) (pair_text (address_text b off) (register_text s)) refl (store_known n) (pair_of_words (address_text b off) (register_text s) (address_word b off h.0 h.2) (register_word s h.1)) (store_reads n b off s h)

wide_reads : (d n : ℕ) → HasSpelling (insns.Wide d n) → instruction rows.Wide (pair_text (register_text d) (long_text n)) ≡ Some (Plain (insns.Wide d n))
unfolding instruction
wide_reads d n h = rw (two_words (register_text d) (long_text n) (register_word d h.0) (long_word n h.1), register_back d h.0, long_back n h.1) refl

wide_back : (d n : ℕ) → HasSpelling (insns.Wide d n) → ReadsBack (insns.Wide d n)
wide_back d n h = reads_line (insns.Wide d n) rows.Wide (pair_text (register_text d) (long_text n)) refl wide_known (pair_of_words (register_text d) (long_text n) (register_word d h.0) (long_word n h.1)) (wide_reads d n h)

exit_back : ReadsBack insns.Exit
unfolding meaning meaning_of_body statement instruction row_named trimmed is_name
exit_back = record { says = refl; line = (refl, (refl, (refl, (refl, tt)))) }

-- each instruction of the table
reads_back : (i : Insn) → HasSpelling i → ReadsBack i
reads_back (insns.Alu op w d s) h = alu_back op w d s h
reads_back (insns.Unary op w d) h = unary_back op w d h
reads_back (insns.Branch t w d s off) h = branch_back t w d s off h
reads_back (insns.Jump off) h = jump_back off h
reads_back (insns.JumpFar off) h = far_back_line off h
reads_back (insns.Call id) h = call_back id h
reads_back insns.Exit h = exit_back
reads_back (insns.Load n d b off) h = load_back n d b off h
reads_back (insns.LoadSigned n d b off) h = signed_back n d b off h
reads_back (insns.StoreImm n b off k) h = store_number_back n b off k h
reads_back (insns.Store n b off s) h = store_back n b off s h
reads_back (insns.Wide d n) h = wide_back d n h

-- ---- texts

blank : meaning [] ≡ Some Blank
unfolding meaning meaning_of_body trimmed
blank = refl

-- one line for each instruction, and an empty line at the end
abbrev meanings_of : List Insn → List (Option Meaning)
meanings_of [] = Some Blank ∷ []
meanings_of (i ∷ is) = Some (Plain i) ∷ meanings_of is

first_line : (i : Insn) (rest : List ℕ) → ReadsBack i → lines (line_text i ++ rest) ≡ insn_text i ∷ lines rest
first_line i rest b = ap lines (append_assoc (insn_text i) (10 ∷ []) rest) ∙ slice_split_at (λ b. b == 10) (insn_text i) 10 rest (by_index (λ b. b == 10) (insn_text i) b.line) refl

all_lines : (code : List Insn) → AllByRecursion HasSpelling code → meanings (text_of code) ≡ meanings_of code
all_lines [] h = ap (λ m. m ∷ []) blank
all_lines (i ∷ is) h =
    let b = reads_back i h.0 in
    ap (map meaning) (first_line i (text_of is) b) ∙ ap (λ m. m ∷ meanings (text_of is)) b.says ∙ ap (λ ms. Some (Plain i) ∷ ms) (all_lines is h.1)

no_labels : (code : List Insn) (k : ℕ) (name : List ℕ) → MarksAt (meanings_of code) name k → ⊥
no_labels [] zero name e = cc
no_labels [] (suc zero) name e = cc
no_labels [] (suc (suc k)) name e = cc
no_labels (i ∷ is) zero name e = cc
no_labels (i ∷ is) (suc k) name e = no_labels is k name e

gives_code : (ms : List (Option Meaning)) (own : ℕ) (code : List Insn) → Gives ms own (meanings_of code) code
gives_code ms own [] = ([], [], refl, refl, refl)
gives_code ms own (i ∷ is) = (i ∷ [], is, refl, refl, gives_code ms (own + units_of i) is)

-- the text of a code denotes it
pub denoted : (code : List Insn) (text : List ℕ) → IsCode code → text ≡ text_of code → Denotes text code
denoted code text is e =
    let same : meanings text ≡ meanings_of code = ap meanings e ∙ all_lines code is.each in
    rw same (record { once = λ i j name a b. absurd (no_labels code i name a); gives = gives_code (meanings_of code) 0 code; short = is.short })
