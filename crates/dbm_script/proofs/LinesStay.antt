-- Expanding shorthand keeps the number of lines, and the place of each line.
use Rattle.std.proofs.Common.{◌≡◌, ℕ, suc, zero, ◌<◌, List, [], ◌∷◌, ◌++◌, length, map, take, drop, cond, codes, decimal, Option, Some, None, Bool, true, false, Bor, eqb, refl, sym, ap, subst, ◌∙◌, arith, rules}
use Rattle.std.proofs.lemmas.Bool.{eq-eqb, ne_eqb}
use Rattle.std.proofs.lemmas.List.Splits.{length-slice_split, slice_split-cons_no, slice_split-cons_yes}
use Rattle.std.specs.Fmt.{digit_glyph, digits, digits_onto}
use Rattle.std.specs.List.{ends_with, join_with_byte, onto_first, starts_with}
use Rattle.std.specs.Prelude.{nat_eq, nat_lt, ◌+◌, ◌-◌, ◌/◌, ◌%◌, ◌==◌, if◌then◌else◌, ⊤}
use Rattle.dbm_script.specs.Pieces.{pieces_of, pieces_left}
use Rattle.dbm_script.specs.Shorthand.{fully_named, in_full, is_comment, spelled_text, spelled_line, timed}
use Rattle.dbm_script.specs.declared.shorthand.LineKind.{LineKind}
use Rattle.dbm_script.specs.declared.shorthand.LineKind.TheVariants.{OfBatch, OfScript}
use Rattle.dbm_script.specs.declared.shorthand.TimeOfDay.{TimeOfDay}

-- ---- texts without a byte

-- the text does not contain the byte
abbrev Lacks : ℕ → List ℕ → Type 0
Lacks byte [] = ⊤
Lacks byte (x ∷ xs) = (eqb x byte ≡ false) × Lacks byte xs

-- no text of the list contains the byte
abbrev AllLack : ℕ → List (List ℕ) → Type 0
AllLack byte [] = ⊤
AllLack byte (line ∷ lines) = Lacks byte line × AllLack byte lines

lacks-append : (byte : ℕ) (xs ys : List ℕ) → Lacks byte xs → Lacks byte ys → Lacks byte (xs ++ ys)
lacks-append byte [] ys p q = q
lacks-append byte (x ∷ xs) ys p q = (p.0, lacks-append byte xs ys p.1 q)

lacks-take : (byte n : ℕ) (xs : List ℕ) → Lacks byte xs → Lacks byte (take n xs)
lacks-take byte zero xs p = tt
lacks-take byte (suc n) [] p = tt
lacks-take byte (suc n) (x ∷ xs) p = (p.0, lacks-take byte n xs p.1)

lacks-drop : (byte n : ℕ) (xs : List ℕ) → Lacks byte xs → Lacks byte (drop n xs)
lacks-drop byte zero xs p = p
lacks-drop byte (suc n) [] p = tt
lacks-drop byte (suc n) (x ∷ xs) p = lacks-drop byte n xs p.1

lacks-cond : (b : Bool) (byte : ℕ) (xs ys : List ℕ) → Lacks byte xs → Lacks byte ys → Lacks byte (cond b xs ys)
lacks-cond true byte xs ys p q = p
lacks-cond false byte xs ys p q = q

glyph_lacks : (d : ℕ) → eqb (digit_glyph false d) 10 ≡ false
glyph_lacks d = go (nat_lt d 10)
  where
    go : (b : Bool) → eqb (if b then 48 + d else 87 + d) 10 ≡ false
    go true = ne_eqb (48 + d) 10 (λ e. absurd (omega (arith, e)))
    go false = ne_eqb (87 + d) 10 (λ e. absurd (omega (arith, e)))

lacks-onto : (k n : ℕ) (digits : List ℕ) → Lacks 10 digits → Lacks 10 (digits_onto k 10 false n digits)
lacks-onto zero n digits p = p
lacks-onto (suc k) n digits p =
    lacks-cond (n / 10 == 0) 10 _ _ (glyph_lacks (n % 10), p) (lacks-onto k (n / 10) (digit_glyph false (n % 10) ∷ digits) (glyph_lacks (n % 10), p))

lacks-decimal : (n : ℕ) → Lacks 10 (decimal n)
unfolding digits
lacks-decimal n = lacks-onto 64 n [] tt

-- ---- pieces

onto_lacks : (byte x : ℕ) (lines : List (List ℕ)) → eqb x byte ≡ false → AllLack byte lines → AllLack byte (onto_first x lines)
onto_lacks byte x [] e p = ((e, tt), tt)
onto_lacks byte x (line ∷ lines) e p = ((e, p.0), p.1)

-- prepending one byte, by cases on whether the text is split there
piece_more : (byte x : ℕ) (xs : List ℕ) (b : Bool) → eqb x byte ≡ b → AllLack byte (pieces_of byte xs) → AllLack byte (pieces_of byte (x ∷ xs))
piece_more byte x xs true e p = subst (AllLack byte) (sym (slice_split-cons_yes (λ b. eqb b byte) x xs e)) (tt, p)
piece_more byte x xs false e p = subst (AllLack byte) (sym (slice_split-cons_no (λ b. eqb b byte) x xs e)) (onto_lacks byte x (pieces_of byte xs) e p)

-- no piece contains the separator
pieces_lack : (byte : ℕ) (text : List ℕ) → AllLack byte (pieces_of byte text)
pieces_lack byte [] = (tt, tt)
pieces_lack byte (x ∷ xs) = piece_more byte x xs (eqb x byte) refl (pieces_lack byte xs)

-- a text without the byte is a single piece; before the byte, it is the first piece
one_piece : (byte : ℕ) (line : List ℕ) → Lacks byte line → pieces_of byte line ≡ line ∷ []
one_piece byte [] p = refl
one_piece byte (x ∷ xs) p = slice_split-cons_no (λ b. eqb b byte) x xs p.0 ∙ ap (onto_first x) (one_piece byte xs p.1)

cut_off : (byte : ℕ) (line rest : List ℕ) → Lacks byte line → pieces_of byte (line ++ byte ∷ rest) ≡ line ∷ pieces_of byte rest
cut_off byte [] rest p = slice_split-cons_yes (λ b. eqb b byte) byte rest (eq-eqb byte byte refl)
cut_off byte (x ∷ xs) rest p = slice_split-cons_no (λ b. eqb b byte) x (xs ++ byte ∷ rest) p.0 ∙ ap (onto_first x) (cut_off byte xs rest p.1)

-- splitting the join of some pieces returns the pieces
joined_pieces : (byte : ℕ) (line : List ℕ) (lines : List (List ℕ)) → AllLack byte (line ∷ lines) → pieces_of byte (join_with_byte byte (line ∷ lines)) ≡ line ∷ lines
joined_pieces byte line [] p = one_piece byte line p.0
joined_pieces byte line (next ∷ lines) p = cut_off byte line (join_with_byte byte (next ∷ lines)) p.0 ∙ ap (λ (ls : List (List ℕ)). line ∷ ls) (joined_pieces byte next lines p.1)

-- ---- lines with expanded shorthand

named_lacks : (line : List ℕ) → Lacks 10 line → Lacks 10 (fully_named line)
named_lacks line p =
    let rest = lacks-drop 10 4 line p in
    lacks-cond (starts_with nat_eq line (codes "get ")) 10 _ _ (lacks-append 10 (codes "fetch ") (drop 4 line) (refl, (refl, (refl, (refl, (refl, (refl, tt)))))) rest)
    (lacks-cond (starts_with nat_eq line (codes "put ")) 10 _ _ (lacks-append 10 (codes "replace ") (drop 4 line) (refl, (refl, (refl, (refl, (refl, (refl, (refl, (refl, tt)))))))) rest)
    (lacks-cond (starts_with nat_eq line (codes "del ")) 10 _ _ (lacks-append 10 (codes "delete ") (drop 4 line) (refl, (refl, (refl, (refl, (refl, (refl, (refl, tt))))))) rest) p))

timed_lacks : (time : Option TimeOfDay) (line : List ℕ) → Lacks 10 line → Lacks 10 (timed time line)
timed_lacks None line p = p
timed_lacks (Some time) line p =
    lacks-cond (ends_with nat_eq line (codes " now")) 10 _ _ (lacks-append 10 (take (length line - 3) line) (decimal time.seconds) (lacks-take 10 (length line - 3) line p) (lacks-decimal time.seconds))
    (lacks-cond (ends_with nat_eq line (codes " now-ms")) 10 _ _ (lacks-append 10 (take (length line - 6) line) (decimal time.millis) (lacks-take 10 (length line - 6) line p) (lacks-decimal time.millis)) p)

full_lacks : (lines : LineKind) (time : Option TimeOfDay) (line : List ℕ) → Lacks 10 line → Lacks 10 (in_full lines time line)
full_lacks OfScript time line p = lacks-cond (starts_with nat_eq line (codes "run ")) 10 _ _ (timed_lacks time line p) (named_lacks line p)
full_lacks OfBatch time line p = timed_lacks time line p

line_lacks : (lines : LineKind) (time : Option TimeOfDay) (line : List ℕ) → Lacks 10 line → Lacks 10 (spelled_line lines time line)
line_lacks lines time line p =
    lacks-cond (is_comment lines line) 10 _ _ tt (lacks-cond (ends_with nat_eq line (13 ∷ [])) 10 _ _ (refl, tt) (full_lacks lines time line p))

lines_lack : (lines : LineKind) (time : Option TimeOfDay) (text : List (List ℕ)) → AllLack 10 text → AllLack 10 (map (spelled_line lines time) text)
lines_lack lines time [] p = tt
lines_lack lines time (line ∷ text) p = (line_lacks lines time line p.0, lines_lack lines time text p.1)

pub lines_stay : (lines : LineKind) (time : Option TimeOfDay) (text : List ℕ) → pieces_of 10 (spelled_text lines time text) ≡ map (spelled_line lines time) (pieces_of 10 text)
lines_stay lines time text = go (pieces_of 10 text) (let long = length-slice_split (λ b. eqb b 10) text in omega arith) (pieces_lack 10 text)
  where
    go : (all : List (List ℕ)) → 0 < length all → AllLack 10 all → pieces_of 10 (join_with_byte 10 (map (spelled_line lines time) all)) ≡ map (spelled_line lines time) all
    go [] some p = absurd (search (rules, some))
    go (line ∷ rest) some p = joined_pieces 10 (spelled_line lines time line) (map (spelled_line lines time) rest) (lines_lack lines time (line ∷ rest) p)

-- the remaining lines, expanded, begin with the expanded first line
pub spelled_first : (f : List ℕ → List ℕ) (rest after : Option (Bor (List ℕ))) (left : Bor (List ℕ)) (short line : List ℕ) → rest ≡ Some left → pieces_of 10 left.now ≡ short ∷ pieces_left 10 after → f short ≡ line
    → map f (pieces_left 10 rest) ≡ line ∷ map f (pieces_left 10 after)
spelled_first f rest after left short line is cut spelled =
    ap (λ (r : Option (Bor (List ℕ))). map f (pieces_left 10 r)) is ∙ ap (map f) cut ∙ ap (λ (l : List ℕ). l ∷ map f (pieces_left 10 after)) spelled
