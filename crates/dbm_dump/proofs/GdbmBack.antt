-- A dump in gdbm's format reads back.
use Rattle.std.proofs.Common.{◌≡◌, ℕ, ◌+◌, ◌*◌, ◌/◌, ◌<◌, ◌≤◌, ◌^◌, Bool, true, false, cond, List, [], ◌∷◌, ◌++◌, length, length-append, decimal, codes, Option, Some, None, refl, sym, ap, ◌∙◌, append_assoc, arith, eqb, replicate}
use Rattle.std.specs.Prelude.{◌||◌, nat_le}
use Rattle.std.specs.List.{All, flat_map}
use Rattle.std.proofs.lemmas.Bool.{ne_eqb}
use Rattle.std.proofs.lemmas.List.{length-replicate}
use Rattle.std.proofs.lemmas.List.Elements.{All-head, All-tail}
use Rattle.base64.specs.Engines.{standard}
use Rattle.base64.specs.GeneralPurpose.{decode_of, encode_of}
use Rattle.base64.specs.Rfc4648.{encode_symbols, padding_len, unpadded_len}
use Rattle.base64.proofs.EngineFacts.{decode_of-encode_of, encode_of-nil}
use Rattle.base64.proofs.RoundTrip.{length-encode_symbols}
use Rattle.hex.specs.Hex.{IsBytes}
use Rattle.sdbm_addr.specs.Pairs.{Pair}
use Rattle.dbm_script.specs.Pieces.{pieces_of}
use Rattle.byte_text.proofs.Decimals.{number_is}
use Rattle.dbm_dump.specs.Texts.{◌⏎◌, datum_lines, gdbm_end, gdbm_header, gdbm_pair, gdbm_text}
use Rattle.dbm_dump.specs.Marks.{count_mark, len_mark, line_mark, sign_mark}
use Rattle.dbm_dump.specs.Steps.{between_step, datum_closed, decoded, goes, goes_if, grown, is_full, line_step, within_step}
use Rattle.dbm_dump.specs.Reading.{IsGood, Read, before_read, pairs_in_dump, read, read_on, read_so, whole}
use Rattle.dbm_dump.specs.Symbols.{is_open}
use Rattle.dbm_dump.specs.declared.marks.Mark.TheVariants as mark
use Rattle.dbm_dump.specs.declared.stage.Next.{Next}
use Rattle.dbm_dump.specs.declared.stage.Role.{Role}
use Rattle.dbm_dump.specs.declared.stage.Role.TheVariants.{Key, Value}
use Rattle.dbm_dump.specs.declared.stage.Stage.{Stage}
use Rattle.dbm_dump.specs.declared.stage.Stage.TheVariants.{First, Between, Within, Over}
use Rattle.dbm_script.proofs.CutTexts.{piece_first}
use Rattle.dbm_dump.proofs.Ends.{whole_lines}
use Rattle.dbm_dump.proofs.Free.{IsFree, free, free-append, free-base64, free-decimal}
use Rattle.dbm_dump.proofs.PlainBack.{line_reads}

-- the result of reading the rest of a text after a step
abbrev reads_on : Option Next → List ℕ → Option Read
reads_on steps rest = read_on steps (λ s. read s (pieces_of 10 rest))

-- reading the first line of a text
line_steps : (stage : Stage) (line rest : List ℕ) (steps : Option Next) → IsFree 10 line → line_step stage line ≡ steps → read stage (pieces_of 10 (line ++ 10 ∷ rest)) ≡ reads_on steps rest
line_steps stage line rest steps whole is = ap (read stage) (piece_first line rest whole) ∙ ap (λ (o : Option Next). reads_on o rest) is

-- a line without a pair
goes_on : (next : Stage) (rest : List ℕ) → reads_on (Some (goes next)) rest ≡ read next (pieces_of 10 rest)
goes_on next rest = none (read next (pieces_of 10 rest))
  where
    none : (o : Option Read) → before_read None o ≡ o
    none None = refl
    none (Some r) = refl

-- ---- the length of a datum

len_line : ℕ → List ℕ
len_line n = codes "#:len=" ++ decimal n

len_mark_of : (n : ℕ) → n < 2 ^ 64 → line_mark (codes "#:len=" ++ decimal n) ≡ mark.Len n
len_mark_of n h = ap len_mark (sym (number_is 18446744073709551615 (decimal n) n h (omega arith) refl))

count_mark_of : (n : ℕ) → n < 2 ^ 64 → line_mark (codes "#:count=" ++ decimal n) ≡ mark.Count n
count_mark_of n h = ap count_mark (sym (number_is 18446744073709551615 (decimal n) n h (omega arith) refl))

len_free : (n : ℕ) → n < 2 ^ 64 → IsFree 10 (codes "#:len=" ++ decimal n)
len_free n h = free-append 10 (codes "#:len=") (decimal n) (free 10 (codes "#:len=") refl) (free-decimal 10 n (omega arith) h)

-- ---- its text

text_mark : (text : List ℕ) → 0 < length text → IsFree 35 text → line_mark text ≡ mark.Text
text_mark [] h none = absurd (omega arith)
text_mark (c ∷ cs) h none = ap (λ (b : Bool). cond b (sign_mark (c ∷ cs)) mark.Text) (All-head (λ b. eqb b 35 ≡ false) c cs none)

encoded_length : (bytes : List ℕ) → length (encode_of standard bytes) ≡ unpadded_len (length bytes) + padding_len (length bytes)
encoded_length bytes =
    let pads : List ℕ = replicate (padding_len (length bytes)) 61 in
    let one = length-append (encode_symbols standard.encode_table bytes) pads in
    let two = length-encode_symbols standard.encode_table bytes in
    let all : length pads ≡ padding_len (length bytes) = length-replicate (padding_len (length bytes)) 61 in
    one ∙ ap (λ (n : ℕ). n + length pads) two ∙ ap (λ (n : ℕ). unpadded_len (length bytes) + n) all

nat_le_true : (a b : ℕ) → a ≤ b → nat_le a b ≡ true
nat_le_true a b h = grind arith

encoded_full : (bytes : List ℕ) → is_full (length bytes) (encode_of standard bytes) ≡ true
encoded_full bytes = nat_le_true (length bytes) (length (encode_of standard bytes) / 4 * 3) (omega (arith, encoded_length bytes))

encoded_some : (bytes : List ℕ) → 0 < length bytes → 0 < length (encode_of standard bytes)
encoded_some bytes h = omega (arith, encoded_length bytes)

decodes : (seen : ℕ) (role : Role) (bytes : List ℕ) → IsBytes bytes → decoded seen role (length bytes) (decode_of standard (encode_of standard bytes)) ≡ datum_closed seen role bytes
decodes seen role bytes h =
    ap (decoded seen role (length bytes)) (decode_of-encode_of standard bytes refl h)
    ∙ same (length bytes)
  where
    same : (n : ℕ) → cond (eqb n n) (datum_closed seen role bytes) None ≡ datum_closed seen role bytes
    same n = grind arith

encoded_grown : (seen : ℕ) (role : Role) (bytes : List ℕ) → IsBytes bytes → grown seen role (length bytes) (encode_of standard bytes) ≡ datum_closed seen role bytes
encoded_grown seen role bytes h =
    ap (λ (b : Bool). cond b (decoded seen role (length bytes) (decode_of standard (encode_of standard bytes))) (Some (goes (Within seen role (length bytes) (encode_of standard bytes))))) (encoded_full bytes)
    ∙ decodes seen role bytes h

-- ---- a datum

nat_le_false : (a b : ℕ) → b < a → nat_le a b ≡ false
nat_le_false a b h = grind arith

begun : (seen : ℕ) (role : Role) (n : ℕ) → 0 < n → grown seen role n [] ≡ Some (goes (Within seen role n []))
begun seen role n h = ap (λ (b : Bool). cond b (decoded seen role n (decode_of standard [])) (Some (goes (Within seen role n [])))) (nat_le_false n 0 h)

datum_reads : (seen : ℕ) (role : Role) (bytes rest : List ℕ) → length bytes < 2 ^ 64 → IsBytes bytes
    → read (Between seen role) (pieces_of 10 (datum_lines bytes ++ rest)) ≡ reads_on (datum_closed seen role bytes) rest
datum_reads seen role [] rest short h =
    ap (λ (t : List ℕ). read (Between seen role) (pieces_of 10 t)) (append_assoc (codes "#:len=" ++ decimal 0) (10 ∷ []) rest)
    ∙ line_steps (Between seen role) (codes "#:len=" ++ decimal 0) rest (datum_closed seen role []) (len_free 0 (omega arith)) empty
  where
    empty : line_step (Between seen role) (codes "#:len=" ++ decimal 0) ≡ datum_closed seen role []
    empty = ap (between_step seen role) (len_mark_of 0 (omega arith)) ∙ ap (decoded seen role 0) (ap (decode_of standard) (sym (encode_of-nil standard)) ∙ decode_of-encode_of standard [] refl h)
datum_reads seen role (b ∷ bs) rest short h =
    let bytes : List ℕ = b ∷ bs in
    let text : List ℕ = encode_of standard bytes in
    let n : ℕ = length bytes in
    let lines : datum_lines bytes ++ rest ≡ (codes "#:len=" ++ decimal n) ⏎ text ⏎ rest
    = append_assoc (codes "#:len=" ++ decimal n) (10 ∷ (text ⏎ [])) rest ∙ ap (λ (t : List ℕ). (codes "#:len=" ++ decimal n) ++ 10 ∷ t) (append_assoc text (10 ∷ []) rest) in
    let some : 0 < length text = encoded_some bytes (omega arith) in
    ap (λ (t : List ℕ). read (Between seen role) (pieces_of 10 t)) lines
    ∙ line_steps (Between seen role) (codes "#:len=" ++ decimal n) (text ⏎ rest) (Some (goes (Within seen role n []))) (len_free n short) (ap (between_step seen role) (len_mark_of n short) ∙ begun seen role n (omega arith))
    ∙ goes_on (Within seen role n []) (text ⏎ rest)
    ∙ line_steps (Within seen role n []) text rest (datum_closed seen role bytes) (free-base64 10 (omega arith) refl refl bytes)
    (ap (within_step seen role n [] text) (text_mark text some (free-base64 35 (omega arith) refl refl bytes))
    ∙ ap (λ (b : Bool). cond (b || is_open [] text) (grown seen role n text) None) (encoded_full bytes) ∙ encoded_grown seen role bytes h)

-- ---- a pair

key_reads : (seen : ℕ) (key rest : List ℕ) → length key < 2 ^ 64 → IsBytes key
    → read (Between seen Key) (pieces_of 10 (datum_lines key ++ rest)) ≡ read (Between seen (Value key)) (pieces_of 10 rest)
key_reads seen key rest short h = datum_reads seen Key key rest short h ∙ goes_on (Between seen (Value key)) rest

value_closed : (seen : ℕ) (key value : List ℕ) → seen < 18446744073709551615 → datum_closed seen (Value key) value ≡ Some (record { stage = Between (seen + 1) Key; pair = Some (key, value) })
value_closed seen key value h =
    ap (λ (b : Bool). cond b None (Some (record { stage = Between (seen + 1) Key; pair = Some (key, value) }))) (ne_eqb seen 18446744073709551615 (λ is. omega arith))

pair_reads : (seen : ℕ) (e : Pair) (rest : List ℕ) (r : Read) → seen < 18446744073709551615 → IsGood e → read (Between (seen + 1) Key) (pieces_of 10 rest) ≡ Some r
    → read (Between seen Key) (pieces_of 10 (gdbm_pair e ++ rest)) ≡ Some (read_so (e ∷ r.pairs) r.stage)
pair_reads seen e rest r room h more =
    ap (λ (t : List ℕ). read (Between seen Key) (pieces_of 10 t)) (append_assoc (datum_lines e.0) (datum_lines e.1) rest)
    ∙ key_reads seen e.0 (datum_lines e.1 ++ rest) h.0.0 h.1.0
    ∙ datum_reads seen (Value e.0) e.1 rest h.0.1 h.1.1
    ∙ ap (λ (o : Option Next). reads_on o rest) (value_closed seen e.0 e.1 room)
    ∙ ap (before_read (Some e)) more

-- ---- the end

same_count : (n : ℕ) → goes_if (eqb n n) Over ≡ Some (goes Over)
same_count n = ap (λ (b : Bool). goes_if b Over) (let is : eqb n n ≡ true = grind arith in is)

end_reads : (n : ℕ) → n < 2 ^ 64 → read (Between n Key) (pieces_of 10 (gdbm_end n)) ≡ Some (read_so [] Over)
end_reads n h =
    line_steps (Between n Key) (codes "#:count=" ++ decimal n) (codes "# End of data" ⏎ []) (Some (goes Over))
    (free-append 10 (codes "#:count=") (decimal n) (free 10 (codes "#:count=") refl) (free-decimal 10 n (omega arith) h)) (ap (between_step n Key) (count_mark_of n h) ∙ same_count n)
    ∙ goes_on Over (codes "# End of data" ⏎ [])

-- ---- all pairs

body_reads : (pairs : List Pair) (seen : ℕ) → seen + length pairs < 2 ^ 64 → All IsGood pairs
    → read (Between seen Key) (pieces_of 10 (flat_map gdbm_pair pairs ++ gdbm_end (seen + length pairs))) ≡ Some (read_so pairs Over)
body_reads [] seen room h = ap (λ (n : ℕ). read (Between seen Key) (pieces_of 10 (gdbm_end n))) (let is : seen + 0 ≡ seen = omega arith in is) ∙ end_reads seen (omega arith)
body_reads (e ∷ es) seen room h =
    let counts : seen + length (e ∷ es) ≡ (seen + 1) + length es = omega arith in
    let rest = flat_map gdbm_pair es ++ gdbm_end ((seen + 1) + length es) in
    ap (λ (n : ℕ). read (Between seen Key) (pieces_of 10 (flat_map gdbm_pair (e ∷ es) ++ gdbm_end n))) counts
    ∙ ap (λ (t : List ℕ). read (Between seen Key) (pieces_of 10 t)) (append_assoc (gdbm_pair e) (flat_map gdbm_pair es) (gdbm_end ((seen + 1) + length es)))
    ∙ pair_reads seen e rest (read_so es Over) (omega arith) (All-head IsGood e es h) (body_reads es (seen + 1) (omega arith) (All-tail IsGood e es h))

pub gdbm_reads : (pairs : List Pair) → length pairs < 2 ^ 64 → All IsGood pairs → pairs_in_dump First (gdbm_text pairs) ≡ Some pairs
gdbm_reads pairs short h =
    let body = flat_map gdbm_pair pairs ++ gdbm_end (length pairs) in
    let r : Read = read_so pairs Over in
    let start : Stage = Between 0 Key in
    let five : read start (pieces_of 10 body) ≡ Some r
    = ap (λ (n : ℕ). read start (pieces_of 10 (flat_map gdbm_pair pairs ++ gdbm_end n))) (let is : length pairs ≡ 0 + length pairs = omega arith in is) ∙ body_reads pairs 0 (omega arith) h in
    let four : read start (pieces_of 10 (codes "# End of header" ⏎ body)) ≡ Some r = line_reads start start (codes "# End of header") body (free 10 (codes "# End of header") refl) refl r five in
    let three : read start (pieces_of 10 (codes "#:format=standard" ⏎ codes "# End of header" ⏎ body)) ≡ Some r
    = line_reads start start (codes "#:format=standard") (codes "# End of header" ⏎ body) (free 10 (codes "#:format=standard") refl) refl r four in
    let two : read start (pieces_of 10 (codes "#:version=1.1" ⏎ codes "#:format=standard" ⏎ codes "# End of header" ⏎ body)) ≡ Some r
    = line_reads start start (codes "#:version=1.1") (codes "#:format=standard" ⏎ codes "# End of header" ⏎ body) (free 10 (codes "#:version=1.1") refl) refl r three in
    let one : read First (pieces_of 10 (gdbm_header ++ body)) ≡ Some r
    = line_reads First start (codes "# GDBM dump file created by Boddurci") (codes "#:version=1.1" ⏎ codes "#:format=standard" ⏎ codes "# End of header" ⏎ body) (free 10 (codes "# GDBM dump file created by Boddurci") refl) refl r two in
    whole_lines First (pieces_of 10 (gdbm_text pairs)) ∙ ap whole one
