-- A dump in our own format reads back.
use Rattle.std.proofs.Common.{◌≡◌, ℕ, ◌+◌, ◌-◌, ◌<◌, ◌^◌, Bool, true, false, cond, List, [], ◌∷◌, ◌++◌, length, length-append, decimal, codes, Option, Some, None, refl, sym, ap, ◌∙◌, subst, append_assoc, arith, eqb}
use Rattle.std.specs.List.{All, flat_map}
use Rattle.std.specs.Result.{result_ok}
use Rattle.std.specs.Str.{bytes_eq}
use Rattle.std.proofs.lemmas.Bool.{ne_eqb}
use Rattle.std.proofs.lemmas.Option.{none-some}
use Rattle.std.proofs.lemmas.Slice.Eq.{bytes_eq-Decides}
use Rattle.std.proofs.lemmas.List.Elements.{All-head, All-tail}
use Rattle.std.proofs.lemmas.List.Splits.{slice_split_at, slice_split_none}
use Rattle.hex.specs.Hex.{IsBytes, encode_with, encode_lower, decode_of, lower_digits}
use Rattle.hex.proofs.HexLemmas.{decode_of-encode_lower}
use Rattle.sdbm_addr.specs.declared.KeyBytes.{KeyBytes}
use Rattle.sdbm_addr.specs.declared.KeyBytes.TheVariants.{Signed, Unsigned}
use Rattle.sdbm_addr.specs.declared.PageSize.{PageSize}
use Rattle.sdbm_addr.specs.declared.PageSize.TheVariants.{Small, Wide}
use Rattle.sdbm_addr.specs.Pairs.{Pair}
use Rattle.dbm_script.specs.Notation.{hex_bytes, hex_shown}
use Rattle.dbm_script.specs.Pieces.{pieces_of}
use Rattle.byte_text.proofs.Decimals.{number_is}
use Rattle.dbm_dump.specs.Texts.{◌⏎◌, keys_line, pages_line, dump_pair_line, pair_words, plain_end, plain_header, plain_text, title}
use Rattle.dbm_dump.specs.Marks.{pair_of, pair_in}
use Rattle.dbm_dump.specs.Steps.{closes, counted, goes, listed, pairs_step, line_step}
use Rattle.dbm_dump.specs.Reading.{AreBytePair, Read, before_read, pairs_in_dump, read, read_on, read_so, whole}
use Rattle.dbm_dump.specs.declared.stage.Next.{Next}
use Rattle.dbm_dump.specs.declared.stage.Stage.{Stage}
use Rattle.dbm_dump.specs.declared.stage.Stage.TheVariants.{First, Keys, Pages, Count, Gap, Pairs, Ended}
use Rattle.dbm_script.proofs.CutTexts.{piece_first}
use Rattle.dbm_dump.proofs.Ends.{whole_lines}
use Rattle.dbm_dump.proofs.Free.{IsFree, free, free-append, free-cons, free-decimal, free-shown}

-- ---- one pair

-- reading bytes in hex returns the bytes
two_digits : (a b : ℕ) (rest : List ℕ) → bytes_eq (a ∷ b ∷ rest) (codes ".") ≡ false
two_digits a b rest = grind arith

read_hex : (text bytes : List ℕ) (a b : ℕ) (rest : List ℕ) → text ≡ a ∷ b ∷ rest → result_ok (decode_of text) ≡ Some bytes → hex_bytes text ≡ Some bytes
read_hex text bytes a b rest is reads =
    subst (λ (t : List ℕ). result_ok (decode_of t) ≡ Some bytes → hex_bytes t ≡ Some bytes) (sym is)
    (λ h. ap (λ (x : Bool). cond x (Some []) (result_ok (decode_of (a ∷ b ∷ rest)))) (two_digits a b rest) ∙ h) reads

pub shown_reads : (bytes : List ℕ) → IsBytes bytes → hex_bytes (hex_shown bytes) ≡ Some bytes
unfolding encode_with
shown_reads [] h = refl
shown_reads (b ∷ bs) h = read_hex (encode_lower (b ∷ bs)) (b ∷ bs) _ _ _ refl (ap result_ok (decode_of-encode_lower (b ∷ bs) h))

no_space : (bytes : List ℕ) → IsFree 32 (hex_shown bytes)
no_space bytes = free-shown 32 (omega arith) refl (free 32 lower_digits refl) bytes

no_end : (bytes : List ℕ) → IsFree 10 (hex_shown bytes)
no_end bytes = free-shown 10 (omega arith) refl (free 10 lower_digits refl) bytes

pair_reads : (e : Pair) → AreBytePair e → pair_of (pair_words e) ≡ Some e
pair_reads e h =
    let words : pieces_of 32 (pair_words e) ≡ hex_shown e.0 ∷ (hex_shown e.1 ∷ [])
    = slice_split_at (λ b. eqb b 32) (hex_shown e.0) 32 (hex_shown e.1) (no_space e.0) refl
    ∙ ap (λ (ls : List (List ℕ)). hex_shown e.0 ∷ ls) (slice_split_none (λ b. eqb b 32) (hex_shown e.1) (no_space e.1)) in
    ap pair_in words ∙ rw (shown_reads e.0 h.0, shown_reads e.1 h.1) refl

whole_words : (e : Pair) → IsFree 10 (pair_words e)
whole_words e = free-append 10 (hex_shown e.0) (32 ∷ hex_shown e.1) (no_end e.0) (free-cons 10 32 (hex_shown e.1) refl (no_end e.1))

-- two different texts
differs : (a b : List ℕ) → (b ≡ a → ⊥) → bytes_eq a b ≡ false
differs a b h = go (bytes_eq a b) refl
  where
    go : (t : Bool) → bytes_eq a b ≡ t → t ≡ false
    go false e = refl
    go true e = absurd (h (sym ((bytes_eq-Decides a b).0 e)))

-- the last line is not a pair
end_is_none : pair_of plain_end ≡ None
end_is_none = ap pair_in (slice_split_none (λ b. eqb b 32) plain_end (free 32 plain_end refl))

not_end : (e : Pair) → AreBytePair e → bytes_eq (pair_words e) plain_end ≡ false
not_end e h = differs (pair_words e) plain_end (λ same. none-some e (sym end_is_none ∙ ap pair_of same ∙ pair_reads e h))

step_on : (left : ℕ) (line : List ℕ) → 0 < length line → pairs_step left line ≡ cond (bytes_eq line plain_end) (closes left) (listed left (pair_of line))
step_on left [] h = absurd (omega arith)
step_on left (c ∷ cs) h = refl

some_words : (e : Pair) → 0 < length (pair_words e)
some_words e = omega (arith, length-append (hex_shown e.0) (32 ∷ hex_shown e.1))

pair_step : (left : ℕ) (e : Pair) → AreBytePair e → line_step (Pairs (left + 1)) (pair_words e) ≡ Some (record { stage = Pairs left; pair = Some e })
pair_step left e h =
    step_on (left + 1) (pair_words e) (some_words e)
    ∙ ap (λ (b : Bool). cond b (closes (left + 1)) (listed (left + 1) (pair_of (pair_words e)))) (not_end e h)
    ∙ ap (listed (left + 1)) (pair_reads e h) ∙ one_less
  where
    one_less : listed (left + 1) (Some e) ≡ Some (record { stage = Pairs left; pair = Some e })
    one_less =
        ap (λ (b : Bool). cond b None (Some (record { stage = Pairs (left + 1 - 1); pair = Some e }))) (ne_eqb (left + 1) 0 (λ is. omega arith))
        ∙ ap (λ (n : ℕ). Some (record { stage = Pairs n; pair = Some e })) (let is : left + 1 - 1 ≡ left = omega arith in is)

-- reading the next line
pub line_reads : (stage next : Stage) (line rest : List ℕ) → IsFree 10 line → line_step stage line ≡ Some (goes next) → (r : Read) → read next (pieces_of 10 rest) ≡ Some r
    → read stage (pieces_of 10 (line ++ 10 ∷ rest)) ≡ Some (read_so r.pairs r.stage)
line_reads stage next line rest whole steps r reads =
    ap (read stage) (piece_first line rest whole)
    ∙ ap (λ (o : Option Next). read_on o (λ s. read s (pieces_of 10 rest))) steps
    ∙ ap (before_read None) reads

-- ---- all pairs, and the last line

pub body_reads : (pairs : List Pair) → All AreBytePair pairs → read (Pairs (length pairs)) (pieces_of 10 (flat_map dump_pair_line pairs ++ (plain_end ⏎ []))) ≡ Some (read_so pairs Ended)
body_reads [] h = line_reads (Pairs 0) Ended plain_end [] (free 10 plain_end refl) refl (read_so [] Ended) refl
body_reads (e ∷ es) h =
    let here : AreBytePair e = All-head AreBytePair e es h in
    let rest : List ℕ = flat_map dump_pair_line es ++ (plain_end ⏎ []) in
    let lines : pieces_of 10 (flat_map dump_pair_line (e ∷ es) ++ (plain_end ⏎ [])) ≡ pair_words e ∷ pieces_of 10 rest
    = ap (pieces_of 10) (append_assoc (dump_pair_line e) (flat_map dump_pair_line es) (plain_end ⏎ []) ∙ append_assoc (pair_words e) (10 ∷ []) rest) ∙ piece_first (pair_words e) rest (whole_words e) in
    ap (λ (n : ℕ). read (Pairs n) (pieces_of 10 (flat_map dump_pair_line (e ∷ es) ++ (plain_end ⏎ [])))) (let is : length (e ∷ es) ≡ length es + 1 = omega arith in is)
    ∙ ap (read (Pairs (length es + 1))) lines
    ∙ ap (λ (o : Option Next). read_on o (λ s. read s (pieces_of 10 rest))) (pair_step (length es) e here)
    ∙ ap (before_read (Some e)) (body_reads es (All-tail AreBytePair e es h))

-- ---- the header

keys_reads : (kind : KeyBytes) → line_step Keys (keys_line kind) ≡ Some (goes Pages)
keys_reads Signed = refl
keys_reads Unsigned = refl

pages_reads : (size : PageSize) → line_step Pages (pages_line size) ≡ Some (goes Count)
pages_reads Small = refl
pages_reads Wide = refl

count_reads : (n : ℕ) → n < 2 ^ 64 → line_step Count (codes "count " ++ decimal n) ≡ Some (goes (Gap n))
count_reads n h = ap counted (sym (number_is 18446744073709551615 (decimal n) n h (omega arith) refl))

keys_free : (kind : KeyBytes) → IsFree 10 (keys_line kind)
keys_free Signed = free 10 (keys_line Signed) refl
keys_free Unsigned = free 10 (keys_line Unsigned) refl

pages_free : (size : PageSize) → IsFree 10 (pages_line size)
pages_free Small = free 10 (pages_line Small) refl
pages_free Wide = free 10 (pages_line Wide) refl

header_is : (kind : KeyBytes) (size : PageSize) (n : ℕ) (rest : List ℕ)
    → plain_header kind size n ++ rest ≡ title ⏎ keys_line kind ⏎ pages_line size ⏎ (codes "count " ++ decimal n) ⏎ [] ⏎ rest
header_is kind size n rest = simp append_assoc

pub plain_reads : (kind : KeyBytes) (size : PageSize) (pairs : List Pair) → length pairs < 2 ^ 64 → All AreBytePair pairs → pairs_in_dump First (plain_text kind size pairs) ≡ Some pairs
plain_reads kind size pairs short h =
    let body = flat_map dump_pair_line pairs ++ (plain_end ⏎ []) in
    let n = length pairs in
    let r : Read = read_so pairs Ended in
    let five : read (Gap n) (pieces_of 10 ([] ⏎ body)) ≡ Some r = line_reads (Gap n) (Pairs n) [] body (free 10 [] refl) refl r (body_reads pairs h) in
    let four : read Count (pieces_of 10 ((codes "count " ++ decimal n) ⏎ [] ⏎ body)) ≡ Some r
    = line_reads Count (Gap n) (codes "count " ++ decimal n) ([] ⏎ body) (free-append 10 (codes "count ") (decimal n) (free 10 (codes "count ") refl) (free-decimal 10 n (omega arith) short)) (count_reads n short) r five in
    let three : read Pages (pieces_of 10 (pages_line size ⏎ (codes "count " ++ decimal n) ⏎ [] ⏎ body)) ≡ Some r
    = line_reads Pages Count (pages_line size) _ (pages_free size) (pages_reads size) r four in
    let two : read Keys (pieces_of 10 (keys_line kind ⏎ pages_line size ⏎ (codes "count " ++ decimal n) ⏎ [] ⏎ body)) ≡ Some r
    = line_reads Keys Pages (keys_line kind) _ (keys_free kind) (keys_reads kind) r three in
    let one : read First (pieces_of 10 (title ⏎ keys_line kind ⏎ pages_line size ⏎ (codes "count " ++ decimal n) ⏎ [] ⏎ body)) ≡ Some r
    = line_reads First Keys title (keys_line kind ⏎ pages_line size ⏎ (codes "count " ++ decimal n) ⏎ [] ⏎ body) (free 10 title refl) refl r two in
    whole_lines First (pieces_of 10 (plain_text kind size pairs)) ∙ ap whole (ap (λ (t : List ℕ). read First (pieces_of 10 t)) (header_is kind size n body) ∙ one)
