-- Text printed by a layout is read back.
use Rattle.std.proofs.Common.{◌≡◌, ℕ, zero, suc, ◌-◌, ◌/◌, ◌%◌, ◌<◌, ◌≤◌, ◌^◌, Bool, true, false, cond, eqb, ◌&&◌, List, [], ◌∷◌, ◌++◌, length, take, drop, slice_index, Option, Some, option_map, refl, sym, ap, ◌∙◌, subst, append_assoc, append-nil, take-append-drop, length-drop, length-take-le, codes, decimal, arith}
use Rattle.std.specs.Prelude.{nat_le, nat_lt}
use Rattle.std.specs.Str.{bytes_eq}
use Rattle.std.specs.Char.{digit_value}
use Rattle.std.specs.Str.Parse.{AllDigits}
use Rattle.std.specs.Result.{result_ok}
use Rattle.std.proofs.lemmas.Fmt.{decimal_is_IsNumeral}
use Rattle.std.proofs.lemmas.Bool.{leb-true, cond_both, false_from_ne_true, false≢true, eqb-true}
use Rattle.hex.specs.Hex.{IsBytes, encode_with, encode_lower, lower_digits}
use Rattle.hex.proofs.HexLemmas.{decode_of-encode_lower}
use Rattle.byte_text.specs.Numbers.{low_bytes, number_in, signed_text}
use Rattle.byte_text.specs.Text.{parts_of, part_bytes, joined, all_bytes, bytes_of_text, text_of_bytes}
use Rattle.byte_text.specs.Layouts.{HasRoom, width_of, fits, number_text, laid, left_by, part_by, text_by}
use Rattle.byte_text.specs.declared.layouts.Number.{Number}
use Rattle.byte_text.specs.declared.layouts.Number.TheVariants.{U8, U16, U32, U64, I64}
use Rattle.byte_text.specs.declared.layouts.Kind.{Kind}
use Rattle.byte_text.specs.declared.layouts.Kind.TheVariants as kinds
use Rattle.byte_text.proofs.LowBytes.{rest_bytes, first_byte, number_in-small, number_bytes-decimal, signed_of-signed_text, low_bytes-number_in}
use Rattle.byte_text.proofs.Cuts.{IsWhole, whole_none, whole_append, whole_plain}
use Rattle.byte_text.proofs.Escaped.{whole_digit}
use Rattle.byte_text.proofs.RoundTrip.{reads_part, whole_text, text_means, one_part, reads_text}

-- ---- numbers with their types

within_of : (bs : List ℕ) (width : ℕ) → length bs ≡ width → IsBytes bs → number_in bs < 256 ^ width
within_of bs width len h = number_in-small bs width (omega arith) h

reads_number : (number : Number) (bs : List ℕ) → length bs ≡ width_of number → IsBytes bs → part_bytes (number_text number (number_in bs)) ≡ Some bs
reads_number U8 bs len h =
    let small : number_in bs < 256 = within_of bs 1 len h in
    number_bytes-decimal 1 255 bs len h (omega arith) (omega arith)
reads_number U16 bs len h =
    let small : number_in bs < 65536 = within_of bs 2 len h in
    number_bytes-decimal 2 65535 bs len h (omega arith) (omega arith)
reads_number U32 bs len h =
    let small : number_in bs < 4294967296 = within_of bs 4 len h in
    number_bytes-decimal 4 4294967295 bs len h (omega arith) (omega arith)
reads_number U64 bs len h =
    let small : number_in bs < 18446744073709551616 = within_of bs 8 len h in
    number_bytes-decimal 8 18446744073709551615 bs len h (omega arith) (omega arith)
reads_number I64 bs len h =
    let small : number_in bs < 18446744073709551616 = within_of bs 8 len h in
    ap (option_map (low_bytes 8)) (signed_of-signed_text (number_in bs) small)
    ∙ ap Some (ap (λ k. low_bytes k (number_in bs)) (sym len) ∙ low_bytes-number_in bs h)

-- digits contain no unescaped comma
whole_numeral : (ds : List ℕ) → AllDigits 10 ds → IsWhole ds
whole_numeral [] h = whole_none
whole_numeral (c ∷ cs) h =
    let digit : digit_value c < 10 = h.0 in
    let no_comma : eqb c 44 ≡ false = other c 44 digit (λ bad. absurd (omega (arith, bad))) in
    let no_slash : eqb c 92 ≡ false = other c 92 digit (λ bad. absurd (omega (arith, bad))) in
    whole_append (c ∷ []) cs (whole_plain c no_comma no_slash) (whole_numeral cs h.1)
  where
    other : (x k : ℕ) → digit_value x < 10 → (digit_value k < 10 → ⊥) → eqb x k ≡ false
    other x k d none = false_from_ne_true (eqb x k) (λ is. none (subst (λ y. digit_value y < 10) (eqb-true x k is) d))

whole_decimal : (n : ℕ) → n < 2 ^ 64 → IsWhole (decimal n)
whole_decimal n h = whole_numeral (decimal n) (decimal_is_IsNumeral n h).0.1

whole_signed : (word : ℕ) → word < 2 ^ 64 → IsWhole (signed_text word)
whole_signed word h =
    cond_both (nat_lt word 9223372036854775808) (decimal word) (45 ∷ decimal (18446744073709551616 - word)) (λ text. IsWhole text)
    (λ _. whole_decimal word h)
    (λ high.
    let large : 9223372036854775808 ≤ word = grind (arith, high) in
    whole_append (45 ∷ []) (decimal (18446744073709551616 - word)) (whole_plain 45 refl refl) (whole_decimal (18446744073709551616 - word) (omega arith)))

-- no character is a comma or a backslash
abbrev all_other : List ℕ → Bool
all_other [] = true
all_other (c ∷ cs) = cond (eqb c 44) false (cond (eqb c 92) false (all_other cs))

-- the name of a type contains no unescaped comma
whole_name : (name : List ℕ) → all_other name ≡ true → IsWhole name
whole_name [] h = whole_none
whole_name (c ∷ cs) h = by_tests (whole_name cs) (eqb c 44) (eqb c 92) refl refl h
  where
    by_tests : (all_other cs ≡ true → IsWhole cs) → (a b : Bool) → eqb c 44 ≡ a → eqb c 92 ≡ b → cond a false (cond b false (all_other cs)) ≡ true → IsWhole (c ∷ cs)
    by_tests rest true b no_comma no_slash plain = absurd (false≢true plain)
    by_tests rest false true no_comma no_slash plain = absurd (false≢true plain)
    by_tests rest false false no_comma no_slash plain = whole_append (c ∷ []) cs (whole_plain c no_comma no_slash) (rest plain)

whole_number : (number : Number) (n : ℕ) → n < 2 ^ 64 → IsWhole (number_text number n)
whole_number U8 n h = whole_append (codes "u8:") (decimal n) (whole_name (codes "u8:") refl) (whole_decimal n h)
whole_number U16 n h = whole_append (codes "u16:") (decimal n) (whole_name (codes "u16:") refl) (whole_decimal n h)
whole_number U32 n h = whole_append (codes "u32:") (decimal n) (whole_name (codes "u32:") refl) (whole_decimal n h)
whole_number U64 n h = whole_append (codes "u64:") (decimal n) (whole_name (codes "u64:") refl) (whole_decimal n h)
whole_number I64 n h = whole_append (codes "i64:") (signed_text n) (whole_name (codes "i64:") refl) (whole_signed n h)

number_is_no_dot : (number : Number) (n : ℕ) (more : List ℕ) → bytes_eq (number_text number n ++ more) (codes ".") ≡ false
number_is_no_dot U8 n more = refl
number_is_no_dot U16 n more = refl
number_is_no_dot U32 n more = refl
number_is_no_dot U64 n more = refl
number_is_no_dot I64 n more = refl

-- ---- hex

whole_encoded : (bs : List ℕ) → IsBytes bs → IsWhole (encode_with lower_digits bs)
unfolding encode_with
whole_encoded [] h = whole_none
whole_encoded (b ∷ bs) h =
    let small = first_byte b bs h in
    whole_append (slice_index lower_digits (b / 16) ∷ []) (slice_index lower_digits (b % 16) ∷ encode_with lower_digits bs) (whole_digit (b / 16) (omega arith))
    (whole_append (slice_index lower_digits (b % 16) ∷ []) (encode_with lower_digits bs) (whole_digit (b % 16) (omega arith)) (whole_encoded bs (rest_bytes b bs h)))

whole_hex : (bs : List ℕ) → IsBytes bs → IsWhole (codes "hex:" ++ encode_lower bs)
whole_hex bs h = whole_append (codes "hex:") (encode_lower bs) (whole_name (codes "hex:") refl) (whole_encoded bs h)

reads_hex : (bs : List ℕ) → IsBytes bs → part_bytes (codes "hex:" ++ encode_lower bs) ≡ Some bs
reads_hex bs h = ap result_ok (decode_of-encode_lower bs h)

-- ---- parts after the first

IsBytes-take : (n : ℕ) (bs : List ℕ) → IsBytes bs → IsBytes (take n bs)
IsBytes-take zero bs h i = omega arith
IsBytes-take (suc n) [] h i = omega arith
IsBytes-take (suc n) (b ∷ bs) h zero = h 0
IsBytes-take (suc n) (b ∷ bs) h (suc i) = IsBytes-take n bs (rest_bytes b bs h) i

IsBytes-drop : (n : ℕ) (bs : List ℕ) → IsBytes bs → IsBytes (drop n bs)
IsBytes-drop zero bs h = h
IsBytes-drop (suc n) [] h = h
IsBytes-drop (suc n) (b ∷ bs) h = IsBytes-drop n bs (rest_bytes b bs h)

-- The text represents these bytes after any complete part.
abbrev Follows : List ℕ → List ℕ → Type 0
Follows text bytes = (front : List ℕ) → IsWhole front → all_bytes (parts_of false (front ++ text)) ≡ joined (part_bytes front) (Some bytes)

follows_none : Follows [] []
follows_none front whole =
    ap all_bytes (whole [])
    ∙ ap (λ (x : List ℕ). joined (part_bytes x) (Some [])) (append-nil front)

-- a part and the text after it, after a comma
follows_part : (part text bytes more : List ℕ) → IsWhole part → part_bytes part ≡ Some bytes → Follows text more → Follows (44 ∷ (part ++ text)) (bytes ++ more)
follows_part part text bytes more whole is later front first =
    ap all_bytes (first (44 ∷ (part ++ text)))
    ∙ ap (λ (x : List ℕ). joined (part_bytes x) (all_bytes (parts_of false (part ++ text)))) (append-nil front)
    ∙ ap (joined (part_bytes front)) (later part whole ∙ ap (λ (x : Option (List ℕ)). joined x (Some more)) is)

and_left : (a b : Bool) → (a && b) ≡ true → a ≡ true
and_left true b h = refl
and_left false b h = h

and_right : (a b : Bool) → (a && b) ≡ true → b ≡ true
and_right true b h = h
and_right false b h = absurd (false≢true h)

-- kinds that cover no bytes print nothing
laid_nothing : (layout : List Kind) → fits layout 0 ≡ true → laid true layout [] ≡ []
laid_nothing [] h = refl
laid_nothing (kinds.Number U8 ∷ others) h = absurd (false≢true h)
laid_nothing (kinds.Number U16 ∷ others) h = absurd (false≢true h)
laid_nothing (kinds.Number U32 ∷ others) h = absurd (false≢true h)
laid_nothing (kinds.Number U64 ∷ others) h = absurd (false≢true h)
laid_nothing (kinds.Number I64 ∷ others) h = absurd (false≢true h)
laid_nothing (kinds.Text ∷ others) h = laid_nothing others h
laid_nothing (kinds.Hex ∷ others) h = laid_nothing others h

word_small : (number : Number) (bs : List ℕ) → length bs ≡ width_of number → IsBytes bs → number_in bs < 2 ^ 64
word_small U8 bs len h = let small : number_in bs < 256 = within_of bs 1 len h in omega arith
word_small U16 bs len h = let small : number_in bs < 65536 = within_of bs 2 len h in omega arith
word_small U32 bs len h = let small : number_in bs < 4294967296 = within_of bs 4 len h in omega arith
word_small U64 bs len h = let small : number_in bs < 18446744073709551616 = within_of bs 8 len h in omega arith
word_small I64 bs len h = let small : number_in bs < 18446744073709551616 = within_of bs 8 len h in omega arith

-- the part of a number and its properties
taken : (number : Number) (bytes : List ℕ) → nat_le (width_of number) (length bytes) ≡ true → length (take (width_of number) bytes) ≡ width_of number
taken number bytes h = length-take-le (width_of number) bytes (leb-true (width_of number) (length bytes) h)

left_length : (number : Number) (others : List Kind) (bytes : List ℕ) → fits others (length bytes - width_of number) ≡ true → fits others (length (drop (width_of number) bytes)) ≡ true
left_length number others bytes h = ap (fits others) (length-drop (width_of number) bytes) ∙ h

-- the steps of the loop that prints parts
pub room_part : (kind : Kind) (others : List Kind) (left : List ℕ) → fits (kind ∷ others) (length left) ≡ true → HasRoom kind (length left)
room_part (kinds.Number number) others left ok = leb-true (width_of number) (length left) (and_left _ _ ok)
room_part kinds.Text others left ok = tt
room_part kinds.Hex others left ok = tt

pub fits_part : (kind : Kind) (others : List Kind) (left : List ℕ) → fits (kind ∷ others) (length left) ≡ true → fits others (length (left_by kind left)) ≡ true
fits_part (kinds.Number number) others left ok = left_length number others left (and_right _ _ ok)
fits_part kinds.Text others left ok = ok
fits_part kinds.Hex others left ok = ok

pub shows_part : (behind : Bool) (kind : Kind) (others : List Kind) (left text new whole : List ℕ)
    → text ++ laid behind (kind ∷ others) left ≡ whole → new ≡ text ++ part_by behind kind left → new ++ laid true others (left_by kind left) ≡ whole
shows_part behind kind others left text new whole shown is =
    ap (λ (t : List ℕ). t ++ laid true others (left_by kind left)) is ∙ append_assoc text (part_by behind kind left) (laid true others (left_by kind left)) ∙ shown

follows_laid : (layout : List Kind) (bytes : List ℕ) → IsBytes bytes → fits layout (length bytes) ≡ true → Follows (laid true layout bytes) bytes
follows_laid [] [] h ok = follows_none
follows_laid [] (b ∷ bs) h ok = absurd (omega (arith, eqb-true (length (b ∷ bs)) 0 ok))
follows_laid (kinds.Number number ∷ others) bytes h ok =
    let enough = and_left _ _ ok in
    let n = width_of number in
    let len = taken number bytes enough in
    let some = IsBytes-take n bytes h in
    let later = follows_laid others (drop n bytes) (IsBytes-drop n bytes h) (left_length number others bytes (and_right _ _ ok)) in
    subst (λ (x : List ℕ). Follows (laid true (kinds.Number number ∷ others) bytes) x) (take-append-drop n bytes)
    (follows_part (number_text number (number_in (take n bytes))) (laid true others (drop n bytes)) (take n bytes) (drop n bytes)
    (whole_number number (number_in (take n bytes)) (word_small number (take n bytes) len some)) (reads_number number (take n bytes) len some) later)
follows_laid (kinds.Text ∷ others) [] h ok = follows_laid others [] h ok
follows_laid (kinds.Text ∷ others) (b ∷ bs) h ok =
    rw (laid_nothing others ok) (subst (λ (x : List ℕ). Follows (44 ∷ (text_of_bytes (b ∷ bs) ++ [])) x) (append-nil (b ∷ bs))
    (follows_part (text_of_bytes (b ∷ bs)) [] (b ∷ bs) [] (whole_text b bs h) (reads_part b bs h) follows_none))
follows_laid (kinds.Hex ∷ others) [] h ok = follows_laid others [] h ok
follows_laid (kinds.Hex ∷ others) (b ∷ bs) h ok =
    rw (laid_nothing others ok) (subst (λ (x : List ℕ). Follows (44 ∷ ((codes "hex:" ++ encode_lower (b ∷ bs)) ++ [])) x) (append-nil (b ∷ bs))
    (follows_part (codes "hex:" ++ encode_lower (b ∷ bs)) [] (b ∷ bs) [] (whole_hex (b ∷ bs) h) (reads_hex (b ∷ bs) h) follows_none))

-- ---- the whole

reads_laid : (layout : List Kind) (b : ℕ) (bs : List ℕ) → IsBytes (b ∷ bs) → fits layout (length (b ∷ bs)) ≡ true → bytes_of_text (laid false layout (b ∷ bs)) ≡ Some (b ∷ bs)
reads_laid [] b bs h ok = absurd (omega (arith, eqb-true (length (b ∷ bs)) 0 ok))
reads_laid (kinds.Number number ∷ others) b bs h ok =
    let bytes = b ∷ bs in
    let enough = and_left _ _ ok in
    let n = width_of number in
    let len = taken number bytes enough in
    let some = IsBytes-take n bytes h in
    let later = follows_laid others (drop n bytes) (IsBytes-drop n bytes h) (left_length number others bytes (and_right _ _ ok)) in
    let whole = whole_number number (number_in (take n bytes)) (word_small number (take n bytes) len some) in
    text_means (number_text number (number_in (take n bytes)) ++ laid true others (drop n bytes)) bytes (number_is_no_dot number (number_in (take n bytes)) (laid true others (drop n bytes)))
    (later (number_text number (number_in (take n bytes))) whole
    ∙ ap (λ (x : Option (List ℕ)). joined x (Some (drop n bytes))) (reads_number number (take n bytes) len some)
    ∙ ap Some (take-append-drop n bytes))
reads_laid (kinds.Text ∷ others) b bs h ok =
    ap bytes_of_text (ap (λ (t : List ℕ). text_of_bytes (b ∷ bs) ++ t) (laid_nothing others ok) ∙ append-nil (text_of_bytes (b ∷ bs))) ∙ reads_text (b ∷ bs) h
reads_laid (kinds.Hex ∷ others) b bs h ok =
    let part = codes "hex:" ++ encode_lower (b ∷ bs) in
    ap bytes_of_text (ap (λ (t : List ℕ). part ++ t) (laid_nothing others ok) ∙ append-nil part)
    ∙ text_means part (b ∷ bs) refl (one_part part (b ∷ bs) (whole_hex (b ∷ bs) h) (reads_hex (b ∷ bs) h))

pub reads_by : (layout : List Kind) (bytes : List ℕ) → IsBytes bytes → bytes_of_text (text_by layout bytes) ≡ Some bytes
reads_by layout [] h = refl
reads_by layout (b ∷ bs) h =
    cond_both (fits layout (length (b ∷ bs))) _ _ (λ text. bytes_of_text text ≡ Some (b ∷ bs))
    (λ ok. reads_laid layout b bs h ok) (λ _. reads_text (b ∷ bs) h)
