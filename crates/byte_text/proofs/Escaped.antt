-- Escaped bytes: they are read back, and contain no unescaped comma.
use Rattle.std.proofs.Common.{◌≡◌, ℕ, suc, ◌+◌, ◌*◌, ◌/◌, ◌%◌, ◌<◌, Bool, true, false, cond, eqb, leb, ◌&&◌, List, [], ◌∷◌, ◌++◌, length, take, Option, Some, None, option_map, option_and_then, nat_eq, refl, sym, ap, ◌∙◌, subst, arith, slice_index}
use Rattle.std.specs.List.{starts_with}
use Rattle.std.specs.Cmp.Lexicographic.{pointwise}
use Rattle.std.proofs.lemmas.Bool.{cond_both, false_from_ne_true, false≢true, eqb-true}
use Rattle.std.proofs.lemmas.Option.{none-some}
use Rattle.hex.specs.Hex.{lower_digits, hex_digit_value, IsBytes}
use Rattle.hex.proofs.HexLemmas.{IsDigits-lower_digits}
use Rattle.byte_text.specs.Escapes.{bytes_left, with_byte, hex_escape, escape_of, escaped}
use Rattle.byte_text.specs.declared.escapes.Reading.TheVariants.{Plain, Low}
use Rattle.byte_text.proofs.LowBytes.{rest_bytes, first_byte}
use Rattle.byte_text.proofs.Cuts.{IsWhole, whole_none, whole_append, whole_plain, whole_escape}

-- ---- by the cases of an escape

-- a property of a number holds for an equal number
at_number : (b k : ℕ) (P : ℕ → Type 0) → P k → eqb b k ≡ true → P b
at_number b k P h is = subst P (sym (eqb-true b k is)) h

-- a property of each form of an escape holds for every byte and its escape
by_escape : (b : ℕ) (P : ℕ → List ℕ → Type 0) → P 32 (92 ∷ 115 ∷ []) → P 10 (92 ∷ 110 ∷ []) → P 9 (92 ∷ 116 ∷ []) → P 92 (92 ∷ 92 ∷ []) → P 44 (92 ∷ 44 ∷ [])
    → (eqb b 92 ≡ false → eqb b 44 ≡ false → P b (b ∷ [])) → ((leb 33 b && leb b 126) ≡ false → P b (hex_escape b)) → P b (escape_of b)
by_escape b P space line tab slash comma plain digits =
    cond_both (eqb b 32) _ _ (P b) (at_number b 32 (λ x. P x (92 ∷ 115 ∷ [])) space) (λ _.
    cond_both (eqb b 10) _ _ (P b) (at_number b 10 (λ x. P x (92 ∷ 110 ∷ [])) line) (λ _.
    cond_both (eqb b 9) _ _ (P b) (at_number b 9 (λ x. P x (92 ∷ 116 ∷ [])) tab) (λ _.
    cond_both (eqb b 92) _ _ (P b) (at_number b 92 (λ x. P x (92 ∷ 92 ∷ [])) slash) (λ no_slash.
    cond_both (eqb b 44) _ _ (P b) (at_number b 44 (λ x. P x (92 ∷ 44 ∷ [])) comma) (λ no_comma.
    cond_both (leb 33 b && leb b 126) _ _ (P b) (λ _. plain no_slash no_comma) digits)))))

-- ---- reading

pub reads_digits : (b : ℕ) (rest : List ℕ) → b < 256 → bytes_left Plain (hex_escape b ++ rest) ≡ with_byte (Some b) (bytes_left Plain rest)
reads_digits b rest h =
    let high = IsDigits-lower_digits (b / 16) (omega arith) in
    let low = IsDigits-lower_digits (b % 16) (omega arith) in
    let whole : 16 * (b / 16) + b % 16 ≡ b = omega arith in
    ap (option_and_then (λ (x : ℕ). bytes_left (Low x) (slice_index lower_digits (b % 16) ∷ rest))) high
    ∙ ap (λ (x : Option ℕ). with_byte (option_map (λ (y : ℕ). 16 * (b / 16) + y) x) (bytes_left Plain rest)) low
    ∙ ap (λ (x : ℕ). with_byte (Some x) (bytes_left Plain rest)) whole

reads_escape : (b : ℕ) (rest : List ℕ) → b < 256 → bytes_left Plain (escape_of b ++ rest) ≡ with_byte (Some b) (bytes_left Plain rest)
reads_escape b rest h =
    by_escape b (λ x text. bytes_left Plain (text ++ rest) ≡ with_byte (Some x) (bytes_left Plain rest)) refl refl refl refl refl
    (λ slash comma. rw slash refl) (λ _. reads_digits b rest h)

pub reads_escaped : (bs : List ℕ) → IsBytes bs → bytes_left Plain (escaped bs) ≡ Some bs
reads_escaped [] h = refl
reads_escaped (b ∷ bs) h =
    reads_escape b (escaped bs) (first_byte b bs h) ∙ ap (with_byte (Some b)) (reads_escaped bs (rest_bytes b bs h))

-- ---- no unescaped comma

-- a digit is not a comma or a backslash
other_from_digit : (c d k : ℕ) → hex_digit_value c ≡ Some d → hex_digit_value k ≡ None → eqb c k ≡ false
other_from_digit c d k is none = false_from_ne_true (eqb c k) (λ same.
    none-some d (sym (ap hex_digit_value (eqb-true c k same) ∙ none) ∙ is))

pub whole_digit : (d : ℕ) → d < 16 → IsWhole (slice_index lower_digits d ∷ [])
whole_digit d h =
    let is = IsDigits-lower_digits d h in
    whole_plain (slice_index lower_digits d) (other_from_digit _ d 44 is refl) (other_from_digit _ d 92 is refl)

pub whole_digits : (b : ℕ) → b < 256 → IsWhole (hex_escape b)
whole_digits b h =
    whole_append (92 ∷ 120 ∷ []) (slice_index lower_digits (b / 16) ∷ slice_index lower_digits (b % 16) ∷ []) (whole_escape 120)
    (whole_append (slice_index lower_digits (b / 16) ∷ []) (slice_index lower_digits (b % 16) ∷ []) (whole_digit (b / 16) (omega arith)) (whole_digit (b % 16) (omega arith)))

whole_escape_of : (b : ℕ) → b < 256 → IsWhole (escape_of b)
whole_escape_of b h =
    by_escape b (λ x text. IsWhole text) (whole_escape 115) (whole_escape 110) (whole_escape 116) (whole_escape 92) (whole_escape 44)
    (λ slash comma. whole_plain b comma slash) (λ _. whole_digits b h)

pub whole_escaped : (bs : List ℕ) → IsBytes bs → IsWhole (escaped bs)
whole_escaped [] h = whole_none
whole_escaped (b ∷ bs) h = whole_append (escape_of b) (escaped bs) (whole_escape_of b (first_byte b bs h)) (whole_escaped bs (rest_bytes b bs h))

-- ---- a text has the prefix of its bytes if that prefix needs no escape

abbrev pub stays : ℕ → Bool
stays c = leb 33 c && (leb c 126 && (cond (eqb c 92) false (cond (eqb c 44) false true)))

abbrev pub all_stay : List ℕ → Bool
all_stay [] = true
all_stay (c ∷ cs) = stays c && all_stay cs

all_stay_first : (a b : Bool) → (a && b) ≡ true → a ≡ true
all_stay_first true b h = refl
all_stay_first false b h = h

all_stay_rest : (a b : Bool) → (a && b) ≡ true → b ≡ true
all_stay_rest true b h = h
all_stay_rest false b h = absurd (false≢true h)

outside : (a b c : Bool) → (a && b) ≡ false → (a && (b && c)) ≡ false
outside true true c h = absurd (false≢true (sym h))
outside true false c h = refl
outside false b c h = refl

-- a byte that stays differs from a byte that does not
other_from_stays : (q k : ℕ) → stays q ≡ true → stays k ≡ false → eqb q k ≡ false
other_from_stays q k stay other = false_from_ne_true (eqb q k) (λ same. false≢true (sym other ∙ ap stays (sym (eqb-true q k same)) ∙ stay))

pub same_start : (p bs : List ℕ) → all_stay p ≡ true → starts_with nat_eq (escaped bs) p ≡ starts_with nat_eq bs p
same_start [] bs h = refl
same_start (q ∷ qs) [] h = refl
same_start (q ∷ qs) (b ∷ bs) h =
    let stay = all_stay_first (stays q) (all_stay qs) h in
    let later = same_start qs bs (all_stay_rest (stays q) (all_stay qs) h) in
    let slash = other_from_stays q 92 stay refl in
    by_escape b (λ x text. pointwise nat_eq (q ∷ qs) (take (suc (length qs)) (text ++ escaped bs)) ≡ (eqb q x && pointwise nat_eq qs (take (length qs) bs)))
    (rw (slash, other_from_stays q 32 stay refl) refl)
    (rw (slash, other_from_stays q 10 stay refl) refl)
    (rw (slash, other_from_stays q 9 stay refl) refl)
    (rw slash refl)
    (rw (slash, other_from_stays q 44 stay refl) refl)
    (λ _ _. ap (λ (t : Bool). eqb q b && t) later)
    (λ hidden. rw (slash, other_from_stays q b stay (outside (leb 33 b) (leb b 126) _ hidden)) refl)
