-- Lemmas on hex digits, read by table, and on pairs of them.
use Rattle.std.proofs.Common.{◌≡◌, ◌∙◌, ℕ, zero, suc, ◌+◌, ◌*◌, ◌<◌, ◌≤◌, true, List, [], ◌∷◌, Option, Some, None, Ok, Err, length, take, drop, slice_index, slice_index_or, refl, sym, ap, arith, add-zero}
use Rattle.std.proofs.lemmas.Bool.{and_parts, eqb-true, true≢false}
use Rattle.std.specs.Result.{result_ok}
use Rattle.hex.specs.Hex.{hex_digit_value, pair_value, decode_pairs}
use Rattle.hex.specs.declared.error.FromHexError.{FromHexError}
use Rattle.hex.specs.declared.error.FromHexError.TheVariants.{InvalidHexCharacter}
use Rattle.hex.proofs.Pairs.{prepend, decode_err}
use Rattle.dbm_script.specs.Digits.{are_values, is_same, value_read}

pub same_so : (a b : Option ℕ) → is_same a b ≡ true → a ≡ b
same_so None None h = refl
same_so None (Some w) h = absurd (true≢false (sym h))
same_so (Some v) None h = absurd (true≢false (sym h))
same_so (Some v) (Some w) h = ap Some (eqb-true v w h)

pub value_in : (vs : List ℕ) (c i : ℕ) → are_values vs c ≡ true → i < length vs → value_read (slice_index_or vs i 0) ≡ hex_digit_value (c + i)
value_in [] c i all within = absurd (omega (arith, within))
value_in (v ∷ vs) c zero all within =
    let parts = and_parts (is_same (value_read v) (hex_digit_value c)) (are_values vs (c + 1)) all in
    same_so (value_read v) (hex_digit_value c) parts.0 ∙ ap hex_digit_value (sym (add-zero c))
value_in (v ∷ vs) c (suc i) all within =
    let parts = and_parts (is_same (value_read v) (hex_digit_value c)) (are_values vs (c + 1)) all in
    let next : c + 1 + i ≡ c + suc i = omega arith in
    value_in vs (c + 1) i parts.1 (omega arith) ∙ ap hex_digit_value next

read_small : (v : ℕ) → v ≤ 15 → value_read v ≡ Some v
read_small v small = grind arith

pub read_large : (v : ℕ) → 15 < v → value_read v ≡ None
read_large v large = grind arith

-- a pair of valid digits
pub pair_ok : (a b i h l : ℕ) → value_read h ≡ hex_digit_value a → value_read l ≡ hex_digit_value b → h ≤ 15 → l ≤ 15 → pair_value a b i ≡ Ok (h * 16 + l)
pair_ok a b i h l ea eb small_h small_l =
    rw (sym ea ∙ read_small h small_h, sym eb ∙ read_small l small_l) refl

-- a pair with an invalid digit
pub pair_high : (a b i h : ℕ) → value_read h ≡ hex_digit_value a → 15 < h → pair_value a b i ≡ Err (InvalidHexCharacter a i)
pair_high a b i h ea large = rw (sym ea ∙ read_large h large) refl

pub pair_low : (a b i h l : ℕ) → value_read h ≡ hex_digit_value a → value_read l ≡ hex_digit_value b → h ≤ 15 → 15 < l → pair_value a b i ≡ Err (InvalidHexCharacter b (i + 1))
pair_low a b i h l ea eb small large = rw (sym ea ∙ read_small h small, sym eb ∙ read_large l large) refl

-- a text with an invalid pair is not hex
pub refused : (s out : List ℕ) (i : ℕ) (e : FromHexError) → 2 * i + 1 < length s → pair_value (slice_index s (2 * i)) (slice_index s (2 * i + 1)) (2 * i) ≡ Err e
    → decode_pairs 0 s ≡ prepend (take i out) (decode_pairs (2 * i) (drop (2 * i) s)) → result_ok (decode_pairs 0 s) ≡ None
refused s out i e fits bad inv = ap result_ok (decode_err s out i e fits bad inv)
