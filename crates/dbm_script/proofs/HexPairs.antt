-- Decoding pairs of hex digits lane by lane, and decoding a concatenation.
use Rattle.std.proofs.Common.{◌≡◌, ◌∙◌, ℕ, zero, suc, ◌+◌, ◌*◌, ◌%◌, ◌<◌, ◌≤◌, List, [], ◌∷◌, ◌++◌, Some, None, Result, Ok, Err, length, map, refl, sym, ap, arith}
use Rattle.std.specs.Simd.Lanes.{Each1}
use Rattle.std.specs.Result.{result_ok}
use Rattle.std.proofs.lemmas.Option.{none-some}
use Rattle.hex.specs.Hex.{decode_pairs, hex_digit_value, pair_value}
use Rattle.hex.specs.declared.error.FromHexError.{FromHexError}
use Rattle.hex.proofs.Pairs.{cons_byte, decode_pairs-ok_pair}
use Rattle.dbm_script.specs.Digits.{joined_digits, lane_value, value_read}
use Rattle.dbm_script.proofs.DigitLemmas.{pair_ok}
use Rattle.dbm_script.proofs.HexWords.{pair_read}
use Rattle.dbm_script.proofs.Vectors.{lane_reads}

joined_byte : (h l : ℕ) → h ≤ 15 → l ≤ 15 → h * 16 + l ≡ (h * 16 % 256 + l) % 256
joined_byte h l sh sl = omega arith

-- if all lanes are at most 15, joining them decodes the text
pub decode_lanes : (i n : ℕ) (text : List ℕ) → length text ≡ 2 * n → Each1 (λ c. c < 256) text → Each1 (λ v. v ≤ 15) (map lane_value text) → decode_pairs i text ≡ Ok (joined_digits (map lane_value text))
unfolding decode_pairs
decode_lanes i n [] long fits small = refl
decode_lanes i n (a ∷ []) long fits small = absurd (omega arith)
decode_lanes i zero (a ∷ b ∷ rest) long fits small = absurd (omega arith)
decode_lanes i (suc n) (a ∷ b ∷ rest) long fits small =
    let h = lane_value a in
    let l = lane_value b in
    let byte : pair_value a b i ≡ Ok ((h * 16 % 256 + l) % 256) = pair_ok a b i h l (lane_reads a fits.0) (lane_reads b fits.1.0) small.0 small.1.0 ∙ ap Ok (joined_byte h l small.0 small.1.0) in
    decode_pairs-ok_pair i a b ((h * 16 % 256 + l) % 256) rest byte
    ∙ ap (cons_byte ((h * 16 % 256 + l) % 256)) (decode_lanes (i + 2) n rest (omega arith) fits.1.1 small.1.1)

small_read : (v : ℕ) (w : ℕ) → value_read v ≡ Some w → v ≤ 15
small_read v w e = grind arith

small_digit : (c v : ℕ) → c < 256 → hex_digit_value c ≡ Some v → lane_value c ≤ 15
small_digit c v fits e = small_read (lane_value c) v (lane_reads c fits ∙ e)

-- all lanes of a valid text are at most 15
pub small_lanes : (i : ℕ) (text out : List ℕ) → decode_pairs i text ≡ Ok out → Each1 (λ c. c < 256) text → Each1 (λ v. v ≤ 15) (map lane_value text)
unfolding decode_pairs
small_lanes i [] out e fits = tt
small_lanes i (a ∷ []) out e fits = let f : ⊥ = cc in absurd f
small_lanes i (a ∷ b ∷ rest) out e fits =
    let read = pair_read a b i (hex_digit_value a) (hex_digit_value b) (decode_pairs (i + 2) rest) out e in
    (small_digit a read.h fits.0 read.high_is, (small_digit b read.l fits.1.0 read.low_is, small_lanes (i + 2) rest read.bytes read.rest_is fits.1.1))

-- ---- concatenation

-- a pair of digits followed by a valid text
read_pair : (a b i : ℕ) (rest : List ℕ) (h l : ℕ) (bytes : List ℕ) → hex_digit_value a ≡ Some h → hex_digit_value b ≡ Some l → decode_pairs (i + 2) rest ≡ Ok bytes → decode_pairs i (a ∷ b ∷ rest) ≡ Ok ((h * 16 + l) ∷ bytes)
unfolding decode_pairs
read_pair a b i rest h l bytes ea eb er = rw (ea, eb, er) refl

-- the start index only matters for errors
read_at : (i j : ℕ) (text out : List ℕ) → decode_pairs i text ≡ Ok out → decode_pairs j text ≡ Ok out
unfolding decode_pairs
read_at i j [] out e = e
read_at i j (a ∷ []) out e = let f : ⊥ = cc in absurd f
read_at i j (a ∷ b ∷ rest) out e =
    let read = pair_read a b i (hex_digit_value a) (hex_digit_value b) (decode_pairs (i + 2) rest) out e in
    let here = read_pair a b i rest read.h read.l read.bytes read.high_is read.low_is read.rest_is in
    let there = read_pair a b j rest read.h read.l read.bytes read.high_is read.low_is (read_at (i + 2) (j + 2) rest read.bytes read.rest_is) in
    there ∙ sym here ∙ e

same_bytes : (x y : List ℕ) (r : Result (List ℕ) FromHexError) → r ≡ Ok x → r ≡ Ok y → x ≡ y
same_bytes x y (Ok z) ex ey = cc
same_bytes x y (Err fault) ex ey = let f : ⊥ = cc in absurd f

-- the concatenation of two valid texts is valid
pub read_both : (i : ℕ) (a b x y : List ℕ) → decode_pairs i a ≡ Ok x → decode_pairs 0 b ≡ Ok y → decode_pairs i (a ++ b) ≡ Ok (x ++ y)
unfolding decode_pairs
read_both i [] b x y ea eb =
    let empty : [] ≡ x = cc in
    read_at 0 i b y eb ∙ ap (λ (xs : List ℕ). Ok (xs ++ y)) empty
read_both i (c ∷ []) b x y ea eb = let f : ⊥ = cc in absurd f
read_both i (c ∷ d ∷ rest) b x y ea eb =
    let read = pair_read c d i (hex_digit_value c) (hex_digit_value d) (decode_pairs (i + 2) rest) x ea in
    let here = read_pair c d i rest read.h read.l read.bytes read.high_is read.low_is read.rest_is in
    let bytes : (read.h * 16 + read.l) ∷ read.bytes ≡ x = same_bytes _ x (decode_pairs i (c ∷ d ∷ rest)) here ea in
    read_pair c d i (rest ++ b) read.h read.l (read.bytes ++ y) read.high_is read.low_is (read_both (i + 2) rest b read.bytes y read.rest_is eb)
    ∙ ap (λ (xs : List ℕ). Ok (xs ++ y)) bytes

-- the decoded bytes of two valid texts
pub record AreRead (a b : List ℕ) : Type 0 where
  pub x : List ℕ
  pub y : List ℕ
  pub first : decode_pairs 0 a ≡ Ok x
  pub second : decode_pairs 0 b ≡ Ok y

read_parts : (i n : ℕ) (a b out : List ℕ) → length a ≡ 2 * n → decode_pairs i (a ++ b) ≡ Ok out → AreRead a b
unfolding decode_pairs
read_parts i n [] b out long e = record { x = []; y = out; first = refl; second = read_at i 0 b out e }
read_parts i n (c ∷ []) b out long e = absurd (omega arith)
read_parts i zero (c ∷ d ∷ rest) b out long e = absurd (omega arith)
read_parts i (suc n) (c ∷ d ∷ rest) b out long e =
    let read = pair_read c d i (hex_digit_value c) (hex_digit_value d) (decode_pairs (i + 2) (rest ++ b)) out e in
    let others = read_parts (i + 2) n rest b read.bytes (omega arith) read.rest_is in
    record {
      x = (read.h * 16 + read.l) ∷ others.x;
      y = others.y;
      first = read_pair c d 0 rest read.h read.l others.x read.high_is read.low_is (read_at 0 2 rest others.x others.first);
      second = others.second;
    }

none_read : (r : Result (List ℕ) FromHexError) → ((out : List ℕ) → r ≡ Ok out → ⊥) → result_ok r ≡ None
none_read (Ok out) never = absurd (never out refl)
none_read (Err fault) never = refl

unread : (r : Result (List ℕ) FromHexError) (out : List ℕ) → result_ok r ≡ None → r ≡ Ok out → ⊥
unread r out none is = none-some out (sym none ∙ ap result_ok is)

-- if the first text is invalid, the concatenation is invalid
pub first_unread : (n : ℕ) (a b : List ℕ) → length a ≡ 2 * n → result_ok (decode_pairs 0 a) ≡ None → result_ok (decode_pairs 0 (a ++ b)) ≡ None
first_unread n a b long none = none_read (decode_pairs 0 (a ++ b)) (λ out e. let parts = read_parts 0 n a b out long e in unread (decode_pairs 0 a) parts.x none parts.first)

pub second_unread : (n : ℕ) (a b : List ℕ) → length a ≡ 2 * n → result_ok (decode_pairs 0 b) ≡ None → result_ok (decode_pairs 0 (a ++ b)) ≡ None
second_unread n a b long none = none_read (decode_pairs 0 (a ++ b)) (λ out e. let parts = read_parts 0 n a b out long e in unread (decode_pairs 0 b) parts.y none parts.second)

-- a text with a lane above 15 is invalid
pub lanes_unread : (text : List ℕ) → Each1 (λ c. c < 256) text → (Each1 (λ v. v ≤ 15) (map lane_value text) → ⊥) → result_ok (decode_pairs 0 text) ≡ None
lanes_unread text fits large = none_read (decode_pairs 0 text) (λ out e. large (small_lanes 0 text out e fits))
