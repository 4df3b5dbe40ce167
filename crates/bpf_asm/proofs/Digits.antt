-- Reading back printed numbers.
use Rattle.std.proofs.Common.{◌≡◌, ℕ, zero, suc, ◌-◌, ◌≤◌, ◌<◌, ◌^◌, ◌==◌, ◌&&◌, ◌∷◌, ◌++◌, [], List, Some, None, Bool, true, false, length, get_or, slice_index, refl, ◌∙◌, ap, arith, rules, lit<, lit≤, ℤ, pos, negsuc, neg_ℤ, FitsSigned, w16, w32}
use Rattle.std.specs.Prelude.{replicate}
use Rattle.std.specs.Option.{option_map}
use Rattle.std.specs.Fmt.{decimal, signed_decimal, digits, padded_integral, char_count, format_spec}
use Rattle.std.specs.Str.Parse.{AllDigits, digits_value}
use Rattle.std.proofs.lemmas.List.{append-nil}
use Rattle.std.proofs.lemmas.Bool.{ne_eqb, le-leb}
use Rattle.std.proofs.lemmas.Str.Parse.{digit_from_value}
use Rattle.std.proofs.lemmas.Fmt.{decimal_is_IsNumeral, digits_is_IsNumeral}
use Rattle.bpf_asm.specs.Words.{register, numeral, is_hex, magnitude, number, within, word, long, distance, near, far, is_name}
use Rattle.bpf_asm.specs.Printed.{distance_text, long_text}
use Rattle.bpf_asm.proofs.Numbers.{numeral_from}

-- ---- decimals

digit_byte : (ds : List ℕ) (i : ℕ) → AllDigits 10 ds → get_or ds i 0 ≤ 57
digit_byte [] zero h = omega arith
digit_byte [] (suc i) h = omega arith
digit_byte (c ∷ cs) zero h = (digit_from_value c h.0).1
digit_byte (c ∷ cs) (suc i) h = digit_byte cs i h.1

digit_first : (ds : List ℕ) → 0 < length ds → AllDigits 10 ds → 48 ≤ get_or ds 0 0
digit_first [] l h = absurd (omega arith)
digit_first (c ∷ cs) l h = (digit_from_value c h.0).0

and_false : (p q : Bool) → q ≡ false → (p && q) ≡ false
and_false true q e = e
and_false false q e = refl

numeral_decimal : (n : ℕ) → n < 2 ^ 64 → numeral 10 (decimal n) ≡ Some n
numeral_decimal n h = let d = decimal_is_IsNumeral n h in numeral_from 10 (decimal n) d.0 ∙ ap Some d.1

magnitude_decimal : (n : ℕ) → n < 2 ^ 64 → magnitude (decimal n) ≡ Some n
unfolding magnitude
magnitude_decimal n h =
    let d = decimal_is_IsNumeral n h in
    let b = digit_byte (decimal n) 1 d.0.1 in
    let t : (slice_index (decimal n) 1 == 120) ≡ false = ne_eqb _ _ (λ e. absurd (omega (arith, b, e))) in
    let hex : is_hex (decimal n) ≡ false = and_false (slice_index (decimal n) 0 == 48) (slice_index (decimal n) 1 == 120) t in
    rw hex (numeral_decimal n h)

number_back : (k : ℤ) → FitsSigned w32 k → number (signed_decimal k) ≡ Some k
unfolding number
number_back (pos n) h =
    let l : n < 2 ^ 64 = omega arith in
    let d = decimal_is_IsNumeral n l in
    let b = digit_first (decimal n) d.0.0 d.0.1 in
    let t : (slice_index (decimal n) 0 == 45) ≡ false = ne_eqb _ _ (λ e. absurd (omega (arith, b, e))) in
    rw t (ap (option_map (λ m. pos m)) (magnitude_decimal n l))
number_back (negsuc n) h = ap (option_map (λ m. neg_ℤ (pos m))) (magnitude_decimal (suc n) (omega arith))

within32 : (k : ℤ) → FitsSigned w32 k → within (neg_ℤ (pos 2147483648)) (pos 2147483647) k ≡ Some k
within32 (pos n) h = rw (le-leb n 2147483647 (omega arith)) refl
within32 (negsuc n) h = rw (le-leb n 2147483647 (omega arith)) refl

within16 : (k : ℤ) → FitsSigned w16 k → within (neg_ℤ (pos 32768)) (pos 32767) k ≡ Some k
within16 (pos n) h = rw (le-leb n 32767 (omega arith)) refl
within16 (negsuc n) h = rw (le-leb n 32767 (omega arith)) refl

pub word_back : (k : ℤ) → FitsSigned w32 k → word (signed_decimal k) ≡ Some k
unfolding word
word_back k h = rw (number_back k h) (within32 k h)

-- a number does not begin with the letter of a register
pub not_register : (k : ℤ) → FitsSigned w32 k → register (signed_decimal k) ≡ None
not_register k h = register_none (signed_decimal k) (first k h) where
  first : (k : ℤ) → FitsSigned w32 k → (slice_index (signed_decimal k) 0 == 114) ≡ false
  first (pos n) h =
      let d = decimal_is_IsNumeral n (omega arith) in
      let b = digit_byte (decimal n) 0 d.0.1 in
      ne_eqb _ _ (λ e. absurd (omega (arith, b, e)))
  first (negsuc n) h = refl

  register_none : (bs : List ℕ) → (slice_index bs 0 == 114) ≡ false → register bs ≡ None
  register_none [] e = refl
  register_none (r ∷ []) e = refl
  register_none (r ∷ d ∷ []) e = rw e refl
  register_none (r ∷ a ∷ b ∷ []) e = rw e refl
  register_none (r ∷ a ∷ b ∷ c ∷ more) e = refl

-- ---- distances

distance_back : (k : ℤ) → FitsSigned w32 k → distance (distance_text k) ≡ Some k
unfolding distance
distance_back (pos n) h = ap (option_map (λ m. pos m)) (numeral_decimal n (omega arith))
distance_back (negsuc n) h = ap (option_map (λ m. neg_ℤ (pos m))) (numeral_decimal (suc n) (omega arith))

pub widened : (k : ℤ) → FitsSigned w16 k → FitsSigned w32 k
widened (pos n) h = omega arith
widened (negsuc n) h = omega arith

pub near_back : (k : ℤ) → FitsSigned w16 k → near (distance_text k) ≡ Some k
unfolding near
near_back k h = rw (distance_back k (widened k h)) (within16 k h)

pub far_back : (k : ℤ) → FitsSigned w32 k → far (distance_text k) ≡ Some k
unfolding far
far_back k h = rw (distance_back k h) (within32 k h)

-- a distance is not a name
pub not_name : (k : ℤ) → is_name (distance_text k) ≡ false
unfolding is_name
not_name (pos n) = search (no_start, rules) where
  no_start : (p q : Bool) → (p && false && q) ≡ false
  no_start true q = refl
  no_start false q = refl
not_name (negsuc n) = search (no_start, rules) where
  no_start : (p q : Bool) → (p && false && q) ≡ false
  no_start true q = refl
  no_start false q = refl

-- ---- sixteen hex digits

pub padded16 : (ds : List ℕ) → padded_integral (format_spec 32 0 4 16 (2 ^ 64 - 1)) false [] ds ≡ replicate (16 - length ds) 48 ++ ds
unfolding padded_integral char_count
padded16 ds =
    let k : 16 - length ds - 0 - 0 ≡ 16 - length ds = omega arith in
    ap (λ n. replicate n 48 ++ (ds ++ [])) k ∙ ap (λ (xs : List ℕ). replicate (16 - length ds) 48 ++ xs) (append-nil ds)

zeros_value : (k : ℕ) (ds : List ℕ) → digits_value 16 (replicate k 48 ++ ds) ≡ digits_value 16 ds
zeros_value zero ds = refl
zeros_value (suc k) ds = zeros_value k ds

zeros_digits : (k : ℕ) (ds : List ℕ) → AllDigits 16 ds → AllDigits 16 (replicate k 48 ++ ds)
zeros_digits zero ds h = h
zeros_digits (suc k) ds h = (lit< tt, zeros_digits k ds h)

zeros_some : (k : ℕ) (ds : List ℕ) → 0 < length ds → 0 < length (replicate k 48 ++ ds)
zeros_some zero ds h = h
zeros_some (suc k) ds h = omega arith

numeral_hex : (k n : ℕ) → n < 2 ^ 64 → numeral 16 (replicate k 48 ++ digits 16 false n) ≡ Some n
numeral_hex k n h =
    let d = digits_is_IsNumeral 16 false (lit≤ tt) (lit≤ tt) n (wide n h) in
    numeral_from 16 (replicate k 48 ++ digits 16 false n) (zeros_some k (digits 16 false n) d.0.0, zeros_digits k (digits 16 false n) d.0.1) ∙ ap Some (zeros_value k (digits 16 false n) ∙ d.1)
  where
    wide : (n : ℕ) → n < 2 ^ 64 → n < 16 ^ 64
    wide n h = omega (arith, h)

within64 : (n : ℕ) → n < 2 ^ 64 → within (neg_ℤ (pos 9223372036854775808)) (pos 18446744073709551615) (pos n) ≡ Some (pos n)
within64 n h = rw (le-leb n 18446744073709551615 (omega arith)) refl

pub long_back : (n : ℕ) → n < 2 ^ 64 → long (long_text n) ≡ Some n
unfolding long number magnitude
long_back n h = rw (numeral_hex (16 - length (digits 16 false n)) n h, within64 n h) refl
