-- Numbers and their bytes.
use Rattle.std.proofs.Common.{◌≡◌, ℕ, zero, suc, ◌+◌, ◌-◌, ◌*◌, ◌/◌, ◌%◌, ◌<◌, ◌≤◌, ◌^◌, List, [], ◌∷◌, length, take, drop, Some, option_map, eqb, false, refl, sym, ap, ◌∙◌, subst, arith, decimal, pow-suc}
use Rattle.std.specs.Prelude.{nat_lt}
use Rattle.std.specs.Char.{digit_value}
use Rattle.std.specs.Str.Parse.{IsNumeral}
use Rattle.std.proofs.lemmas.Fmt.{decimal_is_IsNumeral}
use Rattle.std.proofs.lemmas.List.{take_rest}
use Rattle.std.proofs.lemmas.Bool.{cond_both, false_from_ne_true, eqb-true}
use Rattle.hex.specs.Hex.{IsBytes}
use Rattle.byte_text.specs.Numbers.{number_of, signed_of, signed_text, negated, low_bytes, number_in}
use Rattle.byte_text.specs.Text.{number_bytes}
use Rattle.byte_text.proofs.Decimals.{number_is}

pub rest_bytes : (b : ℕ) (bs : List ℕ) → IsBytes (b ∷ bs) → IsBytes bs
rest_bytes b bs h = λ i. h (suc i)

pub first_byte : (b : ℕ) (bs : List ℕ) → IsBytes (b ∷ bs) → b < 256
first_byte b bs h = h 0

pub number_in-small : (bs : List ℕ) (k : ℕ) → length bs ≤ k → IsBytes bs → number_in bs < 256 ^ k
number_in-small [] zero len h = omega arith
number_in-small [] (suc k) len h =
    let small = number_in-small [] k (omega arith) h in
    rw (pow-suc 256 k) (omega arith)
number_in-small (b ∷ bs) zero len h = absurd (omega arith)
number_in-small (b ∷ bs) (suc k) len h =
    let first : b < 256 = h 0 in
    let rest = number_in-small bs k (omega arith) (rest_bytes b bs h) in
    rw (pow-suc 256 k) (omega arith)

pub low_bytes-number_in : (bs : List ℕ) → IsBytes bs → low_bytes (length bs) (number_in bs) ≡ bs
low_bytes-number_in [] h = refl
low_bytes-number_in (b ∷ bs) h =
    let first : b < 256 = h 0 in
    let low : (b + 256 * number_in bs) % 256 ≡ b = omega arith in
    let high : (b + 256 * number_in bs) / 256 ≡ number_in bs = omega arith in
    rw (low, high) (ap (λ (xs : List ℕ). b ∷ xs) (low_bytes-number_in bs (rest_bytes b bs h)))

-- the bytes of eight after the first
pub rest-small : (bs : List ℕ) → IsBytes bs → length bs ≤ 8 → number_in (take (length bs - 1) (drop 1 bs)) < 2 ^ 56
rest-small bs h len = subst (λ (xs : List ℕ). number_in xs < 2 ^ 56) (sym (take_rest bs 1)) (by_list bs h len)
  where
    by_list : (xs : List ℕ) → IsBytes xs → length xs ≤ 8 → number_in (drop 1 xs) < 2 ^ 56
    by_list [] h len = omega arith
    by_list (x ∷ xs) h len = number_in-small xs 7 (omega arith) (rest_bytes x xs h)

-- one more byte
pub low_bytes-some : (width n : ℕ) → 0 < width → low_bytes width n ≡ n % 256 ∷ low_bytes (width - 1) (n / 256)
low_bytes-some zero n h = absurd (omega arith)
low_bytes-some (suc width) n h =
    let same : suc width - 1 ≡ width = omega arith in
    ap (λ k. n % 256 ∷ low_bytes k (n / 256)) (sym same)

-- the bytes of a number from its decimal
pub number_bytes-decimal : (width most : ℕ) (bs : List ℕ) → length bs ≡ width → IsBytes bs → number_in bs ≤ most → most < 2 ^ 64
    → number_bytes width most (decimal (number_in bs)) ≡ Some bs
number_bytes-decimal width most bs len h within fits =
    ap (option_map (low_bytes width)) (sym (number_is most (decimal (number_in bs)) (number_in bs) (omega arith) within refl))
    ∙ ap Some (ap (λ k. low_bytes k (number_in bs)) (sym len) ∙ low_bytes-number_in bs h)

-- ---- signed numbers

-- a decimal does not start with a minus sign
pub signed_of-decimal : (n : ℕ) → n < 2 ^ 64 → signed_of (decimal n) ≡ number_of 9223372036854775807 (decimal n)
signed_of-decimal n h = by_digits (decimal n) (decimal_is_IsNumeral n h).0
  where
    by_digits : (ds : List ℕ) → IsNumeral 10 ds → signed_of ds ≡ number_of 9223372036854775807 ds
    by_digits [] d = absurd (omega (arith, d.0))
    by_digits (c ∷ cs) d =
        let digit : digit_value c < 10 = d.1.0 in
        let other : eqb c 45 ≡ false = false_from_ne_true (eqb c 45) (λ is.
        let bad : digit_value 45 < 10 = subst (λ x. digit_value x < 10) (eqb-true c 45 is) digit in absurd (omega (arith, bad))) in
        rw other refl

pub signed_of-signed_text : (word : ℕ) → word < 2 ^ 64 → signed_of (signed_text word) ≡ Some word
signed_of-signed_text word h =
    cond_both (nat_lt word 9223372036854775808) (decimal word) (45 ∷ decimal (18446744073709551616 - word)) (λ text. signed_of text ≡ Some word)
    (λ low.
    let within : word ≤ 9223372036854775807 = grind (arith, low) in
    signed_of-decimal word h ∙ sym (number_is 9223372036854775807 (decimal word) word h within refl))
    (λ high.
    let large : 9223372036854775808 ≤ word = grind (arith, high) in
    let less : 18446744073709551616 - word ≤ 9223372036854775808 = omega arith in
    let some : eqb (18446744073709551616 - word) 0 ≡ false = grind arith in
    let back : 18446744073709551616 - (18446744073709551616 - word) ≡ word = omega arith in
    ap (option_map negated) (sym (number_is 9223372036854775808 (decimal (18446744073709551616 - word)) (18446744073709551616 - word) (omega arith) less refl))
    ∙ ap Some (rw some back))
