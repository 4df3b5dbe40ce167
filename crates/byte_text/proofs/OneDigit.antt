-- Texts of one byte, as numbers.
use Rattle.std.proofs.Common.{◌≡◌, ℕ, ◌+◌, ◌<◌, ◌≤◌, ◌^◌, [], ◌∷◌, Some, None, subst, sym, ap, ◌∙◌, arith, decimal}
use Rattle.std.specs.Str.Parse.{AllDigits}
use Rattle.std.proofs.lemmas.Fmt.{decimal_digit, decimal_is_IsNumeral}
use Rattle.std.proofs.lemmas.Str.Parse.{digit_from_value}
use Rattle.byte_text.specs.Numbers.{number_of}
use Rattle.byte_text.proofs.Decimals.{number_is, no_number, read_back}

-- a digit is the decimal of its value
digit_here : (c d : ℕ) → d ≤ 9 → c ≡ 48 + d → c ∷ [] ≡ decimal d
digit_here c d h is = ap (λ (b : ℕ). b ∷ []) is ∙ sym (decimal_digit d (omega arith))

-- a digit within the bound, a digit above it, and a byte that is not a digit
pub digit_is : (most c d : ℕ) → d ≤ 9 → c ≡ 48 + d → d ≤ most → Some d ≡ number_of most (c ∷ [])
digit_is most c d h is within = number_is most (c ∷ []) d (omega arith) within (digit_here c d h is)

pub digit_above : (most c d : ℕ) → d ≤ 9 → c ≡ 48 + d → most < d → None ≡ number_of most (c ∷ [])
digit_above most c d h is over = no_number most (c ∷ []) (λ n within eq.
    let same : n ≡ d = sym (read_back n (c ∷ []) (omega arith) eq) ∙ read_back d (c ∷ []) (omega arith) (digit_here c d h is) in
    absurd (omega arith))

not_decimal : (n c : ℕ) → n < 2 ^ 64 → c ∷ [] ≡ decimal n → (48 ≤ c → c ≤ 57 → ⊥) → ⊥
not_decimal n c small is none =
    let digits : AllDigits 10 (c ∷ []) = subst (AllDigits 10) (sym is) ((decimal_is_IsNumeral n small).0).1 in
    let range = digit_from_value c digits.0 in
    none (omega arith) (omega arith)

pub no_digit : (most c : ℕ) → most < 2 ^ 64 → (48 ≤ c → c ≤ 57 → ⊥) → None ≡ number_of most (c ∷ [])
no_digit most c small none = no_number most (c ∷ []) (λ n within is. not_decimal n c (omega arith) is none)
