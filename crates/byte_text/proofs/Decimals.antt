-- Texts that are decimals of numbers.
use Rattle.std.proofs.Common.{◌≡◌, ℕ, ◌<◌, ◌≤◌, ◌^◌, List, Bool, true, false, Option, Some, None, refl, sym, ap, ◌∙◌, subst, arith, decimal}
use Rattle.std.specs.Prelude.{nat_le}
use Rattle.std.specs.Str.{bytes_eq, IsUtf8}
use Rattle.std.specs.Str.Parse.{digits_value}
use Rattle.std.proofs.lemmas.Option.{same_Some, none-some}
use Rattle.std.proofs.lemmas.Fmt.{decimal_is_IsNumeral, IsAscii-decimal}
use Rattle.std.proofs.lemmas.Str.{IsUtf8-from_ascii}
use Rattle.std.proofs.lemmas.Slice.Eq.{bytes_eq-Decides}
use Rattle.byte_text.specs.Numbers.{number_of, written}

-- reading a decimal returns its number
pub read_back : (n : ℕ) (text : List ℕ) → n < 2 ^ 64 → text ≡ decimal n → digits_value 10 text ≡ n
read_back n text h is = ap (digits_value 10) is ∙ (decimal_is_IsNumeral n h).1

pub decimal_is_text : (n : ℕ) (text : List ℕ) → n < 2 ^ 64 → text ≡ decimal n → IsUtf8 text
decimal_is_text n text h is = subst IsUtf8 (sym is) (IsUtf8-from_ascii (decimal n) (IsAscii-decimal n h))

nat_le_true : (a b : ℕ) → a ≤ b → nat_le a b ≡ true
nat_le_true a b h = grind arith

is_written : (most : ℕ) (text : List ℕ) (n : ℕ) → n ≤ most → text ≡ decimal n → written most text n ≡ Some n
is_written most text n within is =
    rw ((bytes_eq-Decides text (decimal n)).1 is, nat_le_true n most within) refl

pub number_is : (most : ℕ) (text : List ℕ) (n : ℕ) → n < 2 ^ 64 → n ≤ most → text ≡ decimal n → Some n ≡ number_of most text
unfolding number_of
number_is most text n small within is =
    sym (ap (written most text) (read_back n text small is) ∙ is_written most text n within is)

nat_le_within : (a b : ℕ) → nat_le a b ≡ true → a ≤ b
nat_le_within a b h = grind arith

written_none : (most : ℕ) (text : List ℕ) (n : ℕ) (a b : Bool) → bytes_eq text (decimal n) ≡ a → nat_le n most ≡ b → (n ≤ most → text ≡ decimal n → ⊥) → None ≡ written most text n
written_none most text n false b e f none = rw e refl
written_none most text n true false e f none = rw (e, f) refl
written_none most text n true true e f none = absurd (none (nat_le_within n most f) ((bytes_eq-Decides text (decimal n)).0 e))

pub no_number : (most : ℕ) (text : List ℕ) → ((n : ℕ) → n ≤ most → text ≡ decimal n → ⊥) → None ≡ number_of most text
unfolding number_of
no_number most text none =
    written_none most text (digits_value 10 text) (bytes_eq text (decimal (digits_value 10 text))) (nat_le (digits_value 10 text) most) refl refl (none (digits_value 10 text))

-- the number that was read is not below the bound, or the text is not its decimal
pub refuted : (most : ℕ) (text : List ℕ) (number : ℕ) (r : Option ℕ) → most < 2 ^ 64 → ((n : ℕ) → n < 2 ^ 64 → text ≡ decimal n → r ≡ Some n) → r ≡ Some number
    → (number ≤ most → text ≡ decimal number → ⊥) → None ≡ number_of most text
refuted most text number r small gives is none = no_number most text (λ n within eq.
    let same : number ≡ n = same_Some number n (sym is ∙ gives n (omega arith) eq) in
    none (subst (λ (m : ℕ). m ≤ most) (sym same) within) (eq ∙ ap decimal (sym same)))

-- no number is read
pub unread : (most : ℕ) (text : List ℕ) (r : Option ℕ) → most < 2 ^ 64 → ((n : ℕ) → n < 2 ^ 64 → text ≡ decimal n → r ≡ Some n) → r ≡ None → None ≡ number_of most text
unread most text r small gives is = no_number most text (λ n within eq. none-some n (sym is ∙ gives n (omega arith) eq))
