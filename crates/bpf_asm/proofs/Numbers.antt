-- Printed digits, and the standard library's parsing of them.
use Rattle.std.proofs.Common.{◌≡◌, ℕ, ◌<◌, ◌≤◌, ◌^◌, ◌&&◌, ◌∷◌, [], List, length, slice_index, Bool, true, false, cond, nat_lt, Some, None, IfSome, refl, zero, suc, ◌∙◌, ap, arith, rules}
use Rattle.std.specs.List.{list_all}
use Rattle.std.specs.Char.{digit_value}
use Rattle.std.specs.Str.{IsUtf8, IsAscii}
use Rattle.std.specs.Str.Parse.{AllDigits, IsNumeral, digits_value, without_leading_plus}
use Rattle.std.proofs.lemmas.Bool.{ltb-true, lt-ltb, ne_eqb}
use Rattle.std.proofs.lemmas.Bool.Decides.{nat_tests}
use Rattle.std.proofs.lemmas.Str.{IsUtf8-from_ascii}
use Rattle.bpf_asm.specs.Words.{is_numeral, numeral}

both_true : (a b : Bool) → (a && b) ≡ true → (a ≡ true) × (b ≡ true)
both_true true b e = (refl, e)
both_true false b e = cc

and_true : (a b : Bool) → a ≡ true → b ≡ true → (a && b) ≡ true
and_true a b e f = rw (e, f) refl

all_from : (radix : ℕ) (ds : List ℕ) → AllDigits radix ds → list_all (λ c. nat_lt (digit_value c) radix) ds ≡ true
all_from radix [] h = refl
all_from radix (c ∷ cs) h = and_true _ _ (lt-ltb _ _ h.0) (all_from radix cs h.1)

all_to : (radix : ℕ) (ds : List ℕ) → list_all (λ c. nat_lt (digit_value c) radix) ds ≡ true → AllDigits radix ds
all_to radix [] h = tt
all_to radix (c ∷ cs) h = let b = both_true (nat_lt (digit_value c) radix) _ h in (ltb-true _ _ b.0, all_to radix cs b.1)

pub numeral_from : (radix : ℕ) (ds : List ℕ) → IsNumeral radix ds → numeral radix ds ≡ Some (digits_value radix ds)
unfolding numeral
numeral_from radix ds h = rw (and_true _ _ (lt-ltb _ _ h.0) (all_from radix ds h.1)) refl

-- a property of numerals, by cases on the test
pub numeral_cases : (radix : ℕ) (ds : List ℕ) (P : ℕ → Type 0) → (IsNumeral radix ds → P (digits_value radix ds)) → IfSome (numeral radix ds) P
unfolding numeral
numeral_cases radix ds P h = from_test (is_numeral radix ds) (λ e. let b = both_true _ _ e in h (ltb-true _ _ b.0, all_to radix ds b.1)) where
  from_test : (t : Bool) → (t ≡ true → P (digits_value radix ds)) → IfSome (cond t (Some (digits_value radix ds)) None) P
  from_test true k = k refl
  from_test false k = tt

unplussed : (ds : List ℕ) → (slice_index ds 0 ≡ 43 → ⊥) → without_leading_plus ds ≡ ds
unplussed ds h = rw (ne_eqb _ _ h) refl

pub numeral_ok : (radix : ℕ) (ds : List ℕ) (n : ℕ) → (slice_index ds 0 ≡ 43 → ⊥) → IsNumeral radix (without_leading_plus ds) → digits_value radix (without_leading_plus ds) ≡ n → numeral radix ds ≡ Some n
numeral_ok radix ds n h is e =
    let u = unplussed ds h in
    numeral_from radix ds (rw u at is) ∙ ap Some (rw u at e)

le_unless_lt : (a b : ℕ) → (b < a → ⊥) → a ≤ b
le_unless_lt a b h = omega arith

pub numeral_large : (radix : ℕ) (ds : List ℕ) → (slice_index ds 0 ≡ 43 → ⊥) → (IsNumeral radix (without_leading_plus ds) × (digits_value radix (without_leading_plus ds) < 2 ^ 64) → ⊥) → IfSome (numeral radix ds) (λ n. 2 ^ 64 ≤ n)
numeral_large radix ds h bad =
    let u = unplussed ds h in
    let bad2 = rw u at bad in
    numeral_cases radix ds (λ n. 2 ^ 64 ≤ n) (λ is. le_unless_lt _ _ (λ l. bad2 (is, l)))

small : (c : ℕ) → digit_value c < 16 → c < 128
small c h = grind (arith, nat_tests)

digits_ascii : (radix : ℕ) (ds : List ℕ) → radix ≤ 16 → AllDigits radix ds → IsAscii ds
digits_ascii radix [] le h i = search rules
digits_ascii radix (c ∷ cs) le h zero = small c (omega (arith, h.0))
digits_ascii radix (c ∷ cs) le h (suc i) = digits_ascii radix cs le h.1 i

pub numeral_utf8 : (radix : ℕ) (ds : List ℕ) → radix ≤ 16 → (IsUtf8 ds → ⊥) → IfSome (numeral radix ds) (λ n. 2 ^ 64 ≤ n)
numeral_utf8 radix ds le h = numeral_cases radix ds _ (λ is. absurd (h (IsUtf8-from_ascii ds (digits_ascii radix ds le is.1))))

-- digits do not begin with a plus
pub no_plus : (radix : ℕ) (ds : List ℕ) → radix ≤ 16 → is_numeral radix ds ≡ true → slice_index ds 0 ≡ 43 → ⊥
no_plus radix [] le h e = cc
no_plus radix (c ∷ cs) le h e =
    let b = both_true (nat_lt (digit_value c) radix) _ (both_true (nat_lt 0 (length (c ∷ cs))) _ h).1 in
    let l : digit_value c < radix = ltb-true _ _ b.0 in
    let k : digit_value c ≡ 36 = ap digit_value e in
    omega (arith, l, k)
