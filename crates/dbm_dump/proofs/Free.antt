-- Texts that do not contain a byte: hex, decimals and base64.
use Rattle.std.proofs.Common.{◌≡◌, ℕ, ◌+◌, ◌*◌, ◌/◌, ◌%◌, ◌<◌, ◌^◌, Bool, true, false, cond, List, [], ◌∷◌, ◌++◌, length, get_or, replicate, decimal, refl, ap, ◌∙◌, inl, inr, arith, eqb}
use Rattle.std.specs.List.{All}
use Rattle.std.proofs.lemmas.Bool.{cases_lt, ne_eqb}
use Rattle.std.proofs.lemmas.Fmt.{decimal_by_steps}
use Rattle.std.proofs.lemmas.List.{get_or_past}
use Rattle.std.proofs.lemmas.List.Elements.{All-append, All-cons, All-get_or, All-nil, All-replicate}
use Rattle.hex.specs.Hex.{encode_with, encode_lower, lower_digits}
use Rattle.base64.specs.Engines.{standard}
use Rattle.base64.specs.GeneralPurpose.{encode_of}
use Rattle.base64.specs.Rfc4648.{encode_symbols, padding_len}
use Rattle.dbm_script.specs.Notation.{hex_shown}

abbrev pub IsFree : ℕ → List ℕ → Type 0
IsFree byte text = All (λ b. eqb b byte ≡ false) text

abbrev pub lacks : ℕ → List ℕ → Bool
lacks byte [] = true
lacks byte (c ∷ cs) = cond (eqb c byte) false (lacks byte cs)

lacks_on : (byte c : ℕ) (cs : List ℕ) (b : Bool) → eqb c byte ≡ b → cond b false (lacks byte cs) ≡ true → (lacks byte cs ≡ true → IsFree byte cs) → IsFree byte (c ∷ cs)
lacks_on byte c cs true is h more = cc h
lacks_on byte c cs false is h more = All-cons (λ b. eqb b byte ≡ false) c cs is (more h)

pub free : (byte : ℕ) (text : List ℕ) → lacks byte text ≡ true → IsFree byte text
free byte [] h = All-nil (λ b. eqb b byte ≡ false)
free byte (c ∷ cs) h = lacks_on byte c cs (eqb c byte) refl h (free byte cs)

pub free-append : (byte : ℕ) (xs ys : List ℕ) → IsFree byte xs → IsFree byte ys → IsFree byte (xs ++ ys)
free-append byte xs ys p q = All-append (λ b. eqb b byte ≡ false) xs ys p q

pub free-cons : (byte c : ℕ) (cs : List ℕ) → eqb c byte ≡ false → IsFree byte cs → IsFree byte (c ∷ cs)
free-cons byte c cs p q = All-cons (λ b. eqb b byte ≡ false) c cs p q

-- a symbol of a table, or 0 past its end
symbol : (byte : ℕ) (table : List ℕ) → 0 < byte → IsFree byte table → (i : ℕ) → eqb (get_or table i 0) byte ≡ false
symbol byte table some h i = elim (cases_lt i (length table)) [
  | inl lt ↦ All-get_or (λ b. eqb b byte ≡ false) table i 0 lt h
  | inr past ↦ ap (λ c. eqb c byte) (get_or_past table i 0 past) ∙ ne_eqb 0 byte (λ is. omega arith)
]

symbol-cons : (byte : ℕ) (table : List ℕ) → 0 < byte → IsFree byte table → (i : ℕ) (rest : List ℕ) → IsFree byte rest → IsFree byte (get_or table i 0 ∷ rest)
symbol-cons byte table some h i rest p = free-cons byte (get_or table i 0) rest (symbol byte table some h i) p

pub free-hex : (byte : ℕ) → 0 < byte → IsFree byte lower_digits → (xs : List ℕ) → IsFree byte (encode_lower xs)
unfolding encode_with
free-hex byte some h [] = All-nil (λ b. eqb b byte ≡ false)
free-hex byte some h (b ∷ rest) =
    symbol-cons byte lower_digits some h (b / 16) (get_or lower_digits (b % 16) 0 ∷ encode_lower rest)
    (symbol-cons byte lower_digits some h (b % 16) (encode_lower rest) (free-hex byte some h rest))

pub free-shown : (byte : ℕ) → 0 < byte → eqb 46 byte ≡ false → IsFree byte lower_digits → (xs : List ℕ) → IsFree byte (hex_shown xs)
free-shown byte some dot h [] = free-cons byte 46 [] dot (All-nil (λ b. eqb b byte ≡ false))
free-shown byte some dot h (b ∷ bs) = free-hex byte some h (b ∷ bs)

-- a decimal has only digits
pub free-decimal : (byte n : ℕ) → byte < 48 → n < 2 ^ 64 → IsFree byte (decimal n)
free-decimal byte n low h =
    decimal_by_steps (λ (m : ℕ) (ds : List ℕ). IsFree byte ds)
    (λ m lt. free-cons byte (48 + m) [] (ne_eqb (48 + m) byte (λ is. omega arith)) (All-nil (λ b. eqb b byte ≡ false)))
    (λ m ds le p. free-append byte ds ((48 + m % 10) ∷ []) p (free-cons byte (48 + m % 10) [] (ne_eqb (48 + m % 10) byte (λ is. omega arith)) (All-nil (λ b. eqb b byte ≡ false))))
    n h

free-symbols : (byte : ℕ) (table : List ℕ) → 0 < byte → IsFree byte table → (xs : List ℕ) → IsFree byte (encode_symbols table xs)
unfolding encode_symbols
free-symbols byte table some h [] = All-nil (λ b. eqb b byte ≡ false)
free-symbols byte table some h (a ∷ []) =
    symbol-cons byte table some h (a / 4) (get_or table (a % 4 * 16) 0 ∷ []) (symbol-cons byte table some h (a % 4 * 16) [] (All-nil (λ b. eqb b byte ≡ false)))
free-symbols byte table some h (a ∷ b ∷ []) =
    symbol-cons byte table some h (a / 4) (get_or table (a % 4 * 16 + b / 16) 0 ∷ get_or table (b % 16 * 4) 0 ∷ [])
    (symbol-cons byte table some h (a % 4 * 16 + b / 16) (get_or table (b % 16 * 4) 0 ∷ [])
    (symbol-cons byte table some h (b % 16 * 4) [] (All-nil (λ b. eqb b byte ≡ false))))
free-symbols byte table some h (a ∷ b ∷ c ∷ rest) =
    symbol-cons byte table some h (a / 4) (get_or table (a % 4 * 16 + b / 16) 0 ∷ get_or table (b % 16 * 4 + c / 64) 0 ∷ get_or table (c % 64) 0 ∷ encode_symbols table rest)
    (symbol-cons byte table some h (a % 4 * 16 + b / 16) (get_or table (b % 16 * 4 + c / 64) 0 ∷ get_or table (c % 64) 0 ∷ encode_symbols table rest)
    (symbol-cons byte table some h (b % 16 * 4 + c / 64) (get_or table (c % 64) 0 ∷ encode_symbols table rest)
    (symbol-cons byte table some h (c % 64) (encode_symbols table rest) (free-symbols byte table some h rest))))

pub free-base64 : (byte : ℕ) → 0 < byte → eqb 61 byte ≡ false → lacks byte standard.encode_table ≡ true → (xs : List ℕ) → IsFree byte (encode_of standard xs)
free-base64 byte some pad h xs =
    free-append byte (encode_symbols standard.encode_table xs) (replicate (padding_len (length xs)) 61)
    (free-symbols byte standard.encode_table some (free byte standard.encode_table h) xs)
    (All-replicate (λ b. eqb b byte ≡ false) (padding_len (length xs)) 61 pad)
