-- Texts split into parts.
use Rattle.std.proofs.Common.{◌≡◌, ℕ, suc, ◌+◌, ◌<◌, Bool, true, false, eqb, not, ◌&&◌, ◌||◌, List, [], ◌∷◌, ◌++◌, length, get_or, take, drop, refl, sym, ap, ◌∙◌, append_assoc, append-nil, arith}
use Rattle.std.proofs.lemmas.Bool.{cond_both, false≢true}
use Rattle.std.proofs.lemmas.List.{drop_more, take_more}
use Rattle.byte_text.specs.Text.{onto, parts_of}

and_true : (b : Bool) → (b && true) ≡ b
and_true true = refl
and_true false = refl

and_false : (b : Bool) → (b && false) ≡ false
and_false true = refl
and_false false = refl

pub or_left : (a b : Bool) → (a || b) ≡ false → a ≡ false
or_left true b h = h
or_left false b h = refl

pub or_right : (a b : Bool) → (a || b) ≡ false → b ≡ false
or_right true b h = absurd (false≢true (sym h))
or_right false b h = h

pub onto-onto : (a b : List ℕ) (parts : List (List ℕ)) → onto a (onto b parts) ≡ onto (a ++ b) parts
onto-onto a b [] = refl
onto-onto a b (part ∷ parts) = ap (λ (x : List ℕ). x ∷ parts) (sym (append_assoc a b part))

onto_none : (a : List ℕ) (parts : List (List ℕ)) → onto [] (onto a parts) ≡ onto a parts
onto_none a [] = refl
onto_none a (part ∷ parts) = refl

-- a text has at least one part
pub onto-parts_of : (escape : Bool) (text : List ℕ) → onto [] (parts_of escape text) ≡ parts_of escape text
onto-parts_of true [] = refl
onto-parts_of false [] = refl
onto-parts_of true (c ∷ cs) = onto_none (c ∷ []) (parts_of false cs)
onto-parts_of false (c ∷ cs) =
    cond_both (eqb c 44) ([] ∷ parts_of false cs) (onto (c ∷ []) (parts_of (eqb c 92) cs)) (λ (x : List (List ℕ)). onto [] x ≡ x)
    (λ _. refl) (λ _. onto_none (c ∷ []) (parts_of (eqb c 92) cs))

pub parts_some : (escape : Bool) (text : List ℕ) → (part : List ℕ) × ((parts : List (List ℕ)) × (parts_of escape text ≡ part ∷ parts))
parts_some escape text = split (parts_of escape text) (onto-parts_of escape text)
  where
    split : (parts : List (List ℕ)) → onto [] parts ≡ parts → (part : List ℕ) × ((rest : List (List ℕ)) × (parts ≡ part ∷ rest))
    split [] e = ([], ([], sym e))
    split (part ∷ rest) e = (part, (rest, refl))

-- ---- texts without an unfinished escape and without an unescaped comma

abbrev pub IsWhole : List ℕ → Type 0
IsWhole front = (more : List ℕ) → parts_of false (front ++ more) ≡ onto front (parts_of false more)

pub whole_none : IsWhole []
whole_none more = sym (onto-parts_of false more)

pub whole_append : (a b : List ℕ) → IsWhole a → IsWhole b → IsWhole (a ++ b)
whole_append a b h k more =
    ap (parts_of false) (append_assoc a b more) ∙ h (b ++ more) ∙ ap (onto a) (k more) ∙ onto-onto a b (parts_of false more)

pub whole_plain : (c : ℕ) → eqb c 44 ≡ false → eqb c 92 ≡ false → IsWhole (c ∷ [])
whole_plain c comma slash more = rw (comma, slash) refl

pub whole_escape : (c : ℕ) → IsWhole (92 ∷ c ∷ [])
whole_escape c more = onto-onto (92 ∷ []) (c ∷ []) (parts_of false more)

-- ---- the split by a loop

pub cut_starts : (text : List ℕ) → parts_of false text ≡ onto (take 0 text) (parts_of false (drop 0 text))
cut_starts text = sym (onto-parts_of false text)

-- one more byte
pub cut_goes_on : (text : List ℕ) (at : ℕ) (escape : Bool) → at < length text
    → parts_of false text ≡ onto (take at text) (parts_of escape (drop at text))
    → (eqb (get_or text at 0) 44 && not escape) ≡ false
    → parts_of false text ≡ onto (take (at + 1) text) (parts_of (eqb (get_or text at 0) 92 && not escape) (drop (at + 1) text))
cut_goes_on text at escape h is other =
    is ∙ ap (λ (xs : List ℕ). onto (take at text) (parts_of escape xs)) (drop_more text at 0 h)
    ∙ ap (onto (take at text)) (step escape other)
    ∙ onto-onto (take at text) (get_or text at 0 ∷ []) (parts_of (eqb (get_or text at 0) 92 && not escape) (drop (at + 1) text))
    ∙ ap (λ (xs : List ℕ). onto xs (parts_of (eqb (get_or text at 0) 92 && not escape) (drop (at + 1) text))) (sym (take_more text at 0 h))
  where
    step : (e : Bool) → (eqb (get_or text at 0) 44 && not e) ≡ false
        → parts_of e (get_or text at 0 ∷ drop (at + 1) text) ≡ onto (get_or text at 0 ∷ []) (parts_of (eqb (get_or text at 0) 92 && not e) (drop (at + 1) text))
    step true n = ap (λ (b : Bool). onto (get_or text at 0 ∷ []) (parts_of b (drop (at + 1) text))) (sym (and_false (eqb (get_or text at 0) 92)))
    step false n =
        let plain : eqb (get_or text at 0) 44 ≡ false = sym (and_true (eqb (get_or text at 0) 44)) ∙ n in
        rw plain (ap (λ (b : Bool). onto (get_or text at 0 ∷ []) (parts_of b (drop (at + 1) text))) (sym (and_true (eqb (get_or text at 0) 92))))

-- an unescaped comma
pub cut_here : (text : List ℕ) (at : ℕ) (escape : Bool) → at < length text
    → parts_of false text ≡ onto (take at text) (parts_of escape (drop at text))
    → (eqb (get_or text at 0) 44 && not escape) ≡ true
    → parts_of false text ≡ take at text ∷ parts_of false (drop (at + 1) text)
cut_here text at escape h is comma =
    is ∙ ap (λ (xs : List ℕ). onto (take at text) (parts_of escape xs)) (drop_more text at 0 h)
    ∙ ap (onto (take at text)) (step escape comma)
    ∙ ap (λ (x : List ℕ). x ∷ parts_of false (drop (at + 1) text)) (append-nil (take at text))
  where
    step : (e : Bool) → (eqb (get_or text at 0) 44 && not e) ≡ true → parts_of e (get_or text at 0 ∷ drop (at + 1) text) ≡ [] ∷ parts_of false (drop (at + 1) text)
    step true y = absurd (false≢true (sym (and_false (eqb (get_or text at 0) 44)) ∙ y))
    step false y =
        let hit : eqb (get_or text at 0) 44 ≡ true = sym (and_true (eqb (get_or text at 0) 44)) ∙ y in
        rw hit refl

-- ---- a text without comma and backslash

pub whole_from_none : (text : List ℕ) → ((k : ℕ) → k < length text → (eqb (get_or text k 0) 44 || eqb (get_or text k 0) 92) ≡ false) → parts_of false text ≡ text ∷ []
whole_from_none [] none = refl
whole_from_none (c ∷ cs) none =
    let here = none 0 (omega arith) in
    let later = whole_from_none cs (λ k h. none (suc k) (omega (arith, h))) in
    let no_comma : eqb c 44 ≡ false = or_left (eqb c 44) (eqb c 92) here in
    let no_slash : eqb c 92 ≡ false = or_right (eqb c 44) (eqb c 92) here in
    rw (no_comma, no_slash) (ap (onto (c ∷ [])) later)
