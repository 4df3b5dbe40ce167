-- Splitting a text at the first of some byte.
use Rattle.std.proofs.Common.{◌≡◌, ℕ, ◌+◌, ◌-◌, ◌<◌, ◌≤◌, List, [], ◌∷◌, ◌++◌, length, take, drop, get_or, eqb, cond, take-append-drop, Bool, true, false, Some, None, refl, sym, ap, ◌∙◌, arith, rules}
use Rattle.std.specs.Prelude.{nat_lt, position}
use Rattle.std.specs.List.{position_or_len}
use Rattle.std.proofs.lemmas.Bool.{false_from_ne_true, false≢true}
use Rattle.std.proofs.lemmas.List.Quantifiers.{position-Some}
use Rattle.std.proofs.lemmas.List.Sums.{fails_before_first}
use Rattle.std.proofs.lemmas.List.{drop_more, take_all, get_or-take, get_or_default, length-drop}
use Rattle.std.proofs.lemmas.List.Splits.{slice_split_none, slice_split_at, length-slice_split}
use Rattle.std.specs.List.{All}
use Rattle.dbm_script.specs.Pieces.{pieces_of}
use Rattle.dbm_script.specs.Lines.{ask_of}
use Rattle.dbm_script.specs.declared.notations.Notation.{Notation}

-- the first k bytes of the text do not include `byte`
abbrev pub NoneBefore : ℕ → List ℕ → ℕ → Type 0
NoneBefore byte text k = (j : ℕ) → 0 ≤ j → j < k → eqb (get_or text j 0) byte ≡ true → ⊥

none_passes : (byte : ℕ) (text : List ℕ) (k : ℕ) → k ≤ length text → NoneBefore byte text k → All (λ x. eqb x byte ≡ false) (take k text)
none_passes byte text k h none j d l =
    let below : j < k = search (rules, l) in
    ap (λ x. eqb x byte) (get_or-take k text j d below ∙ get_or_default text j d 0 (omega arith)) ∙ false_from_ne_true _ (none j (omega arith) below)

pub pieces-none : (byte : ℕ) (text : List ℕ) → NoneBefore byte text (length text) → pieces_of byte text ≡ text ∷ []
pieces-none byte text none = slice_split_none (λ b. eqb b byte) text (λ k d l. ap (λ x. eqb x byte) (get_or_default text k d 0 l) ∙ false_from_ne_true _ (none k (omega arith) l))

pub pieces-first : (byte : ℕ) (text : List ℕ) (k : ℕ) → k < length text → NoneBefore byte text k → eqb (get_or text k 0) byte ≡ true
    → pieces_of byte text ≡ take k text ∷ pieces_of byte (take (length text - (k + 1)) (drop (k + 1) text))
pieces-first byte text k h none hit =
    ap (pieces_of byte) (sym (take-append-drop k text) ∙ ap (λ xs. take k text ++ xs) (drop_more text k 0 h))
    ∙ slice_split_at (λ b. eqb b byte) (take k text) (get_or text k 0) (drop (k + 1) text) (none_passes byte text k (omega arith) none) hit
    ∙ ap (λ xs. take k text ∷ pieces_of byte xs) (sym (take_all (length text - (k + 1)) (drop (k + 1) text) (let l : length (drop (k + 1) text) ≡ length text - (k + 1) = length-drop (k + 1) text in omega arith)))

-- pieces-first, with k as the result of position
pub pieces_at : (byte : ℕ) (text : List ℕ) (k : ℕ) → position (λ b. eqb b byte) text ≡ Some k → pieces_of byte text ≡ take k text ∷ pieces_of byte (take (length text - (k + 1)) (drop (k + 1) text))
pieces_at byte text k is =
    let found = position-Some (λ b. eqb b byte) text k 0 is in
    pieces-first byte text k found.0 (λ j _ l e. false≢true (sym (found.2 j l) ∙ e)) found.1

far : (first long k : ℕ) (b : Bool) → nat_lt first long ≡ b → cond b (Some first) None ≡ None → k < long → k < first
far first long k true e is l = let f : ⊥ = cc in absurd f
far first long k false e is l = grind arith

pub pieces_whole : (byte : ℕ) (text : List ℕ) → position (λ b. eqb b byte) text ≡ None → pieces_of byte text ≡ text ∷ []
pieces_whole byte text is =
    slice_split_none (λ b. eqb b byte) text
    (λ k d l. fails_before_first (λ b. eqb b byte) text k d (far (position_or_len (λ b. eqb b byte) text) (length text) k _ refl is l))

-- seven or more words are not a request
pub too_many_words : {A : Type 0} (n : Notation A) (a b c d e f rest : List ℕ) → None ≡ ask_of n (a ∷ b ∷ c ∷ d ∷ e ∷ f ∷ pieces_of 32 rest)
too_many_words {A = A} n a b c d e f rest = none (pieces_of 32 rest) (let long = length-slice_split (λ x. eqb x 32) rest in omega arith)
  where
    none : (words : List (List ℕ)) → 0 < length words → None ≡ ask_of n (a ∷ b ∷ c ∷ d ∷ e ∷ f ∷ words)
    none [] h = absurd (search (rules, h))
    none (word ∷ words) h = refl
