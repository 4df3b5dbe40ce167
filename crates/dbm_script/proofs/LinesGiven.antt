-- The lines that a reader with known bytes returned.
use Rattle.std.proofs.Common.{◌≡◌, ℕ, List, [], ◌∷◌, ◌++◌, Bool, true, false, not, cond, length, Option, Some, None, option_map, IfSome, refl, sym, ap, ◌∙◌, arith, eqb}
use Rattle.std.proofs.lemmas.Bool.{false≢true}
use Rattle.std.proofs.lemmas.List.Splits.{length-slice_split}
use Rattle.std.proofs.lemmas.Option.{same_Some}
use Rattle.dbm_script.specs.Pieces.{pieces_of}
use Rattle.dbm_script.specs.LineInput.{GivesNextLine, GivesEnded, Unread, lines_left}

-- the next line is this one
abbrev pub IsNext : List (List ℕ) → List ℕ → Option (List (List ℕ)) → Type 0
IsNext others line left = (behind : List (List ℕ)) × ((others ≡ line ∷ behind) × (left ≡ Some behind))

pub next_line : (others : List (List ℕ)) (line : List ℕ) (left : Option (List (List ℕ))) → GivesNextLine (Some others) true line left → IsNext others line left
next_line [] line left gives = absurd gives
next_line (l ∷ ls) line left gives = (ls, (ap (λ (x : List ℕ). x ∷ ls) (sym gives.0), gives.1))

-- no lines are left
pub no_line : (others : List (List ℕ)) (line : List ℕ) (left : Option (List (List ℕ))) → GivesNextLine (Some others) false line left → others ≡ []
no_line [] line left gives = refl
no_line (l ∷ ls) line left gives = absurd gives

-- ---- lines that end with LF

-- every text has at least one piece
pub some_pieces : (text : List ℕ) → pieces_of 10 text ≡ [] → ⊥
some_pieces text none =
    let long = length-slice_split (λ x. eqb x 10) text in
    let nothing : length (pieces_of 10 text) ≡ 0 = ap length none in
    omega arith

-- if lines are left, the reader has not ended
is_open : (u : Unread) (known : Option (List ℕ)) (l : List ℕ) (ls : List (List ℕ)) → lines_left u known ≡ Some (l ∷ ls) → u.ended ≡ false
is_open u known l ls left = by_end u.ended refl
  where
    by_end : (b : Bool) → u.ended ≡ b → b ≡ false
    by_end false is = refl
    by_end true is = absurd (no (same_Some _ _ (sym left ∙ ap (λ (x : Bool). cond x (Some []) (option_map (λ more. pieces_of 10 (u.rest ++ more)) known)) is)))
      where
        no : l ∷ ls ≡ [] → ⊥
        no h = cc

-- if no lines are left, the reader has ended
pub is_over : (ended : Bool) (rest : List ℕ) (known : Option (List ℕ)) → lines_left (record { rest = rest; ended = ended }) known ≡ Some [] → ended ≡ true
is_over true rest known left = refl
is_over false rest None left = absurd (cc)
is_over false rest (Some more) left = absurd (some_pieces (rest ++ more) (same_Some _ _ left))

not_ended : (ended : Bool) → ended ≡ false → not ended ≡ true
not_ended ended is = ap not is

has_ended : (ended : Bool) → ended ≡ true → not ended ≡ false
has_ended ended is = ap not is

pub gives_ended : (left : Option (List (List ℕ))) (line : List ℕ) (u : Unread) (known : Option (List ℕ)) → GivesNextLine left true line (lines_left u known) → GivesEnded left (not u.ended) line (lines_left u known)
gives_ended None line u known gives = tt
gives_ended (Some []) line u known gives = absurd gives
gives_ended (Some (l ∷ [])) line u known gives = (has_ended u.ended (is_over u.ended u.rest known gives.1), gives)
gives_ended (Some (l ∷ m ∷ ms)) line u known gives = (not_ended u.ended (is_open u known m ms gives.1), gives)

pub gives_none : (left : Option (List (List ℕ))) (line : List ℕ) (left' : Option (List (List ℕ))) → GivesNextLine left false line left' → GivesEnded left false line left'
gives_none None line left' gives = tt
gives_none (Some []) line left' gives = (refl, gives)
gives_none (Some (l ∷ ls)) line left' gives = absurd gives

-- a consequence that holds for known bytes
pub known : (known : Option (List ℕ)) (P Q : List ℕ → Type 0) → ((input : List ℕ) → P input → Q input) → IfSome known P → IfSome known Q
known None P Q f h = tt
known (Some input) P Q f h = f input h
