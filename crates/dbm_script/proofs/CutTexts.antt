-- Splitting a text into lines while it is read in pieces.
use Rattle.std.proofs.Common.{◌≡◌, ℕ, ◌+◌, ◌<◌, ◌≤◌, List, [], ◌∷◌, ◌++◌, length, length-append, Bool, true, false, Option, Some, None, refl, sym, ap, ◌∙◌, subst, append_assoc, arith, eqb}
use Rattle.std.specs.List.{All, onto_first, slice_split}
use Rattle.std.specs.Io.KnownBytes.{Consumes, IsAtEnd}
use Rattle.std.proofs.lemmas.List.{append-nil}
use Rattle.std.proofs.lemmas.List.Elements.{All-append, All-head, All-tail}
use Rattle.std.proofs.lemmas.List.Splits.{length-slice_split, slice_split_at, slice_split_none, slice_split-cons_no}
use Rattle.dbm_script.specs.Pieces.{pieces_of}
use Rattle.dbm_script.specs.LineInput.{GivesNextLine, IsLongNext, IsPiece, TakesPiece, Unread, lines_left}

abbrev pub unread : List ℕ → Bool → Unread
unread rest ended = record { rest = rest; ended = ended }

-- a text prepended to the first piece
abbrev prepended : List ℕ → List (List ℕ) → List (List ℕ)
prepended front [] = front ∷ []
prepended front (x ∷ xs) = (front ++ x) ∷ xs

abbrev is_end : ℕ → Bool
is_end b = eqb b 10

prepended-nil : (xs : List (List ℕ)) → 0 < length xs → xs ≡ prepended [] xs
prepended-nil [] h = absurd (omega arith)
prepended-nil (x ∷ xs) h = refl

onto-prepended : (c : ℕ) (cs : List ℕ) (xs : List (List ℕ)) → onto_first c (prepended cs xs) ≡ prepended (c ∷ cs) xs
onto-prepended c cs [] = refl
onto-prepended c cs (x ∷ xs) = refl

-- a front without LF is the beginning of the first piece
piece_open : (front rest : List ℕ) → IsPiece front → pieces_of 10 (front ++ rest) ≡ prepended front (pieces_of 10 rest)
piece_open [] rest h = let long = length-slice_split is_end rest in prepended-nil (pieces_of 10 rest) (omega arith)
piece_open (c ∷ cs) rest h =
    slice_split-cons_no is_end c (cs ++ rest) (All-head (λ b. eqb b 10 ≡ false) c cs h)
    ∙ ap (onto_first c) (piece_open cs rest (All-tail (λ b. eqb b 10 ≡ false) c cs h))
    ∙ onto-prepended c cs (pieces_of 10 rest)

-- a line that is followed by LF is the first piece
pub piece_first : (line rest : List ℕ) → IsPiece line → pieces_of 10 (line ++ 10 ∷ rest) ≡ line ∷ pieces_of 10 rest
piece_first line rest h = slice_split_at is_end line 10 rest h refl

-- The bytes to read at the beginning (rest₀, then the reader's) are the line so far, then the buffered bytes, then what the reader has
-- left.
abbrev pub SameText : List ℕ → Option (List ℕ) → List ℕ → List ℕ → Option (List ℕ) → Type 0
SameText rest₀ None line rest known = Unit {0}
SameText rest₀ (Some more₀) line rest None = ⊥
SameText rest₀ (Some more₀) line rest (Some more) = rest₀ ++ more₀ ≡ line ++ (rest ++ more)

pub same_text : (rest : List ℕ) (known : Option (List ℕ)) → SameText rest known [] rest known
same_text rest None = tt
same_text rest (Some more) = refl

-- the buffered bytes had no LF
pub same_taken : (rest₀ : List ℕ) (known₀ : Option (List ℕ)) (line rest : List ℕ) (known : Option (List ℕ)) (line' rest' : List ℕ) → SameText rest₀ known₀ line rest known
    → TakesPiece false rest line line' rest' → SameText rest₀ known₀ line' rest' known
same_taken rest₀ None line rest known line' rest' same takes = tt
same_taken rest₀ (Some more₀) line rest None line' rest' same takes = same
same_taken rest₀ (Some more₀) line rest (Some more) line' rest' same takes =
    same ∙ sym (append_assoc line rest more) ∙ ap (λ (xs : List ℕ). xs ++ more) (sym takes.1.1) ∙ ap (λ (xs : List ℕ). line' ++ (xs ++ more)) (sym takes.1.0)

-- the buffer was refilled
pub same_refilled : (rest₀ : List ℕ) (known₀ : Option (List ℕ)) (line rest : List ℕ) (known : Option (List ℕ)) (rest' : List ℕ) (known' : Option (List ℕ)) → SameText rest₀ known₀ line rest known
    → rest ≡ [] → Consumes known known' rest' → SameText rest₀ known₀ line rest' known'
same_refilled rest₀ None line rest known rest' known' same none read = tt
same_refilled rest₀ (Some more₀) line rest None rest' known' same none read = absurd same
same_refilled rest₀ (Some more₀) line rest (Some more) rest' None same none read = absurd read
same_refilled rest₀ (Some more₀) line rest (Some more) rest' (Some more') same none read =
    same ∙ ap (λ (xs : List ℕ). line ++ (xs ++ more)) none ∙ ap (λ (xs : List ℕ). line ++ xs) read

-- an LF ends the line
pub gives_found : (rest₀ : List ℕ) (known₀ : Option (List ℕ)) (line rest : List ℕ) (known : Option (List ℕ)) (line' rest' : List ℕ) → SameText rest₀ known₀ line rest known → IsPiece line
    → TakesPiece true rest line line' rest' → GivesNextLine (lines_left (unread rest₀ false) known₀) true line' (lines_left (unread rest' false) known)
gives_found rest₀ None line rest known line' rest' same whole takes = tt
gives_found rest₀ (Some more₀) line rest None line' rest' same whole takes = absurd same
gives_found rest₀ (Some more₀) line rest (Some more) line' rest' same whole takes =
    let piece : List ℕ = takes.0 in
    let text : rest₀ ++ more₀ ≡ (line ++ piece) ++ (10 ∷ (rest' ++ more))
    = same ∙ ap (λ (xs : List ℕ). line ++ (xs ++ more)) takes.1.1.0 ∙ ap (λ (xs : List ℕ). line ++ xs) (append_assoc piece (10 ∷ rest') more)
    ∙ sym (append_assoc line piece (10 ∷ (rest' ++ more))) in
    let cut : pieces_of 10 (rest₀ ++ more₀) ≡ (line ++ piece) ∷ pieces_of 10 (rest' ++ more)
    = ap (pieces_of 10) text ∙ piece_first (line ++ piece) (rest' ++ more) (All-append (λ b. eqb b 10 ≡ false) line piece whole takes.1.0) in
    subst (λ (ls : List (List ℕ)). GivesNextLine (Some ls) true line' (Some (pieces_of 10 (rest' ++ more)))) (sym cut) (takes.1.1.1, refl)

-- the end of the input ends the line
pub gives_last : (rest₀ : List ℕ) (known₀ : Option (List ℕ)) (line rest : List ℕ) (known known' : Option (List ℕ)) (rest' : List ℕ) → SameText rest₀ known₀ line rest known → IsPiece line
    → rest ≡ [] → IsAtEnd known → GivesNextLine (lines_left (unread rest₀ false) known₀) true line (lines_left (unread rest' true) known')
gives_last rest₀ None line rest known known' rest' same whole none end = tt
gives_last rest₀ (Some more₀) line rest None known' rest' same whole none end = absurd same
gives_last rest₀ (Some more₀) line rest (Some more) known' rest' same whole none end =
    let text : rest₀ ++ more₀ ≡ line = same ∙ ap (λ (xs : List ℕ). line ++ (xs ++ more)) none ∙ ap (λ (xs : List ℕ). line ++ xs) end ∙ append-nil line in
    let cut : pieces_of 10 (rest₀ ++ more₀) ≡ line ∷ [] = ap (pieces_of 10) text ∙ slice_split_none is_end line whole in
    subst (λ (ls : List (List ℕ)). GivesNextLine (Some ls) true line (Some [])) (sym cut) (refl, refl)

-- a line whose beginning is too long is too long
long_first : (most : ℕ) (line : List ℕ) (xs : List (List ℕ)) → most < length line → IsLongNext most (Some (prepended line xs))
long_first most line [] h = h
long_first most line (x ∷ xs) h = omega (arith, length-append line x)

is_long : (most : ℕ) (rest₀ : List ℕ) (known₀ : Option (List ℕ)) (line rest : List ℕ) (known : Option (List ℕ)) → SameText rest₀ known₀ line rest known → IsPiece line → most < length line
    → IsLongNext most (lines_left (unread rest₀ false) known₀)
is_long most rest₀ None line rest known same whole long = tt
is_long most rest₀ (Some more₀) line rest None same whole long = absurd same
is_long most rest₀ (Some more₀) line rest (Some more) same whole long =
    subst (λ (ls : List (List ℕ)). IsLongNext most (Some ls)) (sym (ap (pieces_of 10) same ∙ piece_open line (rest ++ more) whole)) (long_first most line (pieces_of 10 (rest ++ more)) long)

-- SameText after an LF was found, with the LF put back
same_found : (rest₀ : List ℕ) (known₀ : Option (List ℕ)) (line rest : List ℕ) (known : Option (List ℕ)) (line' rest' : List ℕ) → SameText rest₀ known₀ line rest known
    → TakesPiece true rest line line' rest' → SameText rest₀ known₀ line' (10 ∷ rest') known
same_found rest₀ None line rest known line' rest' same takes = tt
same_found rest₀ (Some more₀) line rest None line' rest' same takes = same
same_found rest₀ (Some more₀) line rest (Some more) line' rest' same takes =
    let piece : List ℕ = takes.0 in
    same ∙ ap (λ (xs : List ℕ). line ++ (xs ++ more)) takes.1.1.0 ∙ ap (λ (xs : List ℕ). line ++ xs) (append_assoc piece (10 ∷ rest') more)
    ∙ sym (append_assoc line piece (10 ∷ (rest' ++ more))) ∙ ap (λ (xs : List ℕ). xs ++ (10 ∷ (rest' ++ more))) (sym takes.1.1.1)

-- the line so far has no LF
pub taken_piece : (found : Bool) (line rest line' rest' : List ℕ) → IsPiece line → TakesPiece found rest line line' rest' → IsPiece line'
taken_piece true line rest line' rest' whole takes =
    subst IsPiece (sym takes.1.1.1) (All-append (λ b. eqb b 10 ≡ false) line takes.0 whole takes.1.0)
taken_piece false line rest line' rest' whole takes =
    subst IsPiece (sym takes.1.1) (All-append (λ b. eqb b 10 ≡ false) line rest whole takes.0)

pub long_next : (most : ℕ) (found : Bool) (rest₀ : List ℕ) (known₀ : Option (List ℕ)) (line rest : List ℕ) (known : Option (List ℕ)) (line' rest' : List ℕ) → SameText rest₀ known₀ line rest known → IsPiece line
    → TakesPiece found rest line line' rest' → most < length line' → IsLongNext most (lines_left (unread rest₀ false) known₀)
long_next most true rest₀ known₀ line rest known line' rest' same whole takes long =
    is_long most rest₀ known₀ line' (10 ∷ rest') known (same_found rest₀ known₀ line rest known line' rest' same takes) (taken_piece true line rest line' rest' whole takes) long
long_next most false rest₀ known₀ line rest known line' rest' same whole takes long =
    is_long most rest₀ known₀ line' rest' known (same_taken rest₀ known₀ line rest known line' rest' same takes) (taken_piece false line rest line' rest' whole takes) long

-- ---- before the end of the input

opened : (u : Unread) (known : Option (List ℕ)) → u.ended ≡ false → lines_left u known ≡ lines_left (unread u.rest false) known
opened u known is = ap (λ (b : Bool). lines_left (unread u.rest b) known) is

pub open_found : (u v : Unread) (known₀ known : Option (List ℕ)) (line rest line' : List ℕ) → u.ended ≡ false → v.ended ≡ false → SameText u.rest known₀ line rest known → IsPiece line
    → TakesPiece true rest line line' v.rest → GivesNextLine (lines_left u known₀) true line' (lines_left v known)
open_found u v known₀ known line rest line' a b same whole takes =
    subst (λ (l : Option (List (List ℕ))). GivesNextLine l true line' (lines_left v known)) (sym (opened u known₀ a))
    (subst (λ (l : Option (List (List ℕ))). GivesNextLine (lines_left (unread u.rest false) known₀) true line' l) (sym (opened v known b)) (gives_found u.rest known₀ line rest known line' v.rest same whole takes))

pub open_last : (u v : Unread) (known₀ known : Option (List ℕ)) (line rest : List ℕ) → u.ended ≡ false → v.ended ≡ true → SameText u.rest known₀ line rest known → IsPiece line
    → rest ≡ [] → IsAtEnd known → GivesNextLine (lines_left u known₀) true line (lines_left v known)
open_last u v known₀ known line rest a b same whole none end =
    subst (λ (l : Option (List (List ℕ))). GivesNextLine l true line (lines_left v known)) (sym (opened u known₀ a))
    (subst (λ (l : Option (List (List ℕ))). GivesNextLine (lines_left (unread u.rest false) known₀) true line l) (sym (ap (λ (e : Bool). lines_left (unread v.rest e) known) b))
    (gives_last u.rest known₀ line rest known known v.rest same whole none end))

pub open_long : (most : ℕ) (found : Bool) (u : Unread) (known₀ known : Option (List ℕ)) (line rest line' rest' : List ℕ) → u.ended ≡ false → SameText u.rest known₀ line rest known → IsPiece line
    → TakesPiece found rest line line' rest' → most < length line' → IsLongNext most (lines_left u known₀)
open_long most found u known₀ known line rest line' rest' a same whole takes long =
    subst (IsLongNext most) (sym (opened u known₀ a)) (long_next most found u.rest known₀ line rest known line' rest' same whole takes long)

-- no lines are left
pub ended_gives : (u v : Unread) (known₀ known : Option (List ℕ)) (line : List ℕ) → u.ended ≡ true → v.ended ≡ true → GivesNextLine (lines_left u known₀) false line (lines_left v known)
ended_gives u v known₀ known line a b =
    subst (λ (l : Option (List (List ℕ))). GivesNextLine l false line (lines_left v known)) (sym (ap (λ (e : Bool). lines_left (unread u.rest e) known₀) a)) (ap (λ (e : Bool). lines_left (unread v.rest e) known) b)
