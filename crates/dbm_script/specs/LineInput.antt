-- The lines of a reader. The bytes after the last LF are one more line, which may be empty.
use Rattle.std.specs.Prelude.{◌≡◌, ℕ, ◌<◌, ◌==◌, ◌++◌, Bool, true, false, cond, List, [], ◌∷◌, length, Option, Some, None, option_map, ⊤}
use Rattle.std.specs.List.{All}
use Rattle.std.specs.Io.KnownBytes.{IsAtEnd}
use Rattle.dbm_script.specs.Pieces.{pieces_of}

-- the buffered bytes that were not yet returned, and whether the input has ended
pub record Unread : Type 0 where
  pub rest : List ℕ
  pub ended : Bool

-- the remaining lines, if the bytes of the reader are known
abbrev pub lines_left : Unread → Option (List ℕ) → Option (List (List ℕ))
lines_left unread known = cond unread.ended (Some []) (option_map (λ more. pieces_of 10 (unread.rest ++ more)) known)

-- the result of reading a line: the next line, or false if no line is left
abbrev pub GivesNextLine : Option (List (List ℕ)) → Bool → List ℕ → Option (List (List ℕ)) → Type 0
GivesNextLine None found line new = ⊤
GivesNextLine (Some []) true line new = ⊥
GivesNextLine (Some []) false line new = new ≡ Some []
GivesNextLine (Some (l ∷ ls)) true line new = (line ≡ l) × (new ≡ Some ls)
GivesNextLine (Some (l ∷ ls)) false line new = ⊥

-- the result of reading a line that ends with LF: the next one, or false and the bytes after the last LF
abbrev pub GivesEnded : Option (List (List ℕ)) → Bool → List ℕ → Option (List (List ℕ)) → Type 0
GivesEnded None is_ended line new = ⊤
GivesEnded (Some []) is_ended line new = (is_ended ≡ false) × (new ≡ Some [])
GivesEnded (Some (l ∷ [])) is_ended line new = (is_ended ≡ false) × ((line ≡ l) × (new ≡ Some []))
GivesEnded (Some (l ∷ other ∷ others)) is_ended line new = (is_ended ≡ true) × ((line ≡ l) × (new ≡ Some (other ∷ others)))

-- a text without LF
abbrev pub IsPiece : List ℕ → Type 0
IsPiece text = All (λ b. (b == 10) ≡ false) text

-- the buffered bytes before the first LF move to the end of the line; if there is no LF, all buffered bytes do
abbrev pub TakesPiece : Bool → List ℕ → List ℕ → List ℕ → List ℕ → Type 0
TakesPiece true rest old new rest' = (piece : List ℕ) × (IsPiece piece × ((rest ≡ piece ++ 10 ∷ rest') × (new ≡ old ++ piece)))
TakesPiece false rest old new rest' = IsPiece rest × ((rest' ≡ []) × (new ≡ old ++ rest))

-- if true, the buffer has new bytes; if false, the reader is at its end
abbrev pub Refills : Bool → List ℕ → Option (List ℕ) → Type 0
Refills true rest known = 0 < length rest
Refills false rest known = (rest ≡ []) × IsAtEnd known

-- the next line has more than `most` bytes
abbrev pub IsLongNext : ℕ → Option (List (List ℕ)) → Type 0
IsLongNext most None = ⊤
IsLongNext most (Some []) = ⊥
IsLongNext most (Some (l ∷ ls)) = most < length l
