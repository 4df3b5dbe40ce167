-- Splitting texts.
use Rattle.std.specs.Prelude.{ℕ, ◌==◌, List, [], Option, Some, None}
use Rattle.std.specs.Borrow.{Bor}
use Rattle.std.specs.List.{slice_split}

-- the text split at each occurrence of the byte
abbrev pub pieces_of : ℕ → List ℕ → List (List ℕ)
pieces_of byte text = slice_split (λ b. b == byte) text

-- the pieces of the remaining text; `None` is the end of the text
abbrev pub pieces_left : ℕ → Option (Bor (List ℕ)) → List (List ℕ)
pieces_left byte None = []
pieces_left byte (Some text) = pieces_of byte text.now
