-- The parts of a text: its lines, and the text of a line without its comment and margins.
use Rattle.std.specs.Prelude.{ℕ, ◌-◌, ◌==◌, ◌||◌, Bool, List, length, take, drop}
use Rattle.std.specs.List.{slice_split, before_first, prefix_len, suffix_len}

-- The lines of a text, separated by line feeds. There is one more line than line feeds.
abbrev pub lines : List ℕ → List (List ℕ)
lines text = slice_split (λ b. b == 10) text

-- A line without its comment, which begins at the first ';'.
abbrev pub uncommented : List ℕ → List ℕ
uncommented line = before_first (λ b. b == 59) line

-- spaces and tabs
abbrev pub is_margin : ℕ → Bool
is_margin b = (b == 32) || (b == 9)

-- a list without the spaces and tabs at its front
abbrev pub trimmed_front : List ℕ → List ℕ
trimmed_front xs = drop (prefix_len is_margin xs) xs

-- a list without the spaces and tabs at its end
abbrev pub trimmed_back : List ℕ → List ℕ
trimmed_back xs = take (length xs - suffix_len is_margin xs) xs

-- a list without the spaces and tabs at both ends
unfoldable pub trimmed : List ℕ → List ℕ
trimmed xs = trimmed_back (trimmed_front xs)
