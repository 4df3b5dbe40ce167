-- Incomplete base64 text.
use Rattle.std.specs.Prelude.{ℕ, ◌==◌, ◌+◌, ◌-◌, ◌%◌, ◌||◌, nat_eq, Bool, false, cond, List, codes, length, take}
use Rattle.std.specs.Char.{is_ascii_alphanumeric}
use Rattle.std.specs.List.{ends_with, list_all}

-- a symbol of base64
abbrev pub is_symbol : ℕ → Bool
is_symbol byte = (is_ascii_alphanumeric byte || (byte == 43)) || (byte == 47)

abbrev pub ends_padded : List ℕ → Bool
ends_padded text = ends_with nat_eq text (codes "=")

-- The line without a final '=' if that is the third character of its group of four, since the fourth may follow. `count` is the length of
-- the text with the line.
abbrev pub without_pad : ℕ → List ℕ → List ℕ
without_pad count line = cond (count % 4 == 3) (cond (ends_padded line) (take (length line - 1) line) line) line

-- The line may follow the text, and more base64 may follow both: the text does not end with '=', and the line has only symbols, apart from
-- an '=' that `without_pad` removes.
abbrev pub is_open : List ℕ → List ℕ → Bool
is_open text line = cond (ends_padded text) false (list_all is_symbol (without_pad (length text + length line) line))
