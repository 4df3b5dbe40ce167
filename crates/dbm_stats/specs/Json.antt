-- JSON: strings, fields of objects, and lines with an object.
use Rattle.std.specs.Prelude.{ℕ, ◌++◌, ◌==◌, ◌||◌, cond, decimal, List, [], ◌∷◌}
use Rattle.std.specs.List.{flat_map}

-- a character of a string of printable ASCII; a backslash precedes a quote and a backslash
abbrev pub escaped_character : ℕ → List ℕ
escaped_character c = cond (c == 34 || c == 92) (92 ∷ c ∷ []) (c ∷ [])

-- a string of printable ASCII
abbrev pub quoted : List ℕ → List ℕ
quoted text = 34 ∷ (flat_map escaped_character text ++ 34 ∷ [])

-- a field with a number; its name needs no escapes
abbrev pub field : List ℕ → ℕ → List ℕ
field name n = 34 ∷ (name ++ (34 ∷ 58 ∷ decimal n))

-- a field that is not the first
abbrev pub next_field : List ℕ → ℕ → List ℕ
next_field name n = 44 ∷ field name n

-- a line with an object that has one numeric field
abbrev pub count_object : List ℕ → ℕ → List ℕ
count_object name n = 123 ∷ (field name n ++ (125 ∷ 10 ∷ []))
