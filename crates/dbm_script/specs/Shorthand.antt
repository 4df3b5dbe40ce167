-- Shorthand in the lines of scripts and batches: comments, short names of commands, and the time of day.
use Rattle.std.specs.Prelude.{ℕ, nat_eq, ◌-◌, Bool, false, cond, List, [], ◌∷◌, ◌++◌, codes, decimal, drop, take, length, map, Option, Some, None}
use Rattle.std.specs.List.{ends_with, join_with_byte, starts_with}
use Rattle.dbm_script.specs.Pieces.{pieces_of}
use Rattle.dbm_script.specs.declared.shorthand.LineKind.{LineKind}
use Rattle.dbm_script.specs.declared.shorthand.LineKind.TheVariants.{OfScript, OfBatch}
use Rattle.dbm_script.specs.declared.shorthand.TimeOfDay.{TimeOfDay}

-- the line with the full name of its command instead of the short name
abbrev pub fully_named : List ℕ → List ℕ
fully_named line =
    cond (starts_with nat_eq line (codes "get ")) (codes "fetch " ++ drop 4 line)
    (cond (starts_with nat_eq line (codes "put ")) (codes "replace " ++ drop 4 line)
    (cond (starts_with nat_eq line (codes "del ")) (codes "delete " ++ drop 4 line) line))

-- the line with the time of day in decimal instead of a last word `now` or `now-ms`; if there is no time, the line is unchanged
abbrev pub timed : Option TimeOfDay → List ℕ → List ℕ
timed None line = line
timed (Some time) line =
    cond (ends_with nat_eq line (codes " now")) (take (length line - 3) line ++ decimal time.seconds)
    (cond (ends_with nat_eq line (codes " now-ms")) (take (length line - 6) line ++ decimal time.millis) line)

-- The expansion of a line that is not a comment and does not end in CR. Each line of a batch ends in a time, and so does a script line that
-- runs a program. The first word of a batch line is a key, not a command.
abbrev pub in_full : LineKind → Option TimeOfDay → List ℕ → List ℕ
in_full OfScript time line = cond (starts_with nat_eq line (codes "run ")) (timed time line) (fully_named line)
in_full OfBatch time line = timed time line

-- In a script, a line that begins with # is a comment. In a batch, it is a task whose key begins with #.
abbrev pub is_comment : LineKind → List ℕ → Bool
is_comment OfScript line = starts_with nat_eq line (codes "#")
is_comment OfBatch line = false

-- The line with its shorthand expanded. A comment becomes an empty line. Any other line that ends in CR becomes a single CR, a bad line.
abbrev pub spelled_line : LineKind → Option TimeOfDay → List ℕ → List ℕ
spelled_line lines time line =
    cond (is_comment lines line) []
    (cond (ends_with nat_eq line (13 ∷ [])) (13 ∷ []) (in_full lines time line))

-- a text with its shorthand expanded, line by line
abbrev pub spelled_text : LineKind → Option TimeOfDay → List ℕ → List ℕ
spelled_text lines time text = join_with_byte 10 (map (spelled_line lines time) (pieces_of 10 text))
