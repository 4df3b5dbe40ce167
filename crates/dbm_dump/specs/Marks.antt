-- The meaning of the lines of a dump.
use Rattle.std.specs.Prelude.{ℕ, ◌==◌, List, [], ◌∷◌, cond, codes, length, take, drop, Option, Some, None}
use Rattle.std.specs.Str.{bytes_eq}
use Rattle.sdbm_addr.specs.Pairs.{Pair}
use Rattle.dbm_script.specs.Pieces.{pieces_of}
use Rattle.dbm_script.specs.Notation.{hex_bytes}
use Rattle.dbm_script.specs.Numbers.{number_of}
use Rattle.dbm_dump.specs.declared.marks.Mark.{Mark}
use Rattle.dbm_dump.specs.declared.marks.Mark.TheVariants.{Len, Count, Note, Text, Bad}

-- the rest of a line after `front`, if the line begins with `front`
abbrev pub behind : List ℕ → List ℕ → Option (List ℕ)
behind front line = cond (bytes_eq (take (length front) line) front) (Some (drop (length front) line)) None

abbrev pub number_marked : Option (List ℕ) → Option ℕ
number_marked None = None
number_marked (Some digits) = number_of 18446744073709551615 digits

-- the number after `front`, if the line begins with `front`
abbrev pub number_behind : List ℕ → List ℕ → Option ℕ
number_behind front line = number_marked (behind front line)

-- ---- our own format

abbrev pub both : Option (List ℕ) → Option (List ℕ) → Option Pair
both None value = None
both (Some key) None = None
both (Some key) (Some value) = Some (key, value)

abbrev pub pair_in : List (List ℕ) → Option Pair
pair_in [] = None
pair_in (key ∷ []) = None
pair_in (key ∷ value ∷ []) = both (hex_bytes key) (hex_bytes value)
pair_in (key ∷ value ∷ other ∷ others) = None

-- the pair of a line: key and value in hex
abbrev pub pair_of : List ℕ → Option Pair
pair_of line = pair_in (pieces_of 32 line)

-- ---- gdbm's

abbrev pub len_mark : Option ℕ → Mark
len_mark None = Bad
len_mark (Some n) = Len n

abbrev pub count_mark : Option ℕ → Mark
count_mark None = Bad
count_mark (Some n) = Count n

abbrev pub count_or_note : Option (List ℕ) → Mark
count_or_note None = Note
count_or_note (Some digits) = count_mark (number_marked (Some digits))

abbrev pub len_or : Option (List ℕ) → Mark → Mark
len_or None other = other
len_or (Some digits) other = len_mark (number_marked (Some digits))

abbrev pub sign_mark : List ℕ → Mark
sign_mark line = len_or (behind (codes "#:len=") line) (count_or_note (behind (codes "#:count=") line))

-- the kind of a line: a length, a count, any other line that begins with '#' or is empty, or text in base64
abbrev pub line_mark : List ℕ → Mark
line_mark [] = Note
line_mark (c ∷ cs) = cond (c == 35) (sign_mark (c ∷ cs)) Text
