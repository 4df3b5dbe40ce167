-- The pairs of a dump.
use Rattle.std.specs.Prelude.{◌≡◌, ◌<◌, ◌^◌, ⊤, length, ℕ, cond, List, [], ◌∷◌, ◌++◌, Option, Some, None}
use Rattle.sdbm_addr.specs.Pairs.{Pair}
use Rattle.dbm_script.specs.Pieces.{pieces_of}
use Rattle.hex.specs.Hex.{IsBytes}
use Rattle.dbm_dump.specs.declared.format.Format.{Format}
use Rattle.dbm_dump.specs.declared.format.Format.TheVariants.{Plain, Gdbm, Redis}
use Rattle.dbm_dump.specs.declared.stage.Stage.{Stage}
use Rattle.dbm_dump.specs.declared.stage.Stage.TheVariants.{First}
use Rattle.dbm_dump.specs.declared.stage.Next.{Next}
use Rattle.dbm_dump.specs.Steps.{line_step, is_end}

-- the result of reading some lines: their pairs, and the stage after the last one
pub record Read : Type 0 where
  pub pairs : List Pair
  pub stage : Stage

abbrev pub read_so : List Pair → Stage → Read
read_so pairs stage = record { pairs = pairs; stage = stage }

abbrev pub pair_list : Option Pair → List Pair
pair_list None = []
pair_list (Some e) = e ∷ []

-- prepends the pair of a line, if it has one
abbrev pub before_read : Option Pair → Option Read → Option Read
before_read pair None = None
before_read pair (Some r) = Some (read_so (pair_list pair ++ r.pairs) r.stage)

abbrev pub read_on : Option Next → (Stage → Option Read) → Option Read
read_on None rest = None
read_on (Some s) rest = before_read s.pair (rest s.stage)

-- the result of reading lines in order; `None` if a line is invalid at its stage
abbrev pub read : Stage → List (List ℕ) → Option Read
read stage [] = Some (read_so [] stage)
read stage (line ∷ lines) = read_on (line_step stage line) (λ (s : Stage). read s lines)

abbrev pub whole : Option Read → Option (List Pair)
whole None = None
whole (Some r) = cond (is_end r.stage) (Some r.pairs) None

-- ---- the lines of a text

-- prepends a line to `rest`, the filtered lines after it, or drops the line if it is empty and no line follows it
abbrev pub kept_lines : List (List ℕ) → List ℕ → List (List ℕ) → List (List ℕ)
kept_lines [] [] rest = []
kept_lines [] (c ∷ cs) rest = (c ∷ cs) ∷ []
kept_lines (other ∷ others) line rest = line ∷ rest

-- the lines, except an empty last one
abbrev pub without_empty_end : List (List ℕ) → List (List ℕ)
without_empty_end [] = []
without_empty_end (line ∷ lines) = kept_lines lines line (without_empty_end lines)

-- The lines, except an empty last line. The first line always stays.
abbrev pub dump_lines : List (List ℕ) → List (List ℕ)
dump_lines [] = []
dump_lines (first ∷ others) = first ∷ without_empty_end others

-- The lines of a text. Each ends with LF, but the LF of the last line may be missing. An empty text has one empty line.
abbrev pub lines_of : List ℕ → List (List ℕ)
lines_of text = dump_lines (pieces_of 10 text)

-- the pairs of a text, if it is a dump
abbrev pub pairs_in_dump : Stage → List ℕ → Option (List Pair)
pairs_in_dump start text = whole (read start (lines_of text))

-- ---- written dumps

-- key and value consist of bytes
abbrev pub AreBytePair : Pair → Type 0
AreBytePair e = IsBytes e.0 × IsBytes e.1

-- key and value consist of bytes, and their lengths fit in 64 bits
abbrev pub IsGood : Pair → Type 0
IsGood e = ((length e.0 < 2 ^ 64) × (length e.1 < 2 ^ 64)) × AreBytePair e

-- reading the dump returns these pairs; commands for Redis cannot be read
abbrev pub ReadsBack : Format → List ℕ → List Pair → Type 0
ReadsBack Plain text pairs = pairs_in_dump First text ≡ Some pairs
ReadsBack Gdbm text pairs = pairs_in_dump First text ≡ Some pairs
ReadsBack Redis text pairs = ⊤
