-- The effect of each line of a dump, by the stage before it.
use Rattle.std.specs.Prelude.{ℕ, ◌==◌, ◌+◌, ◌-◌, ◌*◌, ◌/◌, ◌||◌, nat_le, Bool, true, false, List, [], ◌∷◌, ◌++◌, cond, codes, length, Option, Some, None, Result, Ok, Err}
use Rattle.std.specs.Str.{bytes_eq}
use Rattle.base64.specs.Engines.{standard}
use Rattle.base64.specs.GeneralPurpose.{decode_of}
use Rattle.base64.specs.declared.decode.DecodeError.{DecodeError}
use Rattle.sdbm_addr.specs.Pairs.{Pair}
use Rattle.dbm_dump.specs.Texts.{plain_end, title}
use Rattle.dbm_dump.specs.Marks.{line_mark, number_behind, pair_of}
use Rattle.dbm_dump.specs.Symbols.{is_open}
use Rattle.dbm_dump.specs.declared.marks.Mark.{Mark}
use Rattle.dbm_dump.specs.declared.marks.Mark.TheVariants as mark
use Rattle.dbm_dump.specs.declared.stage.Role.{Role}
use Rattle.dbm_dump.specs.declared.stage.Role.TheVariants.{Key, Value}
use Rattle.dbm_dump.specs.declared.stage.Stage.{Stage}
use Rattle.dbm_dump.specs.declared.stage.Stage.TheVariants.{First, Title, Keys, Pages, Count, Gap, Pairs, Between, Within, Ended, Over}
use Rattle.dbm_dump.specs.declared.stage.Next.{Next}

-- the next stage, without a pair
abbrev pub goes : Stage → Next
goes stage = record { stage = stage; pair = None }

abbrev pub goes_if : Bool → Stage → Option Next
goes_if true stage = Some (goes stage)
goes_if false stage = None

-- ---- our own format

abbrev pub title_step : List ℕ → Option Next
title_step line = goes_if (bytes_eq line title) Keys

abbrev pub keys_step : List ℕ → Option Next
keys_step line = cond (bytes_eq line (codes "keys signed")) (Some (goes Pages)) (goes_if (bytes_eq line (codes "keys unsigned")) Pages)

abbrev pub pages_step : List ℕ → Option Next
pages_step line = cond (bytes_eq line (codes "pages 1024")) (Some (goes Count)) (goes_if (bytes_eq line (codes "pages 8192")) Count)

abbrev pub counted : Option ℕ → Option Next
counted None = None
counted (Some n) = Some (goes (Gap n))

abbrev pub gap_step : ℕ → List ℕ → Option Next
gap_step left [] = Some (goes (Pairs left))
gap_step left (c ∷ cs) = None

-- a line with one of the remaining pairs
abbrev pub listed : ℕ → Option Pair → Option Next
listed left None = None
listed left (Some e) = cond (left == 0) None (Some (record { stage = Pairs (left - 1); pair = Some e }))

-- the last line, if no pairs are left
abbrev pub closes : ℕ → Option Next
closes left = goes_if (left == 0) Ended

-- a line after the last line: an empty line, or a comment
abbrev pub ended_step : List ℕ → Option Next
ended_step [] = Some (goes Ended)
ended_step (c ∷ cs) = goes_if (c == 35) Ended

abbrev pub pairs_step : ℕ → List ℕ → Option Next
pairs_step left [] = Some (goes (Pairs left))
pairs_step left (c ∷ cs) = cond (bytes_eq (c ∷ cs) plain_end) (closes left) (listed left (pair_of (c ∷ cs)))

-- ---- gdbm's

-- `count` characters of base64 hold at least `len` bytes in their complete groups of four
abbrev pub holds : ℕ → ℕ → Bool
holds len count = nat_le len (count / 4 * 3)

abbrev pub is_full : ℕ → List ℕ → Bool
is_full len text = holds len (length text)

-- a complete datum: a key, or the value that completes a pair
abbrev pub datum_closed : ℕ → Role → List ℕ → Option Next
datum_closed seen Key bytes = Some (goes (Between seen (Value bytes)))
datum_closed seen (Value key) bytes =
    cond (seen == 18446744073709551615) None (Some (record { stage = Between (seen + 1) Key; pair = Some (key, bytes) }))

-- a decoded datum, if its length is `len`
abbrev pub decoded : ℕ → Role → ℕ → Result (List ℕ) DecodeError → Option Next
decoded seen role len (Ok bytes) = cond (length bytes == len) (datum_closed seen role bytes) None
decoded seen role len (Err error) = None

-- the step after `text`, the base64 so far of a datum of `len` bytes; the datum is decoded if its base64 is complete
abbrev pub grown : ℕ → Role → ℕ → List ℕ → Option Next
grown seen role len text = cond (is_full len text) (decoded seen role len (decode_of standard text)) (Some (goes (Within seen role len text)))

-- the end of the dump, if its count is the number of pairs
abbrev pub dump_ended : ℕ → Role → ℕ → Option Next
dump_ended seen Key n = goes_if (n == seen) Over
dump_ended seen (Value key) n = None

-- a line between two data
abbrev pub between_step : ℕ → Role → Mark → Option Next
between_step seen role (mark.Len n) = grown seen role n []
between_step seen role (mark.Count n) = dump_ended seen role n
between_step seen role mark.Note = Some (goes (Between seen role))
between_step seen role mark.Text = None
between_step seen role mark.Bad = None

-- The line may follow `text`, the base64 so far of a datum of `len` bytes: it completes the datum, or more base64 may follow it.
abbrev pub may_follow : ℕ → List ℕ → List ℕ → Bool
may_follow len text line = is_full len (text ++ line) || is_open text line

-- a line within a datum
abbrev pub within_step : ℕ → Role → ℕ → List ℕ → List ℕ → Mark → Option Next
within_step seen role len text line (mark.Len n) = None
within_step seen role len text line (mark.Count n) = None
within_step seen role len text line mark.Note = Some (goes (Within seen role len text))
within_step seen role len text line mark.Text = cond (may_follow len text line) (grown seen role len (text ++ line)) None
within_step seen role len text line mark.Bad = None

-- a line after the number of pairs
abbrev pub over_step : Mark → Option Next
over_step (mark.Len n) = None
over_step (mark.Count n) = None
over_step mark.Note = Some (goes Over)
over_step mark.Text = None
over_step mark.Bad = None

-- ---- either format

-- the first line determines the format: gdbm's begins with '#'
abbrev pub first_step : List ℕ → Option Next
first_step [] = title_step []
first_step (c ∷ cs) = cond (c == 35) (between_step 0 Key (line_mark (c ∷ cs))) (title_step (c ∷ cs))

-- the effect of a line, if it is valid at this stage
abbrev pub line_step : Stage → List ℕ → Option Next
line_step First line = first_step line
line_step Title line = title_step line
line_step Keys line = keys_step line
line_step Pages line = pages_step line
line_step Count line = counted (number_behind (codes "count ") line)
line_step (Gap left) line = gap_step left line
line_step (Pairs left) line = pairs_step left line
line_step (Between seen role) line = between_step seen role (line_mark line)
line_step (Within seen role len text) line = within_step seen role len text line (line_mark line)
line_step Ended line = ended_step line
line_step Over line = over_step (line_mark line)

-- the dump may end at this stage
abbrev pub is_end : Stage → Bool
is_end Ended = true
is_end Over = true
is_end _ = false
