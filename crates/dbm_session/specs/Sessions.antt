-- Sessions: the lines of a script, answered one by one, with saves between them.
use Rattle.std.specs.Prelude.{◌≡◌, ◌≤◌, ◌⊎◌, ◌||◌, ◌&&◌, ◌+◌, ⊤, nat_eq, not, ℕ, Bool, true, false, List, [], ◌∷◌, ◌++◌, codes, length, take, Option, Some, None}
use Rattle.std.specs.List.{starts_with}
use Rattle.std.specs.Str.{bytes_eq}
use Rattle.std.specs.Io.KnownBytes.{Appends}
use Rattle.std.specs.declared.alloc.Global.{Global}
use Rattle.bpf_verify.specs.Verified.{Accepted}
use Rattle.sdbm_addr.specs.Database.{Database}
use Rattle.dbm_script.specs.Images.{ImageVerdict}
use Rattle.dbm_script.specs.Script.{RunsLines, Stage, stage}
use Rattle.dbm_script.specs.Shorthand.{spelled_line}
use Rattle.dbm_script.specs.declared.notations.Notation.{Notation}
use Rattle.dbm_script.specs.declared.shorthand.LineKind.TheVariants.{OfScript}
use Rattle.dbm_script.specs.declared.shorthand.TimeOfDay.{TimeOfDay}
use Rattle.dbm_session.specs.HostCalls.{HostCall, DidSave, GaveTime, Logs, saves_in, times_in}
use Rattle.dbm_session.specs.declared.host.Own.{Own}
use Rattle.dbm_session.specs.declared.host.Own.TheVariants.{Shown, Line}

-- ---- the lines of a text

abbrev pub before_last : List ℕ → List (List ℕ) → List (List ℕ)
before_last piece [] = []
before_last piece (other ∷ others) = piece ∷ before_last other others

-- The lines of a text, given its pieces between LFs. Each line ends with LF, so the piece after the last LF is not a line.
abbrev pub ended_lines : List (List ℕ) → List (List ℕ)
ended_lines [] = []
ended_lines (piece ∷ pieces) = before_last piece pieces

abbrev pub last_after : List ℕ → List (List ℕ) → List ℕ
last_after piece [] = piece
last_after piece (other ∷ others) = last_after other others

-- the bytes after the last LF of a text, given its pieces between LFs
abbrev pub last_piece : List (List ℕ) → List ℕ
last_piece [] = []
last_piece (piece ∷ pieces) = last_after piece pieces

abbrev pub half_after : ℕ → List ℕ → Option ℕ
half_after count [] = None
half_after count (c ∷ cs) = Some (count + 1)

-- The number, from 1 on, of an incomplete last line, which has no LF. None if the text is empty or ends with LF.
abbrev pub half_line : List (List ℕ) → Option ℕ
half_line pieces = half_after (length (ended_lines pieces)) (last_piece pieces)

-- ---- one line

-- the line that requests a save
abbrev pub is_save : List ℕ → Bool
is_save line = bytes_eq line (codes "save")

-- a line that is not part of the script language
abbrev pub is_own : List ℕ → Bool
is_own line = bytes_eq line (codes "help") || starts_with nat_eq line (codes ".")

abbrev pub begins_change : List ℕ → Bool
begins_change line = starts_with nat_eq line (codes "replace ") || starts_with nat_eq line (codes "put ") || starts_with nat_eq line (codes "insert ")
    || starts_with nat_eq line (codes "delete ") || starts_with nat_eq line (codes "del ") || starts_with nat_eq line (codes "run ") || starts_with nat_eq line (codes "incr ")

-- the answer to a line that is not a request
abbrev pub bad_line : List ℕ
bad_line = codes "bad line" ++ 10 ∷ []

-- The line requests a change: a store, a delete, a run or an addition, even if it is refused. A bad line requests nothing.
abbrev pub asks_change : List ℕ → List ℕ → Bool
asks_change line answer = begins_change line && not (bytes_eq answer bad_line)

-- The effect of a script line at this time, and the text of its answer.
pub record AnswersScripted (n : Notation Global) (s : Stage) (time : Option TimeOfDay) (line text : List ℕ) (s' : Stage) : Type 0 where
  pub told : List (Option ImageVerdict)
  pub runs : RunsLines Global n s (spelled_line OfScript time line ∷ []) told text s'

-- The effect and the answer of a script line at the time that the host returned. The host was called only for this time.
pub record AnswersTimed (n : Notation Global) (s : Stage) (line text : List ℕ) (calls : List HostCall) (s' : Stage) : Type 0 where
  pub time : Option TimeOfDay
  pub calls_are : calls ≡ GaveTime time ∷ []
  pub answers : AnswersScripted n s time line text s'

-- the effect and the answer of a script line that submits a program
pub record SubmitsProgram (n : Notation Global) (s : Stage) (text : List ℕ) (calls : List HostCall) (s' : Stage) : Type 0 where
  pub line : List ℕ
  pub is_program : starts_with nat_eq line (codes "program ") ≡ true
  pub answers : AnswersTimed n s line text calls s'

-- The effect and the answer of a line of the host: it changes nothing, or a script line that submits a program runs instead.
abbrev pub AnswersOwn : Notation Global → Stage → List ℕ → List HostCall → Stage → Type 0
AnswersOwn n s text calls s' = ((calls ≡ []) × (s' ≡ s)) ⊎ SubmitsProgram n s text calls s'

-- if the host returns a script line, it submits a program
abbrev pub IsOwnProgram : Own → Type 0
IsOwnProgram Shown = ⊤
IsOwnProgram (Line line) = starts_with nat_eq line.items (codes "program ") ≡ true

-- no save, or one save of this database
abbrev pub MaySave : List HostCall → Database → Type 0
MaySave [] db = ⊤
MaySave (call ∷ []) db = call ≡ DidSave db
MaySave (call ∷ other ∷ others) db = ⊥

-- the log gains no call, or one save of this database
pub record SavesMaybe (log log' : Option (List HostCall)) (db : Database) : Type 0 where
  pub calls : List HostCall
  pub may : MaySave calls db
  pub kept : Logs log log' calls

-- the log gains calls with at most one save among them
pub record SavesAtMostOne (log log' : Option (List HostCall)) : Type 0 where
  pub calls : List HostCall
  pub few : length (saves_in calls) ≤ 1
  pub kept : Logs log log' calls

-- A script line is answered, and the database may be saved after it.
pub record AnswersThenSaves (n : Notation Global) (s : Stage) (line text : List ℕ) (calls : List HostCall) (s' : Stage) : Type 0 where
  pub first : List HostCall
  pub later : List HostCall
  pub calls_are : calls ≡ first ++ later
  pub answers : AnswersTimed n s line text first s'
  pub may : MaySave later s'.db

abbrev pub AnswersAs : Bool → Bool → Notation Global → Stage → List ℕ → List ℕ → List HostCall → Stage → Type 0
AnswersAs true own n s line text calls s' = (text ≡ codes "saved" ++ 10 ∷ []) × ((calls ≡ DidSave s.db ∷ []) × (s' ≡ s))
AnswersAs false true n s line text calls s' = AnswersOwn n s text calls s'
AnswersAs false false n s line text calls s' = AnswersThenSaves n s line text calls s'

-- The effect of one line of a session, the text of its answer, and the calls to the host before the answer is written.
abbrev pub AnswersSessionLine : Notation Global → Stage → List ℕ → List ℕ → List HostCall → Stage → Type 0
AnswersSessionLine n s line text calls s' = AnswersAs (is_save line) (is_own line) n s line text calls s'

-- a line was answered, and the log gained the calls to the host for this line
pub record Answered (n : Notation Global) (s : Stage) (line text : List ℕ) (log log' : Option (List HostCall)) (s' : Stage) : Type 0 where
  pub calls : List HostCall
  pub answers : AnswersSessionLine n s line text calls s'
  pub kept : Logs log log' calls

-- a script line was answered, and the log gained the time that the host returned for it
pub record AnsweredTimed (n : Notation Global) (s : Stage) (line text : List ℕ) (log log' : Option (List HostCall)) (s' : Stage) : Type 0 where
  pub calls : List HostCall
  pub answers : AnswersTimed n s line text calls s'
  pub kept : Logs log log' calls

-- a line of the host was answered, and the log gained the calls for this line
pub record AnsweredOwn (n : Notation Global) (s : Stage) (text : List ℕ) (log log' : Option (List HostCall)) (s' : Stage) : Type 0 where
  pub calls : List HostCall
  pub answers : AnswersOwn n s text calls s'
  pub kept : Logs log log' calls

-- ---- many lines

-- the first of several lines is answered, and Rest holds for the lines after it
pub record OneThen (n : Notation Global) (s : Stage) (line text : List ℕ) (calls : List HostCall) (Rest : Stage → List ℕ → List HostCall → Type 0) : Type 0 where
  pub first : List ℕ
  pub rest : List ℕ
  pub now : List HostCall
  pub later : List HostCall
  pub mid : Stage
  pub answers : AnswersSessionLine n s line first now mid
  pub others : Rest mid rest later
  pub text_is : text ≡ first ++ rest
  pub calls_are : calls ≡ now ++ later

-- The effect of lines in order, the text of their answers, and the calls to the host.
abbrev pub RunsSession : Notation Global → Stage → List (List ℕ) → List ℕ → List HostCall → Stage → Type 0
RunsSession n s [] text calls s' = (text ≡ []) × ((calls ≡ []) × (s' ≡ s))
RunsSession n s (line ∷ lines) text calls s' = OneThen n s line text calls (λ mid rest later. RunsSession n mid lines rest later s')

-- All lines were answered. The writer gained the answers, and the log gained the calls to the host for these lines. After them, the final
-- database was saved.
pub record SessionEnds (n : Notation Global) (db : Database) (lines : List (List ℕ)) (old new : Option (List ℕ)) (log log' : Option (List HostCall)) (after : Database) : Type 0 where
  pub text : List ℕ
  pub calls : List HostCall
  pub programs : List Accepted
  pub runs : RunsSession n (stage db []) lines text calls (stage after programs)
  pub written : Appends old new text
  pub kept : Logs log log' (calls ++ DidSave after ∷ [])

-- The first lines were answered, perhaps all. The writer gained a prefix of the answers, perhaps all. The log gained the calls for these
-- lines, followed by further calls with at most one save, which may have failed.
pub record SessionStops (n : Notation Global) (db : Database) (lines : List (List ℕ)) (old new : Option (List ℕ)) (log log' : Option (List HostCall)) : Type 0 where
  pub done : List (List ℕ)
  pub behind : List (List ℕ)
  pub lines_are : lines ≡ done ++ behind
  pub text : List ℕ
  pub calls : List HostCall
  pub after : Stage
  pub runs : RunsSession n (stage db []) done text calls after
  pub count : ℕ
  pub written : Appends old new (take count text)
  pub sure : Option (List HostCall)
  pub kept : Logs log sure calls
  pub maybe : SavesAtMostOne sure log'

-- ---- sessions with only script lines

-- a line of the script language
abbrev pub IsOfScript : List ℕ → Type 0
IsOfScript line = (is_save line ≡ false) × (is_own line ≡ false)

-- the lines with their shorthand expanded, each at its own time
abbrev pub AreLinesSpelled : List (List ℕ) → List (List ℕ) → List (Option TimeOfDay) → Type 0
AreLinesSpelled [] [] times = times ≡ []
AreLinesSpelled [] (full ∷ fulls) times = ⊥
AreLinesSpelled (line ∷ lines) [] times = ⊥
AreLinesSpelled (line ∷ lines) (full ∷ fulls) [] = ⊥
AreLinesSpelled (line ∷ lines) (full ∷ fulls) (time ∷ times) = (full ≡ spelled_line OfScript time line) × AreLinesSpelled lines fulls times

-- The lines had the effect of one script. Each line uses the time that the host returned for it. The writer gained the answers of that
-- script.
pub record RunsAsScript (n : Notation Global) (db : Database) (lines : List (List ℕ)) (old new : Option (List ℕ)) (log log' : Option (List HostCall)) (after : Database) : Type 0 where
  pub calls : List HostCall
  pub kept : Logs log log' calls
  pub fulls : List (List ℕ)
  pub spelled : AreLinesSpelled lines fulls (times_in calls)
  pub told : List (Option ImageVerdict)
  pub text : List ℕ
  pub programs : List Accepted
  pub runs : RunsLines Global n (stage db []) fulls told text (stage after programs)
  pub written : Appends old new text

-- a prefix of the text was written, perhaps all
pub record WritesSome (old new : Option (List ℕ)) (text : List ℕ) : Type 0 where
  pub count : ℕ
  pub written : Appends old new (take count text)
