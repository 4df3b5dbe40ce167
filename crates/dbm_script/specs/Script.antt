-- Scripts: the effect of the lines of a text, and the text of the answers.
use Rattle.std.specs.Prelude.{◌≡◌, ℕ, ◌<◌, List, [], ◌∷◌, ◌++◌, codes, length, slice_get, option_map, Option, Some, None, Ok, Err}
use Rattle.bpf_verify.specs.Verified.{Accepted}
use Rattle.sdbm_addr.specs.Database.{Database}
use Rattle.store_cmd.specs.declared.Command.{Command}
use Rattle.store_cmd.specs.declared.Command.TheVariants as commands
use Rattle.dbm_script.specs.Pieces.{pieces_of}
use Rattle.dbm_script.specs.Lines.{ask_of}
use Rattle.dbm_script.specs.declared.notations.Notation.{Notation}
use Rattle.dbm_script.specs.Images.{ImageVerdict, Numbers, AnswersImage}
use Rattle.dbm_script.specs.Incr.{counter_argument, counter_image}
use Rattle.dbm_script.specs.Answers.{IsAnswerTo, answer_text}
use Rattle.dbm_script.specs.declared.answers.Answer.{Answer}
use Rattle.dbm_script.specs.declared.lines.Ask.{Ask}
use Rattle.dbm_script.specs.declared.lines.Ask.TheVariants.{Plain, Program, Run, Incr}
use Rattle.dbm_script.specs.declared.fault.ScriptFault.{ScriptFault}
use Rattle.dbm_script.specs.declared.fault.ScriptFault.TheVariants.{Read, TooLong, Write, NoMemory}

-- The state of a script: a database, and the accepted programs by number.
pub record Stage : Type 0 where
  pub db : Database
  pub programs : List Accepted

abbrev pub stage : Database → List Accepted → Stage
stage db programs = record { db = db; programs = programs }

-- the effect of a command, and the text of its answer
abbrev pub AnswersCommand : (A : Type 0) → Notation A → Database → Command A → List ℕ → Database → Type 0
AnswersCommand A notation db command text db' = (answer : Answer A) × (IsAnswerTo A db command answer db' × (text ≡ answer_text notation answer))

-- a run of the program with this number, if there is one
abbrev pub run_command : {A : Type 0} → List Accepted → List ℕ → ℕ → List ℕ → Option ℕ → ℕ → Option (Command A)
run_command programs key prog arg blank now = option_map (λ p. commands.Run key p.code arg blank now) (slice_get programs prog)

-- the effect of a run, and the text of its answer; if its program is missing, nothing changes
abbrev pub AnswersRun : (A : Type 0) → Notation A → Database → Option (Command A) → List ℕ → Database → Type 0
AnswersRun A notation db None text db' = (text ≡ codes "refused NoProgram") × (db' ≡ db)
AnswersRun A notation db (Some command) text db' = AnswersCommand A notation db command text db'

-- The effect of an `incr`, and the text of its answer. `bounded_counter` is submitted and run on the record of the key; the record of a
-- missing key begins as 8 zeros. If the program is refused, the database is unchanged, and the text says why.
abbrev pub AnswersIncr : (A : Type 0) → Notation A → Stage → List ℕ → ℕ → ImageVerdict → List ℕ → Stage → Type 0
AnswersIncr A notation s key amount (Ok p) text s' =
    (id : ℕ) × (Numbers s.programs counter_image p id s'.programs
    × AnswersCommand A notation s.db (commands.Run key p.code (counter_argument amount 0 18446744073709551615) (Some 8) 0) text s'.db)
AnswersIncr A notation s key amount (Err fault) text s' = (s'.db ≡ s.db) × AnswersImage s.programs counter_image (Err fault) text s'.programs

-- The effect of one line, and the text of its answer, given the request in the line. If the request submits a program image, as an `incr`
-- does too, both also depend on the verdict on the image. A bad line changes nothing.
abbrev pub AnswersLine : (A : Type 0) → Notation A → Stage → Option (Ask A) → Option ImageVerdict → List ℕ → Stage → Type 0
AnswersLine A notation s None told text s' = (told ≡ None) × ((text ≡ codes "bad line") × (s' ≡ s))
AnswersLine A notation s (Some (Plain command)) told text s' =
    (told ≡ None) × ((s'.programs ≡ s.programs) × AnswersCommand A notation s.db command text s'.db)
AnswersLine A notation s (Some (Run run)) told text s' =
    (told ≡ None) × ((s'.programs ≡ s.programs) × AnswersRun A notation s.db (run_command s.programs run.key run.prog run.arg run.blank run.now) text s'.db)
AnswersLine A notation s (Some (Incr incr)) None text s' = ⊥
AnswersLine A notation s (Some (Incr incr)) (Some verdict) text s' = AnswersIncr A notation s incr.key incr.amount verdict text s'
AnswersLine A notation s (Some (Program image)) None text s' = ⊥
AnswersLine A notation s (Some (Program image)) (Some verdict) text s' =
    (s'.db ≡ s.db) × AnswersImage s.programs image verdict text s'.programs

-- The effect of lines in order, and the text of their answers. The list `told` has an optional verdict for each line that is not empty. An
-- empty line has no answer; the answer to any other line ends with LF.
abbrev pub RunsLines : (A : Type 0) → Notation A → Stage → List (List ℕ) → List (Option ImageVerdict) → List ℕ → Stage → Type 0
RunsLines A notation s [] [] text s' = (text ≡ []) × (s' ≡ s)
RunsLines A notation s [] (verdict ∷ told) text s' = ⊥
RunsLines A notation s ([] ∷ lines) told text s' = RunsLines A notation s lines told text s'
RunsLines A notation s ((c ∷ cs) ∷ lines) [] text s' = ⊥
RunsLines A notation s ((c ∷ cs) ∷ lines) (verdict ∷ told) text s' =
    (first : List ℕ) × ((rest : List ℕ) × ((mid : Stage) × (AnswersLine A notation s (ask_of notation (pieces_of 32 (c ∷ cs))) verdict first mid × (RunsLines A notation mid lines told rest s' × (text ≡ first ++ 10 ∷ rest)))))

-- a script that runs on a database and starts without programs; its last line may lack the LF
abbrev pub RunsScript : (A : Type 0) → Notation A → Database → List ℕ → List (Option ImageVerdict) → List ℕ → Database → Type 0
RunsScript A notation db input told text db' =
    (programs : List Accepted) × RunsLines A notation (stage db []) (pieces_of 10 input) told text (stage db' programs)

-- The script writes this text and leads to this database, page by page. Given the verdicts on its program images, no other text or database
-- is possible.
pub record IsScriptRun (A : Type 0) (notation : Notation A) (db : Database) (input text : List ℕ) (db' : Database) : Type 0 where
  pub told : List (Option ImageVerdict)
  pub runs : RunsScript A notation db input told text db'
  pub only : (other : List ℕ) (d : Database) → RunsScript A notation db input told other d → (other ≡ text) × (d ≡ db')

-- The answers to the first lines of a script have more than `most` bytes in total.
pub record AnswersExceed (A : Type 0) (notation : Notation A) (db : Database) (input : List ℕ) (most : ℕ) : Type 0 where
  pub first : List (List ℕ)
  pub others : List (List ℕ)
  pub lines : first ++ others ≡ pieces_of 10 input
  pub told : List (Option ImageVerdict)
  pub text : List ℕ
  pub after : Stage
  pub ran : RunsLines A notation (stage db []) first told text after
  pub long : most < length text

-- new is old followed by bytes that satisfy P
pub record AddsBytes (old new : List ℕ) (P : List ℕ → Type 0) : Type 0 where
  pub added : List ℕ
  pub is : new ≡ old ++ added
  pub holds : P added

-- the text of a fault: its name
abbrev pub fault_text : ScriptFault → List ℕ
fault_text Read = codes "Read"
fault_text TooLong = codes "TooLong"
fault_text Write = codes "Write"
fault_text NoMemory = codes "NoMemory"
