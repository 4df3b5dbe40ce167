-- Tasks: lines that describe runs of one given program.
use Rattle.std.specs.Prelude.{◌≡◌, ◌⊎◌, ◌+◌, ◌++◌, ℕ, Bool, true, false, cond, List, [], ◌∷◌, length, Option, Some, None, IsSome, ⊤}
use Rattle.dbm_script.specs.Pieces.{pieces_of}
use Rattle.dbm_script.specs.Notation.{bytes_of_word, reads_hex}
use Rattle.dbm_script.specs.declared.notations.Notation.{Notation}
use Rattle.dbm_script.specs.Numbers.{number_of, blank_of}
use Rattle.dbm_script.specs.declared.run_words.RunWords.{RunWords}
use Rattle.dbm_script.specs.declared.run_words.WordFault.{WordFault}
use Rattle.dbm_script.specs.declared.run_words.WordFault.TheVariants as words
use Rattle.dbm_script.specs.declared.tasks.TasksFault.{TasksFault}
use Rattle.dbm_script.specs.declared.tasks.TasksFault.TheVariants.{BadLine, NoMemory}

abbrev pub all_words : {A : Type 0} → Option (List ℕ) → Option (List ℕ) → Option (Option ℕ) → Option ℕ → Option (RunWords A)
all_words None arg blank now = None
all_words (Some key) None blank now = None
all_words (Some key) (Some arg) None now = None
all_words (Some key) (Some arg) (Some blank) None = None
all_words (Some key) (Some arg) (Some blank) (Some now) = Some (record { key = key; arg = arg; blank = blank; now = now })

-- the meaning of the four words of a run: a key, an argument, a blank and a time
abbrev pub run_words_of : {A : Type 0} → Notation A → List ℕ → List ℕ → List ℕ → List ℕ → Option (RunWords A)
run_words_of notation key arg blank now = all_words (bytes_of_word notation key) (bytes_of_word notation arg) (blank_of blank) (number_of 18446744073709551615 now)

-- the key or the argument is invalid
abbrev pub HasBadBytes : {A : Type 0} → Notation A → List ℕ → List ℕ → Type 0
HasBadBytes notation key arg = (bytes_of_word notation key ≡ None) ⊎ (bytes_of_word notation arg ≡ None)

-- the key and the argument are valid, and the blank or the time is invalid
abbrev pub HasBadNumber : {A : Type 0} → Notation A → List ℕ → List ℕ → List ℕ → List ℕ → Type 0
HasBadNumber notation key arg blank now =
    IsSome (bytes_of_word notation key) × (IsSome (bytes_of_word notation arg) × ((blank_of blank ≡ None) ⊎ (number_of 18446744073709551615 now ≡ None)))

-- the fault for invalid bytes
abbrev pub bad_bytes : {A : Type 0} → Notation A → WordFault
bad_bytes notation = cond (reads_hex notation) words.BadHex words.BadText

-- the fault is a reason why the four words are not the words of a run
abbrev pub IsWordFault : {A : Type 0} → Notation A → List ℕ → List ℕ → List ℕ → List ℕ → WordFault → Type 0
IsWordFault notation key arg blank now words.BadHex = (reads_hex notation ≡ true) × HasBadBytes notation key arg
IsWordFault notation key arg blank now words.BadText = (reads_hex notation ≡ false) × HasBadBytes notation key arg
IsWordFault notation key arg blank now words.BadNumber = HasBadNumber notation key arg blank now
IsWordFault notation key arg blank now words.NoMemory = ⊤

-- the task that the words of a line describe
abbrev pub task_of : {A : Type 0} → Notation A → List (List ℕ) → Option (RunWords A)
task_of notation [] = None
task_of notation (key ∷ []) = None
task_of notation (key ∷ arg ∷ []) = None
task_of notation (key ∷ arg ∷ blank ∷ []) = None
task_of notation (key ∷ arg ∷ blank ∷ now ∷ []) = run_words_of notation key arg blank now
task_of notation (key ∷ arg ∷ blank ∷ now ∷ other ∷ others) = None

-- the lines have these tasks, in order; an empty line has no task, and any other line has one
abbrev pub AskTasks : (A : Type 0) → Notation A → List (List ℕ) → List (RunWords A) → Type 0
AskTasks A notation [] [] = ⊤
AskTasks A notation [] (task ∷ tasks) = ⊥
AskTasks A notation ([] ∷ lines) tasks = AskTasks A notation lines tasks
AskTasks A notation ((c ∷ cs) ∷ lines) [] = ⊥
AskTasks A notation ((c ∷ cs) ∷ lines) (task ∷ tasks) = (task_of notation (pieces_of 32 (c ∷ cs)) ≡ Some task) × AskTasks A notation lines tasks

-- the text has these tasks; its last line may lack the LF
abbrev pub AreTasksOf : (A : Type 0) → Notation A → List ℕ → List (RunWords A) → Type 0
AreTasksOf A notation input tasks = AskTasks A notation (pieces_of 10 input) tasks

-- a line that is not empty and not a task
abbrev pub IsBadLine : (A : Type 0) → Notation A → List ℕ → Type 0
IsBadLine A notation [] = ⊥
IsBadLine A notation (c ∷ cs) = task_of notation (pieces_of 32 (c ∷ cs)) ≡ None

-- If true, the task of the line was appended; an empty line has no task. If false, the line is bad.
abbrev pub AddsTask : (A : Type 0) → Notation A → List ℕ → Bool → List (RunWords A) → List (RunWords A) → Type 0
AddsTask A notation line true old new = (added : List (RunWords A)) × (AskTasks A notation (line ∷ []) added × (new ≡ old ++ added))
AddsTask A notation line false old new = IsBadLine A notation line

-- the number, from 1 on, of the first bad line of a text; empty lines are numbered too
pub record IsFirstBad (A : Type 0) (notation : Notation A) (input : List ℕ) (number : ℕ) : Type 0 where
  pub before : List (List ℕ)
  pub line : List ℕ
  pub behind : List (List ℕ)
  pub lines : pieces_of 10 input ≡ before ++ line ∷ behind
  pub number_is : number ≡ length before + 1
  pub bad : IsBadLine A notation line
  pub tasks : List (RunWords A)
  pub good : AskTasks A notation before tasks

abbrev pub IsTasksFault : (A : Type 0) → Notation A → List ℕ → TasksFault → Type 0
IsTasksFault A notation input (BadLine number) = IsFirstBad A notation input number
IsTasksFault A notation input NoMemory = ⊤
