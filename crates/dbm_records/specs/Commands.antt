-- A command on the database in the files, read from words as in a script line.
use Rattle.std.specs.Prelude.{◌≡◌, ℕ, Bool, true, false, cond, List, [], ◌∷◌, codes, Option, Some, None, ◌≢◌}
use Rattle.std.specs.declared.alloc.Global.{Global}
use Rattle.sdbm_addr.specs.Database.{Database}
use Rattle.store_cmd.specs.declared.Command.{Command}
use Rattle.dbm_script.specs.declared.notations.Notation.{Notation}
use Rattle.store_cmd.specs.declared.Reply.{Reply}
use Rattle.store_cmd.specs.declared.Reply.TheVariants.{Found}
use Rattle.dbm_script.specs.declared.answers.Answer.{Answer}
use Rattle.dbm_script.specs.declared.answers.Answer.TheVariants.{Replied, Refused}
use Rattle.dbm_script.specs.Commands.{command_of_words}
use Rattle.dbm_args.specs.declared.options.Form.{Form}
use Rattle.dbm_reports.specs.declared.databases.Given.{Given}
use Rattle.dbm_reports.specs.Databases.{IsOpened, IsShut}
use Rattle.dbm_script.specs.Notation.{reads_hex}
use Rattle.dbm_reports.specs.Causes.{Causes, no_causes}

-- the words are a command, and P holds for the database in the files and this command
pub record OnCommand (notation : Notation Global) (form : Form) (given : Given) (words : List (List ℕ)) (P : Database → Command Global → Type 0) : Type 0 where
  pub before : Database
  pub opened : IsOpened form given before
  pub command : Command Global
  pub is : command_of_words notation words ≡ Some command
  pub holds : P before command

-- the words of the script lines that are equivalent to the subcommands
abbrev pub fetch_words : List ℕ → List (List ℕ)
fetch_words key = codes "fetch" ∷ (key ∷ [])

abbrev pub store_command_name : Bool → List ℕ
store_command_name insert = cond insert (codes "insert") (codes "replace")

abbrev pub store_words : List ℕ → List ℕ → Bool → List (List ℕ)
store_words key value insert = store_command_name insert ∷ (key ∷ (value ∷ []))

abbrev pub delete_words : List ℕ → List (List ℕ)
delete_words key = codes "delete" ∷ (key ∷ [])

-- the faults of a command; faults of its words come before faults of the files
abbrev pub command_causes : Notation Global → Form → Given → List (List ℕ) → Causes
command_causes notation form given words = record no_causes {
  words = (reads_hex notation ≡ true) × (command_of_words notation words ≡ None);
  texts = (reads_hex notation ≡ false) × (command_of_words notation words ≡ None);
  opening = λ reason. (command_of_words notation words ≢ None) × IsShut form given reason;
}

-- the value in a reply
abbrev pub found_in : {A : Type 0} → Reply A → Option (List ℕ)
found_in (Found value) = Some value
found_in _ = None

-- the value in an answer
abbrev pub value_in : {A : Type 0} → Answer A → Option (List ℕ)
value_in (Replied entry) = found_in entry.reply
value_in (Refused fault) = None
