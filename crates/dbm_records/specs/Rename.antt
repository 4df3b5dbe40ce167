-- The arguments of `rename`, its possible reports, and the conditions of its faults.
use Rattle.std.specs.Prelude.{◌≡◌, true, false, List, [], ◌∷◌, ◌++◌, Some, codes, Bool, Option, ◌≢◌, ◌⊎◌, ℕ, not, None}
use Rattle.clap.specs.Words.{Shape, Row}
use Rattle.dbm_args.specs.Given.{IsForm, IsNotation, IsWord, is_given}
use Rattle.dbm_records.specs.declared.rename.Rename.{Rename}
use Rattle.std.specs.declared.alloc.Global.{Global}
use Rattle.sdbm_addr.specs.Database.{Database}
use Rattle.sdbm_addr.specs.declared.Mode.{Mode}
use Rattle.store_cmd.specs.declared.Command.{Command}
use Rattle.store_cmd.specs.declared.Command.TheVariants.{Fetch, Store, Delete}
use Rattle.store_cmd.specs.declared.Reply.{Reply}
use Rattle.store_cmd.specs.declared.Reply.TheVariants.{Found, Stored}
use Rattle.dbm_script.specs.Answers.{IsAnswerTo, answer_text}
use Rattle.dbm_script.specs.declared.answers.Answer.{Answer}
use Rattle.dbm_script.specs.declared.answers.Answer.TheVariants.{Replied, Refused}
use Rattle.dbm_script.specs.declared.notations.Notation.{Notation}
use Rattle.dbm_reports.specs.declared.databases.Given.{Given}
use Rattle.dbm_reports.specs.declared.report.Report.{Report}
use Rattle.dbm_records.specs.Commands.{value_in, command_causes, OnCommand, store_words}
use Rattle.dbm_reports.specs.Known.{Known}
use Rattle.dbm_reports.specs.Words.{word_asked}
use Rattle.dbm_reports.specs.Reports.{answer_status}
use Rattle.dbm_args.specs.CommandLine.{required_word, flag, subcommand, writing_options}
use Rattle.dbm_args.specs.Heads.{head_on}
use Rattle.dbm_args.specs.declared.options.Head.{Head}

abbrev pub rename : Shape
rename = subcommand (codes "rename") (required_word (codes "BASE") ∷ required_word (codes "KEY") ∷ required_word (codes "NEWKEY") ∷ flag (codes "replace") ∷ flag (codes "raw-key") ∷ flag (codes "text") ∷ writing_options)

abbrev pub RenameAsks : List Row → Rename → Type 0
RenameAsks rows rename =
    IsWord (codes "BASE") rows rename.base × (IsForm rows rename.form × (IsNotation rows rename.notation × (IsWord (codes "KEY") rows rename.key × (IsWord (codes "NEWKEY") rows rename.new_key × ((rename.replace ≡ is_given (codes "replace") rows) × (rename.raw_key ≡ is_given (codes "raw-key") rows))))))

-- the reply says that a pair was stored
abbrev pub stored_in : {A : Type 0} → Reply A → Bool
stored_in Stored = true
stored_in _ = false

abbrev pub is_stored : {A : Type 0} → Answer A → Bool
is_stored (Replied entry) = stored_in entry.reply
is_stored (Refused fault) = false

-- the command has this answer; the text is the answer as a line, and the status is that of the answer
pub record IsTold (n : Notation Global) (before : Database) (command : Command Global) (answer : Answer Global) (after : Database) (text : List ℕ) (status : ℕ) : Type 0 where
  pub answers : IsAnswerTo Global before command answer after
  pub text_is : text ≡ answer_text n answer ++ 10 ∷ []
  pub status_is : status ≡ answer_status answer

-- after the value is stored under the new key, the old key is deleted if it is different
pub record IsRenamed (stored : Database) (key new : List ℕ) (after : Database) (text : List ℕ) (status : ℕ) : Type 0 where
  pub left : ((key ≡ new) × (after ≡ stored)) ⊎ ((key ≢ new) × ((answer : Answer Global) × IsAnswerTo Global stored (Delete key) answer after))
  pub text_is : text ≡ codes "renamed\n"
  pub status_is : status ≡ 0

-- the value is stored under the new key, or the text gives the answer that says why not
abbrev pub StoresAnew : Notation Global → Database → List ℕ → List ℕ → List ℕ → Mode → Database → List ℕ → ℕ → Type 0
StoresAnew n found key new value mode after text status =
    (answer : Answer Global) × ((stored : Database)
    × (((is_stored answer ≡ false) × IsTold n found (Store new value mode) answer after text status)
    ⊎ ((is_stored answer ≡ true) × (IsAnswerTo Global found (Store new value mode) answer stored × IsRenamed stored key new after text status))))

-- the value of the key is found and stored under the new key, or the text gives the answer of the fetch
abbrev pub Renames : Notation Global → Database → List ℕ → List ℕ → Mode → Database → List ℕ → ℕ → Type 0
Renames n before key new mode after text status =
    (answer : Answer Global) × ((found : Database)
    × (((value_in answer ≡ None) × IsTold n before (Fetch key) answer after text status)
    ⊎ ((value : List ℕ) × ((value_in answer ≡ Some value) × (IsAnswerTo Global before (Fetch key) answer found × StoresAnew n found key new value mode after text status)))))

-- a store command
abbrev pub is_store_command : {A : Type 0} → Command A → Bool
is_store_command (Store key value mode) = true
is_store_command _ = false

-- a rename, given as a store command whose value is the new key
abbrev pub RenamesBy : Notation Global → Database → Command Global → Report → Type 0
RenamesBy n before (Store key new mode) report =
    (after : Database) × (Renames n before key new mode after report.text.items report.status × (report.database ≡ Some after))
RenamesBy n before _ report = ⊥

abbrev pub rename_in : Notation Global → Rename → Given → Known
rename_in n rename given = record {
  reports = λ report. OnCommand n rename.form given (store_words (word_asked rename.raw_key n rename.key.now) (word_asked rename.raw_key n rename.new_key.now) (not rename.replace)) (λ db command. RenamesBy n db command report);
  causes = command_causes n rename.form given (store_words (word_asked rename.raw_key n rename.key.now) (word_asked rename.raw_key n rename.new_key.now) (not rename.replace));
}

-- the head of the subcommand: its files and its notation
abbrev pub rename_head : Rename → Head
rename_head rename = record (head_on (Some rename.base)) { writes = true; notation = rename.notation }
