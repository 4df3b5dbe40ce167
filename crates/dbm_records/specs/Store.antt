-- The arguments of `store`, its possible reports, and the conditions of its faults.
use Rattle.std.specs.Prelude.{◌≡◌, ◌≢◌, ◌&&◌, ℕ, Bool, true, false, List, ◌∷◌, None, codes, Option, IfSome, Some}
use Rattle.std.specs.Str.{bytes_eq}
use Rattle.store_cmd.specs.declared.Command.{Command}
use Rattle.store_cmd.specs.declared.Command.TheVariants as asked
use Rattle.dbm_reports.specs.Causes.{Causes, IsLongScript}
use Rattle.dbm_reports.specs.Databases.{CanBeOpened}
use Rattle.clap.specs.Words.{Shape, Row}
use Rattle.dbm_args.specs.Given.{IsForm, IsNotation, IsWord, is_given}
use Rattle.dbm_records.specs.declared.store.Store.{Store}
use Rattle.std.specs.declared.alloc.Global.{Global}
use Rattle.dbm_script.specs.Commands.{command_of_words}
use Rattle.dbm_script.specs.declared.notations.Notation.{Notation}
use Rattle.dbm_reports.specs.declared.databases.Given.{Given}
use Rattle.dbm_records.specs.Commands.{command_causes, OnCommand, store_words}
use Rattle.dbm_reports.specs.Known.{Known}
use Rattle.dbm_reports.specs.Words.{word_asked}
use Rattle.dbm_reports.specs.Reports.{ChangesFiles}
use Rattle.dbm_args.specs.CommandLine.{required_word, flag, subcommand, with_alias, writing_in}
use Rattle.dbm_args.specs.Heads.{head_on}
use Rattle.dbm_args.specs.declared.options.Head.{Head}

abbrev pub store : Shape
store = with_alias (codes "put") (subcommand (codes "store") (required_word (codes "BASE") ∷ required_word (codes "KEY") ∷ required_word (codes "VALUE") ∷ flag (codes "insert") ∷ flag (codes "raw-key") ∷ flag (codes "raw-value") ∷ flag (codes "quick") ∷ writing_in))

abbrev pub StoreAsks : List Row → Store → Type 0
StoreAsks rows store =
    IsWord (codes "BASE") rows store.base × (IsForm rows store.form × (IsNotation rows store.notation × (IsWord (codes "KEY") rows store.key × (IsWord (codes "VALUE") rows store.value × ((store.insert ≡ is_given (codes "insert") rows) × ((store.raw_key ≡ is_given (codes "raw-key") rows) × (store.raw_value ≡ is_given (codes "raw-value") rows)))))))

-- the value is standard input
abbrev pub takes_input : Store → Bool
takes_input store = store.raw_value && bytes_eq store.value.now (codes "-")

-- replaces the value of a store
abbrev pub with_store_value : List ℕ → Command Global → Command Global
with_store_value value (asked.Store key old mode) = asked.Store key value mode
with_store_value value command = command

-- the words of a store, given the word of its value
abbrev pub words_by : Notation Global → Store → List ℕ → List (List ℕ)
words_by n store value = store_words (word_asked store.raw_key n store.key.now) value store.insert

-- the key is valid and the files can be opened, so standard input may be read
abbrev pub MayRead : Notation Global → Store → Given → Type 0
MayRead n store given = (command_of_words n (words_by n store (codes ".")) ≢ None) × CanBeOpened store.form given

-- the faults of a store of standard input, which is read after the words are checked and the files are opened
abbrev pub input_store_causes : Notation Global → Store → Given → Option (List ℕ) → Causes
input_store_causes n store given input = record (command_causes n store.form given (words_by n store (codes "."))) {
  reading = MayRead n store given;
  long = MayRead n store given × IsLongScript input;
}

-- the possible reports of a store, and its faults; the flag says whether its value is standard input
abbrev pub store_by : Bool → Notation Global → Store → Given → Option (List ℕ) → Known
store_by false n store given input = record {
  reports = λ report. OnCommand n store.form given (words_by n store (word_asked store.raw_value n store.value.now)) (λ db command. ChangesFiles n db command None report);
  causes = command_causes n store.form given (words_by n store (word_asked store.raw_value n store.value.now));
}
store_by true n store given input = record {
  reports = λ report. OnCommand n store.form given (words_by n store (codes ".")) (λ db command. IfSome input (λ value. ChangesFiles n db (with_store_value value command) None report));
  causes = input_store_causes n store given input;
}

abbrev pub store_in : Notation Global → Store → Given → Option (List ℕ) → Known
store_in n store given input = store_by (takes_input store) n store given input

-- the head of the subcommand: its files and its notation
abbrev pub store_head : Store → Head
store_head store = record (head_on (Some store.base)) { writes = true; notation = store.notation }
