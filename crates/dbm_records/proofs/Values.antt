-- Raw values, and values from standard input.
use Rattle.std.proofs.Common.{◌≡◌, ◌≢◌, ◌∙◌, ℕ, List, Option, Some, None, Bool, true, false, subst, sym, [], ◌∷◌}
use Rattle.std.proofs.lemmas.Option.{none-some}
use Rattle.std.specs.declared.alloc.Global.{Global}
use Rattle.sdbm_addr.specs.Database.{Database}
use Rattle.store_cmd.specs.declared.Command.{Command}
use Rattle.dbm_script.specs.Commands.{command_of_words}
use Rattle.dbm_script.specs.declared.notations.Notation.{Notation}
use Rattle.dbm_reports.specs.Causes.{IsCaused, input_causes}
use Rattle.dbm_reports.specs.Known.{Known}
use Rattle.dbm_reports.specs.declared.databases.Given.{Given}
use Rattle.dbm_reports.specs.declared.fault.ReportFault.{ReportFault}
use Rattle.dbm_reports.specs.declared.fault.ReportFault.TheVariants.{BadHex, BadText, BadLayout, BadNumber, Open, NotText, Assemble, Decode, Read, TooLong, OutputTooLong, NoMemory}
use Rattle.dbm_reports.specs.declared.report.Report.{Report}
use Rattle.dbm_records.specs.Fetch.{FetchShows}
use Rattle.dbm_records.specs.Store.{MayRead, input_store_causes, store_by, store_in, takes_input}
use Rattle.dbm_records.specs.declared.store.Store.{Store}

-- no file is written after a fetch
pub shows_none : (raw : Bool) (n : Notation Global) (before : Database) (command : Command Global) (report : Report) → FetchShows raw n before command report → report.database ≡ None
shows_none false n before command report shows = shows.1.1
shows_none true n before command report shows = shows.written

-- standard input is read after the files are opened
pub input_fault : (n : Notation Global) (store : Store) (given : Given) (input : Option (List ℕ)) (fault : ReportFault) → MayRead n store given → IsCaused (input_causes input) fault → IsCaused (input_store_causes n store given input) fault
input_fault n store given input BadHex opens h = absurd h
input_fault n store given input BadText opens h = absurd h
input_fault n store given input BadLayout opens h = h
input_fault n store given input BadNumber opens h = h
input_fault n store given input (Open reason) opens h = absurd h
input_fault n store given input NotText opens h = h
input_fault n store given input (Assemble fault) opens h = h
input_fault n store given input (Decode fault) opens h = h
input_fault n store given input Read opens h = opens
input_fault n store given input TooLong opens h = (opens, h)
input_fault n store given input OutputTooLong opens h = h
input_fault n store given input NoMemory opens h = tt

-- the command in three words, after replacing equal words
pub asked_by : (n : Notation Global) (name named key keyed value valued : List ℕ) (command : Command Global) → named ≡ name → keyed ≡ key → valued ≡ value
    → command_of_words n (named ∷ (keyed ∷ (valued ∷ []))) ≡ Some command → command_of_words n (name ∷ (key ∷ (value ∷ []))) ≡ Some command
asked_by n name named key keyed value valued command names keys values is =
    subst (λ (word : List ℕ). command_of_words n (name ∷ (key ∷ (word ∷ []))) ≡ Some command) values
    (subst (λ (word : List ℕ). command_of_words n (name ∷ (word ∷ (valued ∷ []))) ≡ Some command) keys
    (subst (λ (word : List ℕ). command_of_words n (word ∷ (keyed ∷ (valued ∷ []))) ≡ Some command) names is))

-- a property of a store, by cases on whether its value is standard input
pub known_by : (takes : Bool) (n : Notation Global) (store : Store) (given : Given) (input : Option (List ℕ)) (P : Known → Type 0) → takes_input store ≡ takes → P (store_by takes n store given input) → P (store_in n store given input)
known_by takes n store given input P is holds = subst (λ (t : Bool). P (store_by t n store given input)) (sym is) holds

-- words with a command are not invalid
pub means : (n : Notation Global) (words : List (List ℕ)) (command : Command Global) → command_of_words n words ≡ Some command → command_of_words n words ≢ None
means n words command is none = none-some command (sym none ∙ is)
