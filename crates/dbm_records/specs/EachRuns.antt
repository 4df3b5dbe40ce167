-- The runs of `each`.
use Rattle.std.specs.Prelude.{◌≡◌, ◌⊎◌, ℕ, nat_eq, Bool, true, false, List, [], ◌∷◌, Option, Some, None, slice_get, map as map_list}
use Rattle.std.specs.List.{filter, starts_with}
use Rattle.std.specs.FinMap as map
use Rattle.std.specs.declared.alloc.Global.{Global}
use Rattle.sdbm_addr.specs.Database.{Database, map_of}
use Rattle.sdbm_addr.specs.Pairs.{Pair}
use Rattle.bpf_insn.specs.declared.insn.Insn.{Insn}
use Rattle.bpf_verify.specs.Verified.{Accepted}
use Rattle.store_cmd.specs.declared.Command.TheVariants.{Run}
use Rattle.prog_registry.specs.Judged.{IsProgramOf}
use Rattle.prog_registry.specs.declared.fault.RegFault.{RegFault}
use Rattle.dbm_script.specs.Answers.{IsAnswerTo}
use Rattle.dbm_script.specs.Images.{Denies}
use Rattle.dbm_script.specs.declared.answers.Answer.{Answer}
use Rattle.dbm_reports.specs.Reports.{ReportsRefusal}
use Rattle.dbm_reports.specs.declared.report.Report.{Report}
use Rattle.dbm_records.specs.declared.each_run.EachWords.{EachWords}

-- the keys that begin with a prefix, in the order of the pairs
abbrev pub keys_with : List ℕ → List Pair → List (List ℕ)
keys_with prefix pairs = map_list (λ (e : Pair). e.0) (filter (λ (e : Pair). starts_with nat_eq e.0 prefix) pairs)

-- the keys on whose records the program runs
abbrev pub keys_of_each : EachWords → Database → List (List ℕ)
keys_of_each words db = keys_with words.prefix (map.entries (map_of db))

-- the code runs on the record of a key as session 0, with any answer
abbrev pub RunsCode : List Insn → EachWords → Database → List ℕ → Database → Type 0
RunsCode code words before key after = (answer : Answer Global) × IsAnswerTo Global before (Run key code words.arg None words.time) answer after

-- the code runs once for each key, in order
abbrev pub RunsInTurn : List Insn → EachWords → Database → List (List ℕ) → Database → Type 0
RunsInTurn code words before [] after = after ≡ before
RunsInTurn code words before (key ∷ keys) after = (mid : Database) × (RunsCode code words before key mid × RunsInTurn code words mid keys after)

-- the program with this number runs on the record of a key
abbrev pub RunsOne : List Accepted → ℕ → EachWords → Database → List ℕ → Database → Type 0
RunsOne programs prog words before key after = (p : Accepted) × ((slice_get programs prog ≡ Some p) × RunsCode p.code words before key after)

-- the program with this number runs once for each key, in order
abbrev pub RunsAll : List Accepted → ℕ → EachWords → Database → List (List ℕ) → Database → Type 0
RunsAll programs prog words before [] after = after ≡ before
RunsAll programs prog words before (key ∷ keys) after = (mid : Database) × (RunsOne programs prog words before key mid × RunsAll programs prog words mid keys after)

-- the database to save; a dry run has none
abbrev pub written_by : Bool → Database → Option Database
written_by true db = None
written_by false db = Some db

-- the report after the program with this number ran once on each record
pub record RunsNumber (programs : List Accepted) (prog : ℕ) (before : Database) (words : EachWords) (is_dry : Bool) (report : Report) : Type 0 where
  pub after : Database
  pub runs : RunsAll programs prog words before (keys_of_each words before) after
  pub status_is : report.status ≡ 0
  pub written : report.database ≡ written_by is_dry after

-- the report after the accepted program of the image ran once on each record
pub record RunsProgram (before : Database) (words : EachWords) (image : List ℕ) (is_dry : Bool) (report : Report) : Type 0 where
  pub program : Accepted
  pub program_is : IsProgramOf image program
  pub after : Database
  pub runs : RunsInTurn program.code words before (keys_of_each words before) after
  pub status_is : report.status ≡ 0
  pub written : report.database ≡ written_by is_dry after

-- either the program of the image runs, or a registry without programs refuses the image
abbrev pub RunsEach : Database → EachWords → List ℕ → Bool → Report → Type 0
RunsEach before words image is_dry report =
    RunsProgram before words image is_dry report
    ⊎ ((fault : RegFault) × (Denies [] image fault × ReportsRefusal fault 1 (written_by is_dry before) report))
