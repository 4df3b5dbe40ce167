-- The arguments of `load`, its results and its errors.
use Rattle.std.specs.Prelude.{◌≡◌, ℕ, ◌++◌, Bool, cond, List, [], ◌∷◌, Option, Some, None, codes, decimal, IfSome, IsSomeAnd, true}
use Rattle.clap.specs.Words.{Shape, Row}
use Rattle.sdbm_addr.specs.Database.{Database}
use Rattle.sdbm_addr.specs.declared.Mode.{Mode}
use Rattle.sdbm_addr.specs.declared.Mode.TheVariants.{Insert, Replace}
use Rattle.dbm_args.specs.CommandLine.{flag, required_word, valued_option, subcommand, writing_options}
use Rattle.dbm_args.specs.Given.{IsForm, IsOptionGiven, IsWord, is_given}
use Rattle.dbm_args.specs.declared.options.Form.{Form}
use Rattle.dbm_dump.specs.Formats.{start_of}
use Rattle.dbm_dump.specs.Loading.{IsLoadFault, IsLoaded}
use Rattle.dbm_dump.specs.declared.fault.DumpFault.{DumpFault}
use Rattle.dbm_dump.specs.declared.fault.DumpFault.TheVariants as dump
use Rattle.dbm_dump.specs.declared.stage.Stage.{Stage}
use Rattle.dbm_reports.specs.Causes.{no_causes}
use Rattle.dbm_reports.specs.Databases.{IsOpened, IsShut, CanBeOpened}
use Rattle.dbm_reports.specs.Reports.{OnDatabase}
use Rattle.dbm_reports.specs.declared.databases.Given.{Given}
use Rattle.dbm_reports.specs.declared.report.Report.{Report}
use Rattle.dbm_dump.specs.Causes.{DumpCauses, DumpKnown, bad_format}
use Rattle.dbm_dump.specs.declared.load.Load.{Load}
use Rattle.dbm_args.specs.Heads.{head_on}
use Rattle.dbm_args.specs.declared.options.Head.{Head}

abbrev pub load : Shape
load = subcommand (codes "load") (required_word (codes "BASE") ∷ valued_option (codes "format") ∷ flag (codes "keep") ∷ writing_options)

abbrev pub LoadAsks : List Row → Load → Type 0
LoadAsks rows load =
    IsWord (codes "BASE") rows load.base × (IsForm rows load.form × (IsOptionGiven (codes "format") rows load.format × (load.keep ≡ is_given (codes "keep") rows)))

-- the mode of storing: `keep` keeps existing pairs, otherwise they are replaced
abbrev pub mode_of : Bool → Mode
mode_of keep = cond keep Insert Replace

-- the line with the number of pairs in the dump
abbrev pub loaded_line : ℕ → List ℕ
loaded_line n = codes "loaded " ++ (decimal n ++ 10 ∷ [])

-- the pairs of the dump on standard input, if its bytes are known, are stored in order; the resulting database is written
pub record Loads (start : Stage) (mode : Mode) (input : Option (List ℕ)) (report : Report) (before : Database) : Type 0 where
  pub count : ℕ
  pub after : Database
  pub loads : IfSome input (λ bytes. IsLoaded start mode before bytes count after)
  pub kind : after.kind ≡ before.kind
  pub size : after.size ≡ before.size
  pub text_is : report.text.items ≡ loaded_line count
  pub status_is : report.status ≡ 0
  pub written : report.database ≡ Some after

-- a dump fails to load into a database; `Read` and `NoMemory` are left out, since they are shared faults
abbrev pub IsUnloaded : Stage → Mode → Database → List ℕ → DumpFault → Type 0
IsUnloaded start mode db bytes dump.Read = ⊥
IsUnloaded start mode db bytes dump.NoMemory = ⊥
IsUnloaded start mode db bytes reason = IsLoadFault start mode db bytes reason

-- the format name is checked first, then the files are opened, then the dump is read
abbrev pub load_causes : Option Stage → Mode → Form → Given → Option (List ℕ) → DumpCauses
load_causes None mode form given input = bad_format
load_causes (Some start) mode form given input = record {
  report = record no_causes { opening = IsShut form given; reading = CanBeOpened form given };
  dump = λ reason. (db : Database) × (IsOpened form given db × IfSome input (λ bytes. IsUnloaded start mode db bytes reason));
}

abbrev pub load_in : Load → Given → Option (List ℕ) → DumpKnown
load_in load given input = record {
  reports = λ report. IsSomeAnd (start_of load.format) (λ start. OnDatabase load.form given (Loads start (mode_of load.keep) input report));
  causes = load_causes (start_of load.format) (mode_of load.keep) load.form given input;
}

-- the head of the subcommand: its files and its notation
abbrev pub load_head : Load → Head
load_head load = record (head_on (Some load.base)) { writes = true }
