-- Scripts on a database: their answers, and the conditions of their faults.
use Rattle.std.specs.Prelude.{◌≡◌, ◌⊎◌, ℕ, ◌≤◌, Bool, true, false, List, [], ◌∷◌, length, Option, Some, None, IfSome, is_none, option_map, ⊤}
use Rattle.std.specs.List.{list_any}
use Rattle.dbm_script.specs.Lines.{ask_of}
use Rattle.dbm_script.specs.Pieces.{pieces_of}
use Rattle.std.specs.Borrow.{Bor}
use Rattle.std.specs.declared.alloc.Global.{Global}
use Rattle.sdbm_addr.specs.Database.{Database, empty_database}
use Rattle.dbm_script.specs.declared.notations.Notation.{Notation}
use Rattle.dbm_script.specs.Script.{IsScriptRun, AnswersExceed}
use Rattle.dbm_script.specs.Shorthand.{spelled_text}
use Rattle.dbm_script.specs.declared.shorthand.LineKind.TheVariants.{OfScript}
use Rattle.dbm_script.specs.declared.shorthand.TimeOfDay.{TimeOfDay}
use Rattle.dbm_args.specs.declared.options.Form.{Form}
use Rattle.dbm_reports.specs.declared.report.Report.{Report}
use Rattle.dbm_reports.specs.declared.databases.Given.{Given}
use Rattle.dbm_reports.specs.Databases.{IsOpened, key_bytes_of, page_size_of, IsShut, CanBeOpened}
use Rattle.dbm_script.specs.Numbers.{number_of}
use Rattle.dbm_reports.specs.Causes.{Causes, no_causes, IsLongScript, input_causes}

-- the script on standard input with its shorthand expanded, or `None` if its bytes are unknown
abbrev pub spelled_input : Option TimeOfDay → Option (List ℕ) → Option (List ℕ)
spelled_input time input = option_map (spelled_text OfScript time) input

-- a script runs: the report has its answers, of at most `most` bytes, and `after` is the database after the script
pub record PlaysScript (notation : Notation Global) (before : Database) (input : Option (List ℕ)) (most : ℕ) (after : Database) (report : Report) : Type 0 where
  pub runs : IfSome input (λ bytes. IsScriptRun Global notation before bytes report.text.items after)
  pub short : length report.text.items ≤ most
  pub kind : after.kind ≡ before.kind
  pub size : after.size ≡ before.size
  pub status_is : report.status ≡ 0

-- the line is bad: it is neither empty nor a request
abbrev pub is_bad_line : Notation Global → List ℕ → Bool
is_bad_line notation [] = false
is_bad_line notation (c ∷ cs) = is_none (ask_of notation (pieces_of 32 (c ∷ cs)))

-- a line of a script is bad
abbrev pub has_bad_line : Notation Global → List ℕ → Bool
has_bad_line notation input = list_any (is_bad_line notation) (pieces_of 10 input)

-- a script does not run: nothing is printed, the database is unchanged, and the status is 1
pub record IsBarred (before after : Database) (report : Report) : Type 0 where
  pub text_is : report.text.items ≡ []
  pub same : after ≡ before
  pub status_is : report.status ≡ 1

-- a script runs, unless it is strict (`true`) and has a bad line
abbrev pub PlaysAs : Bool → Notation Global → Database → Option (List ℕ) → ℕ → Database → Report → Type 0
PlaysAs false notation before input most after report = PlaysScript notation before input most after report
PlaysAs true notation before input most after report =
    (IfSome input (λ bytes. has_bad_line notation bytes ≡ false) × PlaysScript notation before input most after report)
    ⊎ (IfSome input (λ bytes. has_bad_line notation bytes ≡ true) × IsBarred before after report)

-- a script runs on an empty database, which is then dropped
abbrev pub PlaysAlone : Bool → Notation Global → Form → Option (List ℕ) → ℕ → Report → Type 0
PlaysAlone strict notation form input most report =
    (after : Database) × (PlaysAs strict notation (empty_database (key_bytes_of form.unsigned) (page_size_of form.wide)) input most after report × (report.database ≡ None))

-- a script runs on a database, which is then written
abbrev pub PlaysOn : Bool → Notation Global → Option (List ℕ) → ℕ → Report → Database → Type 0
PlaysOn strict notation input most report before = (after : Database) × (PlaysAs strict notation before input most after report × (report.database ≡ Some after))

-- the limit of the answers in bytes; by default the largest number of 64 bits
abbrev pub output_limit : Option (Bor (List ℕ)) → Option ℕ
output_limit None = Some 18446744073709551615
output_limit (Some text) = number_of 18446744073709551615 text.now

-- the answers to a script on a database are longer than `most` bytes
abbrev pub IsOverlong : Notation Global → Database → Option (List ℕ) → ℕ → Type 0
IsOverlong notation db input most = IfSome input (λ bytes. AnswersExceed Global notation db bytes most)

-- the faults of a script on an open database, after the script is read
abbrev pub play_causes : Notation Global → Database → Option (List ℕ) → ℕ → Causes
play_causes notation db input most = record no_causes { overlong = IsOverlong notation db input most }

-- the faults of a script on an empty database
abbrev pub alone_causes : Notation Global → Form → Option TimeOfDay → Option (List ℕ) → ℕ → Causes
alone_causes notation form time input most = record (input_causes input) {
  overlong = IsOverlong notation (empty_database (key_bytes_of form.unsigned) (page_size_of form.wide)) (spelled_input time input) most;
}

-- the faults of a script on the database in the files, which are opened before the script is read
abbrev pub script_causes : Notation Global → Form → Given → Option TimeOfDay → Option (List ℕ) → ℕ → Causes
script_causes notation form given time input most = record no_causes {
  opening = IsShut form given;
  reading = CanBeOpened form given;
  long = CanBeOpened form given × IsLongScript input;
  overlong = (db : Database) × (IsOpened form given db × IsOverlong notation db (spelled_input time input) most);
}

-- the fault of an invalid number; for a valid number, the faults that depend on it
abbrev pub numbered_causes : Option ℕ → (ℕ → Causes) → Causes
numbered_causes None causes = record no_causes { numbers = ⊤ }
numbered_causes (Some n) causes = causes n
