-- Running a script after its bytes were read.
use Rattle.std.proofs.Common.{◌≡◌, ◌≤◌, ℕ, List, Option, Some, None, Bor, IfSome, length, subst, sym, Bool, true, false, inl, inr, ap, ◌∙◌}
use Rattle.std.specs.declared.alloc.Global.{Global}
use Rattle.sdbm_addr.specs.Database.{Database}
use Rattle.dbm_script.specs.Script.{AnswersExceed, IsScriptRun}
use Rattle.dbm_script.proofs.Runs.{known_read}
use Rattle.dbm_script.specs.Shorthand.{spelled_text}
use Rattle.dbm_script.specs.declared.notations.Notation.{Notation}
use Rattle.dbm_script.specs.declared.shorthand.LineKind.TheVariants.{OfScript}
use Rattle.dbm_script.specs.declared.shorthand.TimeOfDay.{TimeOfDay}
use Rattle.dbm_reports.specs.declared.report.Report.{Report}
use Rattle.dbm_databases.specs.declared.script.Script.{Script}
use Rattle.dbm_reports.specs.declared.databases.Given.{Given}
use Rattle.dbm_databases.specs.Playing.{output_limit, IsOverlong, PlaysScript, PlaysAlone, PlaysOn, PlaysAs, has_bad_line, spelled_input}
use Rattle.dbm_reports.specs.Reports.{OnDatabase}
use Rattle.dbm_databases.specs.Script.{script_in}
use Rattle.dbm_reports.proofs.Asked.{within}

-- from the bytes that were read to the known bytes
pub plays_known : (n : Notation Global) (before : Database) (known : Option (List ℕ)) (read : List ℕ) (most : ℕ) (after : Database) (report : Report)
    → IfSome known (λ input. read ≡ input) → PlaysScript n before (Some read) most after report → PlaysScript n before known most after report
plays_known n before known read most after report is plays = record {
  runs = known_read known read (λ bytes. IsScriptRun Global n before bytes report.text.items after) is plays.runs;
  short = plays.short;
  kind = plays.kind;
  size = plays.size;
  status_is = plays.status_is;
}

-- the same for the expanded script
pub spelled_read : (time : Option TimeOfDay) (known : Option (List ℕ)) (read script : List ℕ) → IfSome known (λ input. read ≡ input) → script ≡ spelled_text OfScript time read
    → IfSome (spelled_input time known) (λ input. script ≡ input)
spelled_read time None read script is spells = tt
spelled_read time (Some input) read script is spells = spells ∙ ap (spelled_text OfScript time) is

-- another report with the same text and status
pub plays_text : (n : Notation Global) (before : Database) (known : Option (List ℕ)) (most : ℕ) (after : Database) (report other : Report)
    → other.text.items ≡ report.text.items → other.status ≡ report.status → PlaysScript n before known most after report → PlaysScript n before known most after other
plays_text n before known most after report other text status plays = record {
  runs = subst (λ (t : List ℕ). IfSome known (λ bytes. IsScriptRun Global n before bytes t after)) (sym text) plays.runs;
  short = subst (λ (t : List ℕ). length t ≤ most) (sym text) plays.short;
  kind = plays.kind;
  size = plays.size;
  status_is = status ∙ plays.status_is;
}

-- the same for a script that may be strict
pub asked_known : (strict : Bool) (n : Notation Global) (before : Database) (known : Option (List ℕ)) (read : List ℕ) (most : ℕ) (after : Database) (report : Report)
    → IfSome known (λ input. read ≡ input) → PlaysAs strict n before (Some read) most after report → PlaysAs strict n before known most after report
asked_known false n before known read most after report is plays = plays_known n before known read most after report is plays
asked_known true n before known read most after report is (inl plays) =
    inl (known_read known read (λ bytes. has_bad_line n bytes ≡ false) is plays.0, plays_known n before known read most after report is plays.1)
asked_known true n before known read most after report is (inr barred) = inr (known_read known read (λ bytes. has_bad_line n bytes ≡ true) is barred.0, barred.1)

pub asked_text : (strict : Bool) (n : Notation Global) (before : Database) (known : Option (List ℕ)) (most : ℕ) (after : Database) (report other : Report)
    → other.text.items ≡ report.text.items → other.status ≡ report.status → PlaysAs strict n before known most after report → PlaysAs strict n before known most after other
asked_text false n before known most after report other text status plays = plays_text n before known most after report other text status plays
asked_text true n before known most after report other text status (inl plays) = inl (plays.0, plays_text n before known most after report other text status plays.1)
asked_text true n before known most after report other text status (inr barred) = inr (
  barred.0,
  record {
    text_is = text ∙ barred.1.text_is;
    same = barred.1.same;
    status_is = status ∙ barred.1.status_is;
  },
)

-- the same if the answers are too long
pub overlong_known : (n : Notation Global) (before : Database) (known : Option (List ℕ)) (read : List ℕ) (most : ℕ) → IfSome known (λ input. read ≡ input) → IsOverlong n before (Some read) most → IsOverlong n before known most
overlong_known n before known read most is long = known_read known read (λ bytes. AnswersExceed Global n before bytes most) is long

-- the reports after the limit of a script, on an empty database and on the database of the files
pub limited_alone : (n : Notation Global) (script : Script) (given : Given) (input : Option (List ℕ)) (most : ℕ) (report : Report) → script.base ≡ None → output_limit script.max_output ≡ Some most
    → PlaysAlone script.strict n script.form (spelled_input script.time input) most report → (script_in n script.base script given input).reports report
limited_alone n script given input most report none is plays =
    subst (λ (base : Option (Bor (List ℕ))). (script_in n base script given input).reports report) (sym none)
    (within (output_limit script.max_output) most (λ m. PlaysAlone script.strict n script.form (spelled_input script.time input) m report) is plays)

pub limited_on : (n : Notation Global) (base : Bor (List ℕ)) (script : Script) (given : Given) (input : Option (List ℕ)) (most : ℕ) (report : Report) → script.base ≡ Some base → output_limit script.max_output ≡ Some most
    → OnDatabase script.form given (PlaysOn script.strict n (spelled_input script.time input) most report) → (script_in n script.base script given input).reports report
limited_on n base script given input most report some is plays =
    subst (λ (o : Option (Bor (List ℕ))). (script_in n o script given input).reports report) (sym some)
    (within (output_limit script.max_output) most (λ m. OnDatabase script.form given (PlaysOn script.strict n (spelled_input script.time input) m report)) is plays)
