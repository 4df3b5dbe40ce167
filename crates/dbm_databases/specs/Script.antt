-- The arguments of `script`, its possible reports, and the conditions of its faults.
use Rattle.std.specs.Prelude.{◌≡◌, List, ◌∷◌, Some, codes, Option, ℕ, None, IsSomeAnd, is_some}
use Rattle.clap.specs.Words.{Shape, Row}
use Rattle.std.specs.Borrow.{Bor}
use Rattle.dbm_args.specs.Given.{IsForm, IsOptionGiven, IsNotation, is_given}
use Rattle.dbm_databases.specs.declared.script.Script.{Script}
use Rattle.std.specs.declared.alloc.Global.{Global}
use Rattle.dbm_script.specs.declared.notations.Notation.{Notation}
use Rattle.dbm_reports.specs.declared.databases.Given.{Given}
use Rattle.dbm_databases.specs.Playing.{alone_causes, numbered_causes, script_causes, output_limit, spelled_input, PlaysAlone, PlaysOn}
use Rattle.dbm_reports.specs.Known.{Known}
use Rattle.dbm_reports.specs.Reports.{OnDatabase}
use Rattle.dbm_args.specs.CommandLine.{flag, valued_option, subcommand, writing_in}
use Rattle.dbm_args.specs.Heads.{head_on}
use Rattle.dbm_args.specs.declared.options.Head.{Head}

abbrev pub script : Shape
script = subcommand (codes "script") (valued_option (codes "base") ∷ valued_option (codes "max-output") ∷ flag (codes "strict") ∷ flag (codes "clock") ∷ writing_in)

abbrev pub ScriptAsks : List Row → Script → Type 0
ScriptAsks rows script =
    IsOptionGiven (codes "base") rows script.base × (IsOptionGiven (codes "max-output") rows script.max_output × (IsForm rows script.form × (IsNotation rows script.notation × ((script.strict ≡ is_given (codes "strict") rows) × ((script.clock ≡ is_given (codes "clock") rows) × (script.time ≡ None))))))

-- the possible reports and the faults of a script, without and with a base
abbrev pub script_in : Notation Global → Option (Bor (List ℕ)) → Script → Given → Option (List ℕ) → Known
script_in n None script given input = record {
  reports = λ report. IsSomeAnd (output_limit script.max_output) (λ most. PlaysAlone script.strict n script.form (spelled_input script.time input) most report);
  causes = numbered_causes (output_limit script.max_output) (alone_causes n script.form script.time input);
}
script_in n (Some base) script given input = record {
  reports = λ report. IsSomeAnd (output_limit script.max_output) (λ most. OnDatabase script.form given (PlaysOn script.strict n (spelled_input script.time input) most report));
  causes = numbered_causes (output_limit script.max_output) (script_causes n script.form given script.time input);
}

-- the head of the subcommand: its files and its notation
abbrev pub script_head : Script → Head
script_head script = record (head_on script.base) { writes = is_some script.base; notation = script.notation }
