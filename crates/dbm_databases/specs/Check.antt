-- The arguments of `check`, its possible reports, and the conditions of its faults.
use Rattle.std.specs.Prelude.{◌≡◌, List, ◌∷◌, codes, Some}
use Rattle.clap.specs.Words.{Shape, Row}
use Rattle.dbm_args.specs.Given.{IsForm, IsWord, is_given}
use Rattle.dbm_databases.specs.declared.check.Check.{Check}
use Rattle.dbm_reports.specs.declared.databases.Given.{Given}
use Rattle.dbm_reports.specs.Causes.{opening_causes}
use Rattle.dbm_reports.specs.Known.{Known}
use Rattle.dbm_reports.specs.Reports.{OnDatabase}
use Rattle.dbm_databases.specs.Listings.{PrintsCount}
use Rattle.dbm_args.specs.CommandLine.{required_word, flag, subcommand, reading_options}
use Rattle.dbm_args.specs.Heads.{head_on}
use Rattle.dbm_args.specs.declared.options.Head.{Head}

abbrev pub check : Shape
check = subcommand (codes "check") (required_word (codes "BASE") ∷ flag (codes "json") ∷ reading_options)

abbrev pub CheckAsks : List Row → Check → Type 0
CheckAsks rows check =
    IsWord (codes "BASE") rows check.base × (IsForm rows check.form × (check.json ≡ is_given (codes "json") rows))

abbrev pub check_in : Check → Given → Known
check_in check given = record {
  reports = λ report. OnDatabase check.form given (PrintsCount check.json report);
  causes = opening_causes check.form given;
}

-- the head of the subcommand: its files and its notation
abbrev pub check_head : Check → Head
check_head check = head_on (Some check.base)
