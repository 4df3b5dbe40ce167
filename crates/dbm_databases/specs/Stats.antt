-- The arguments of `stats`, its possible reports, and the conditions of its faults.
use Rattle.std.specs.Prelude.{◌≡◌, List, ◌∷◌, codes, Some}
use Rattle.clap.specs.Words.{Shape, Row}
use Rattle.dbm_args.specs.Given.{IsForm, IsWord, is_given}
use Rattle.dbm_databases.specs.declared.stats.Stats.{Stats}
use Rattle.dbm_reports.specs.declared.databases.Given.{Given}
use Rattle.dbm_reports.specs.Causes.{opening_causes}
use Rattle.dbm_reports.specs.Known.{Known}
use Rattle.dbm_reports.specs.Reports.{OnDatabase}
use Rattle.dbm_databases.specs.Listings.{Figures}
use Rattle.dbm_args.specs.CommandLine.{required_word, flag, subcommand, reading_options}
use Rattle.dbm_args.specs.Heads.{head_on}
use Rattle.dbm_args.specs.declared.options.Head.{Head}

abbrev pub stats : Shape
stats = subcommand (codes "stats") (required_word (codes "BASE") ∷ flag (codes "json") ∷ reading_options)

abbrev pub StatsAsks : List Row → Stats → Type 0
StatsAsks rows stats =
    IsWord (codes "BASE") rows stats.base × (IsForm rows stats.form × (stats.json ≡ is_given (codes "json") rows))

abbrev pub stats_in : Stats → Given → Known
stats_in stats given = record {
  reports = λ report. OnDatabase stats.form given (Figures stats.json report);
  causes = opening_causes stats.form given;
}

-- the head of the subcommand: its files and its notation
abbrev pub stats_head : Stats → Head
stats_head stats = head_on (Some stats.base)
