-- The arguments of `count`, its possible reports, and the conditions of its faults.
use Rattle.std.specs.Prelude.{◌≡◌, ℕ, ◌++◌, List, [], ◌∷◌, codes, decimal, length, IsSomeAnd, Some}
use Rattle.std.specs.FinMap as map
use Rattle.std.specs.declared.alloc.Global.{Global}
use Rattle.clap.specs.Words.{Shape, Row}
use Rattle.sdbm_addr.specs.Database.{Database, map_of}
use Rattle.dbm_args.specs.CommandLine.{required_word, flag, valued_option, subcommand, reading_options}
use Rattle.dbm_args.specs.Given.{IsForm, IsOptionGiven, IsNotation, IsWord}
use Rattle.dbm_args.specs.Heads.{head_on}
use Rattle.dbm_args.specs.declared.options.Head.{Head}
use Rattle.dbm_script.specs.declared.notations.Notation.{Notation}
use Rattle.dbm_reports.specs.declared.databases.Given.{Given}
use Rattle.dbm_reports.specs.declared.report.Report.{Report}
use Rattle.dbm_reports.specs.Known.{Known}
use Rattle.dbm_reports.specs.Reports.{OnDatabase, Prints}
use Rattle.dbm_databases.specs.Listings.{listing_causes}
use Rattle.dbm_databases.specs.Rows.{chosen}
use Rattle.dbm_reports.specs.Words.{prefix_asked}
use Rattle.dbm_databases.specs.declared.count.Count.{Count}

abbrev pub count : Shape
count = subcommand (codes "count") (required_word (codes "BASE") ∷ valued_option (codes "prefix") ∷ flag (codes "text") ∷ reading_options)

abbrev pub CountAsks : List Row → Count → Type 0
CountAsks rows count =
    IsWord (codes "BASE") rows count.base × (IsForm rows count.form × (IsNotation rows count.notation × IsOptionGiven (codes "prefix") rows count.prefix))

-- the line `count N`, which is also a script's answer to `count`
abbrev pub count_line : ℕ → List ℕ
count_line n = codes "count " ++ (decimal n ++ 10 ∷ [])

-- prints the number of pairs whose keys begin with a prefix
abbrev pub CountsChosen : List ℕ → Report → Database → Type 0
CountsChosen prefix report db = Prints (count_line (length (chosen prefix (map.entries (map_of db))))) report

abbrev pub count_in : Notation Global → Count → Given → Known
count_in n count given = record {
  reports = λ report. IsSomeAnd (prefix_asked n count.prefix) (λ begin. OnDatabase count.form given (CountsChosen begin report));
  causes = listing_causes n count.form given count.prefix;
}

-- the head of the subcommand: its files and its notation
abbrev pub count_head : Count → Head
count_head count = record (head_on (Some count.base)) { notation = count.notation }
