-- The arguments of `list`, its possible reports, and the conditions of its faults.
use Rattle.std.specs.Prelude.{◌≡◌, List, ◌∷◌, codes, IsSomeAnd, Some}
use Rattle.clap.specs.Words.{Shape, Row}
use Rattle.dbm_args.specs.Given.{IsForm, IsOptionGiven, IsNotation, IsWord, is_given}
use Rattle.dbm_databases.specs.declared.list.List.{List as Listed}
use Rattle.std.specs.declared.alloc.Global.{Global}
use Rattle.dbm_script.specs.declared.notations.Notation.{Notation}
use Rattle.dbm_reports.specs.declared.databases.Given.{Given}
use Rattle.dbm_databases.specs.Listings.{listing_causes, Lists}
use Rattle.dbm_reports.specs.Known.{Known}
use Rattle.dbm_reports.specs.Reports.{OnDatabase}
use Rattle.dbm_databases.specs.Rows.{pairs_listing}
use Rattle.dbm_reports.specs.Words.{prefix_asked}
use Rattle.dbm_args.specs.CommandLine.{required_word, flag, null_flag, valued_option, subcommand, with_alias, reading_in}
use Rattle.dbm_args.specs.Heads.{head_on}
use Rattle.dbm_args.specs.declared.options.Head.{Head}

abbrev pub list : Shape
list = with_alias (codes "ls") (subcommand (codes "list") (required_word (codes "BASE") ∷ valued_option (codes "prefix") ∷ null_flag ∷ flag (codes "json") ∷ reading_in))

abbrev pub ListAsks : List Row → Listed → Type 0
ListAsks rows list =
    IsWord (codes "BASE") rows list.base × (IsForm rows list.form × (IsNotation rows list.notation × (IsOptionGiven (codes "prefix") rows list.prefix × ((list.null ≡ is_given (codes "null") rows) × (list.json ≡ is_given (codes "json") rows)))))

abbrev pub list_in : Notation Global → Listed → Given → Known
list_in n list given = record {
  reports = λ report. IsSomeAnd (prefix_asked n list.prefix) (λ begin. OnDatabase list.form given (Lists n (pairs_listing list.null list.json) begin report));
  causes = listing_causes n list.form given list.prefix;
}

-- the head of the subcommand: its files and its notation
abbrev pub list_head : Listed → Head
list_head list = record (head_on (Some list.base)) { notation = list.notation }
