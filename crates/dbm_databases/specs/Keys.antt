-- The arguments of `keys`, its possible reports, and the conditions of its faults.
use Rattle.std.specs.Prelude.{◌≡◌, List, ◌∷◌, codes, IsSomeAnd, Some}
use Rattle.clap.specs.Words.{Shape, Row}
use Rattle.dbm_args.specs.Given.{IsForm, IsOptionGiven, IsNotation, IsWord, is_given}
use Rattle.dbm_databases.specs.declared.keys.Keys.{Keys}
use Rattle.std.specs.declared.alloc.Global.{Global}
use Rattle.dbm_script.specs.declared.notations.Notation.{Notation}
use Rattle.dbm_reports.specs.declared.databases.Given.{Given}
use Rattle.dbm_databases.specs.Listings.{listing_causes, Lists}
use Rattle.dbm_reports.specs.Known.{Known}
use Rattle.dbm_reports.specs.Reports.{OnDatabase}
use Rattle.dbm_databases.specs.Rows.{keys_listing}
use Rattle.dbm_reports.specs.Words.{prefix_asked}
use Rattle.dbm_args.specs.CommandLine.{required_word, flag, null_flag, valued_option, subcommand, reading_options}
use Rattle.dbm_args.specs.Heads.{head_on}
use Rattle.dbm_args.specs.declared.options.Head.{Head}

abbrev pub keys : Shape
keys = subcommand (codes "keys") (required_word (codes "BASE") ∷ valued_option (codes "prefix") ∷ null_flag ∷ flag (codes "text") ∷ reading_options)

abbrev pub KeysAsks : List Row → Keys → Type 0
KeysAsks rows keys =
    IsWord (codes "BASE") rows keys.base × (IsForm rows keys.form × (IsNotation rows keys.notation × (IsOptionGiven (codes "prefix") rows keys.prefix × (keys.null ≡ is_given (codes "null") rows))))

abbrev pub keys_in : Notation Global → Keys → Given → Known
keys_in n keys given = record {
  reports = λ report. IsSomeAnd (prefix_asked n keys.prefix) (λ begin. OnDatabase keys.form given (Lists n (keys_listing keys.null) begin report));
  causes = listing_causes n keys.form given keys.prefix;
}

-- the head of the subcommand: its files and its notation
abbrev pub keys_head : Keys → Head
keys_head keys = record (head_on (Some keys.base)) { notation = keys.notation }
