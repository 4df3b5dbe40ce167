-- The arguments of `widen`, its possible reports, and the conditions of its faults.
use Rattle.std.specs.Prelude.{◌≡◌, false, List, ◌∷◌, Some, codes, Bool, true}
use Rattle.clap.specs.Words.{Shape, Row}
use Rattle.dbm_args.specs.declared.options.Form.{Form}
use Rattle.dbm_args.specs.Given.{IsWord, is_given}
use Rattle.dbm_databases.specs.declared.widen.Widen.{Widen}
use Rattle.dbm_reports.specs.declared.databases.Given.{Given}
use Rattle.dbm_reports.specs.Causes.{opening_causes}
use Rattle.dbm_reports.specs.Known.{Known}
use Rattle.dbm_reports.specs.Reports.{OnDatabase, ok_line}
use Rattle.std.specs.FinMap as map
use Rattle.sdbm_addr.specs.Database.{Database, map_of}
use Rattle.sdbm_files.specs.Widened.{widened}
use Rattle.dbm_reports.specs.declared.report.Report.{Report}
use Rattle.dbm_args.specs.CommandLine.{required_word, flag, subcommand, writing_access}
use Rattle.dbm_args.specs.Heads.{head_on}
use Rattle.dbm_args.specs.declared.options.Head.{Head}

abbrev pub widen : Shape
widen = subcommand (codes "widen") (required_word (codes "BASE") ∷ flag (codes "unsigned") ∷ writing_access)

abbrev pub WidenAsks : List Row → Widen → Type 0
WidenAsks rows widen =
    IsWord (codes "BASE") rows widen.base × (widen.unsigned ≡ is_given (codes "unsigned") rows)

-- prints the number of pairs, and the database to write has wide pages
pub record Widens (report : Report) (db : Database) : Type 0 where
  pub text_is : report.text.items ≡ ok_line (map.len (map_of db))
  pub status_is : report.status ≡ 0
  pub written : report.database ≡ Some (widened db)

-- the format of a database with small pages
abbrev pub small_form : Bool → Form
small_form unsigned = record { unsigned = unsigned; wide = false }

abbrev pub widen_in : Widen → Given → Known
widen_in widen given = record {
  reports = λ report. OnDatabase (small_form widen.unsigned) given (Widens report);
  causes = opening_causes (small_form widen.unsigned) given;
}

-- the head of the subcommand: its files and its notation
abbrev pub widen_head : Widen → Head
widen_head widen = record (head_on (Some widen.base)) { writes = true }
