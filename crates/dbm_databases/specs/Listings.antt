-- The output of the listing subcommands, and the conditions of their faults.
use Rattle.std.specs.Prelude.{◌≡◌, ℕ, Bool, true, false, cond, List, codes, Option, None, ◌≢◌}
use Rattle.std.specs.FinMap as map
use Rattle.std.specs.Borrow.{Bor}
use Rattle.std.specs.declared.alloc.Global.{Global}
use Rattle.sdbm_addr.specs.Database.{Database, map_of}
use Rattle.dbm_stats.specs.Stats.{AreStats}
use Rattle.dbm_stats.specs.declared.stats.Stats.{Stats}
use Rattle.dbm_stats.specs.Figures.{figures_object, figures_text}
use Rattle.dbm_stats.specs.Json.{count_object}
use Rattle.dbm_script.specs.declared.notations.Notation.{Notation}
use Rattle.dbm_args.specs.declared.options.Form.{Form}
use Rattle.dbm_reports.specs.declared.report.Report.{Report}
use Rattle.dbm_reports.specs.declared.databases.Given.{Given}
use Rattle.dbm_databases.specs.Rows.{rows}
use Rattle.dbm_reports.specs.Words.{prefix_asked}
use Rattle.dbm_databases.specs.declared.rows.Listing.{Listing}
use Rattle.dbm_script.specs.Notation.{reads_hex}
use Rattle.dbm_reports.specs.Databases.{IsShut}
use Rattle.dbm_reports.specs.Reports.{Prints, ok_line}
use Rattle.dbm_reports.specs.Causes.{Causes, no_causes}

-- prints the pairs whose keys begin with a prefix, sorted by key
abbrev pub Lists : Notation Global → Listing → List ℕ → Report → Database → Type 0
Lists notation listing prefix report db = Prints (rows notation listing prefix (map.entries (map_of db))) report

-- a number of pairs, as a line or as a JSON object
abbrev pub count_shown : Bool → ℕ → List ℕ
count_shown json n = cond json (count_object (codes "ok") n) (ok_line n)

-- prints the number of pairs
abbrev pub PrintsCount : Bool → Report → Database → Type 0
PrintsCount json report db = Prints (count_shown json (map.len (map_of db))) report

-- the statistics of a database, as text or as a JSON object
abbrev pub figures_shown : Bool → Stats Global → List ℕ
figures_shown json stats = cond json (figures_object stats) (figures_text stats)

-- prints the statistics of a database
abbrev pub Figures : Bool → Report → Database → Type 0
Figures json report db = (stats : Stats Global) × (AreStats db stats × Prints (figures_shown json stats) report)

-- the faults of a listing: its prefix is checked before the files
abbrev pub listing_causes : Notation Global → Form → Given → Option (Bor (List ℕ)) → Causes
listing_causes notation form given prefix = record no_causes {
  words = (reads_hex notation ≡ true) × (prefix_asked notation prefix ≡ None);
  texts = (reads_hex notation ≡ false) × (prefix_asked notation prefix ≡ None);
  opening = λ reason. (prefix_asked notation prefix ≢ None) × IsShut form given reason;
}
