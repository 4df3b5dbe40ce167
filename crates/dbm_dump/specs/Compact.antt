-- The arguments of `compact`, its possible reports, and the conditions of its faults.
use Rattle.std.specs.Prelude.{◌≡◌, ◌≢◌, ◌⊎◌, List, [], ◌∷◌, ◌++◌, Some, codes, true}
use Rattle.std.specs.FinMap as map
use Rattle.clap.specs.Words.{Shape, Row}
use Rattle.sdbm_addr.specs.declared.KeyBytes.{KeyBytes}
use Rattle.sdbm_addr.specs.declared.PageSize.{PageSize}
use Rattle.sdbm_addr.specs.declared.Mode.TheVariants.{Insert}
use Rattle.sdbm_addr.specs.Database.{Database, empty_database, map_of}
use Rattle.sdbm_addr.specs.Pairs.{Pair}
use Rattle.dbm_args.specs.CommandLine.{required_word, subcommand, writing_options}
use Rattle.dbm_args.specs.Given.{IsForm, IsWord}
use Rattle.dbm_args.specs.Heads.{head_on}
use Rattle.dbm_args.specs.declared.options.Head.{Head}
use Rattle.dbm_reports.specs.Causes.{opening_causes}
use Rattle.dbm_reports.specs.Known.{Known}
use Rattle.dbm_reports.specs.Reports.{OnDatabase, ok_line}
use Rattle.dbm_reports.specs.declared.databases.Given.{Given}
use Rattle.dbm_reports.specs.declared.report.Report.{Report}
use Rattle.dbm_dump.specs.Loading.{IsStoreFault, StoresAll}
use Rattle.dbm_dump.specs.declared.compact.Compact.{Compact}
use Rattle.dbm_dump.specs.declared.fault.DumpFault.{DumpFault}
use Rattle.dbm_dump.specs.declared.fault.DumpFault.TheVariants.{NoMemory}

abbrev pub compact : Shape
compact = subcommand (codes "compact") (required_word (codes "BASE") ∷ writing_options)

abbrev pub CompactAsks : List Row → Compact → Type 0
CompactAsks rows compact = IsWord (codes "BASE") rows compact.base × IsForm rows compact.form

-- the head of the subcommand: its files and its notation
abbrev pub compact_head : Compact → Head
compact_head compact = record (head_on (Some compact.base)) { writes = true }

-- the pair does not fit in the database
abbrev pub IsUnfit : Database → Pair → Type 0
IsUnfit db e = (fault : DumpFault) × ((fault ≢ NoMemory) × IsStoreFault Insert db e 0 fault)

-- the pairs were stored in an empty database, in order, up to the first that does not fit
pub record UnfitAmong (kind : KeyBytes) (size : PageSize) (pairs : List Pair) : Type 0 where
  pub done : List Pair
  pub pair : Pair
  pub rest : List Pair
  pub split : pairs ≡ done ++ pair ∷ rest
  pub mid : Database
  pub stores : StoresAll Insert (empty_database kind size) done mid
  pub unfit : IsUnfit mid pair

-- `after` results if the pairs of `db` are stored in an empty database, in the order of their keys
abbrev pub IsStoredAnew : Database → Database → Type 0
IsStoredAnew db after = StoresAll Insert (empty_database db.kind db.size) (map.entries (map_of db)) after

-- prints the number of pairs; the database to write is the new one, in which all pairs are stored
pub record IsCompacted (report : Report) (db : Database) : Type 0 where
  pub after : Database
  pub stores : IsStoredAnew db after
  pub text_is : report.text.items ≡ ok_line (map.len (map_of db))
  pub status_is : report.status ≡ 0
  pub written : report.database ≡ Some after

-- prints `crowded`, because a pair does not fit in the new database; the database to write is the old one
pub record IsKeptWhole (report : Report) (db : Database) : Type 0 where
  pub unfit : UnfitAmong db.kind db.size (map.entries (map_of db))
  pub text_is : report.text.items ≡ codes "crowded" ++ 10 ∷ []
  pub status_is : report.status ≡ 1
  pub written : report.database ≡ Some db

abbrev pub Compacts : Report → Database → Type 0
Compacts report db = IsCompacted report db ⊎ IsKeptWhole report db

abbrev pub compact_in : Compact → Given → Known
compact_in compact given = record {
  reports = λ report. OnDatabase compact.form given (Compacts report);
  causes = opening_causes compact.form given;
}
