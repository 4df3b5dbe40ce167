-- The arguments of `dump`, its results and its errors.
use Rattle.std.specs.Prelude.{◌≡◌, List, ◌∷◌, Option, Some, None, codes, IsSomeAnd}
use Rattle.std.specs.FinMap as map
use Rattle.clap.specs.Words.{Shape, Row}
use Rattle.sdbm_addr.specs.Database.{Database, map_of}
use Rattle.dbm_args.specs.CommandLine.{required_word, valued_option, subcommand, reading_options}
use Rattle.dbm_args.specs.Given.{IsForm, IsNotation, IsOptionGiven, IsWord}
use Rattle.dbm_dump.specs.Formats.{format_of}
use Rattle.std.specs.declared.alloc.Global.{Global}
use Rattle.dbm_script.specs.declared.notations.Notation.{Notation}
use Rattle.dbm_dump.specs.Texts.{dump_text, dumped_pairs}
use Rattle.dbm_dump.specs.declared.format.Format.{Format}
use Rattle.dbm_reports.specs.Causes.{opening_causes}
use Rattle.dbm_reports.specs.Reports.{OnDatabase, Prints}
use Rattle.dbm_reports.specs.declared.databases.Given.{Given}
use Rattle.dbm_reports.specs.declared.report.Report.{Report}
use Rattle.dbm_args.specs.declared.options.Form.{Form}
use Rattle.dbm_dump.specs.Causes.{DumpCauses, DumpKnown, bad_format, no_dump}
use Rattle.dbm_dump.specs.declared.dump.Dump.{Dump}
use Rattle.dbm_args.specs.Heads.{head_on}
use Rattle.dbm_args.specs.declared.options.Head.{Head}

abbrev pub dump : Shape
dump = subcommand (codes "dump") (required_word (codes "BASE") ∷ valued_option (codes "format") ∷ valued_option (codes "as") ∷ reading_options)

abbrev pub DumpAsks : List Row → Dump → Type 0
DumpAsks rows dump = IsWord (codes "BASE") rows dump.base × (IsForm rows dump.form × (IsNotation rows dump.notation × IsOptionGiven (codes "format") rows dump.format))

-- prints all pairs, sorted by key; with a layout, the values are plain text
abbrev pub Dumps : Notation Global → Format → Report → Database → Type 0
Dumps n format report db = Prints (dump_text format db.kind db.size (dumped_pairs n (map.entries (map_of db)))) report

-- the format name is checked before the files are opened
abbrev pub dump_causes : Option Format → Form → Given → DumpCauses
dump_causes None form given = bad_format
dump_causes (Some format) form given = no_dump (opening_causes form given)

abbrev pub dump_in : Notation Global → Dump → Given → DumpKnown
dump_in n dump given = record {
  reports = λ report. IsSomeAnd (format_of dump.format) (λ format. OnDatabase dump.form given (Dumps n format report));
  causes = dump_causes (format_of dump.format) dump.form given;
}

-- the head of the subcommand: its files and its notation
abbrev pub dump_head : Dump → Head
dump_head dump = record (head_on (Some dump.base)) { notation = dump.notation }
