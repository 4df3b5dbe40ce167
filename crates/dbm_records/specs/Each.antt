-- The arguments of `each`, its possible reports, and the conditions of its faults.
use Rattle.std.specs.Prelude.{◌≡◌, ◌⊎◌, ℕ, List, ◌∷◌, codes, not, Some, None, IsSome, true, false}
use Rattle.std.specs.declared.alloc.Global.{Global}
use Rattle.clap.specs.Words.{Shape, Row}
use Rattle.sdbm_addr.specs.Database.{Database}
use Rattle.dbm_script.specs.Notation.{bytes_of_word, reads_hex}
use Rattle.dbm_script.specs.Numbers.{number_of}
use Rattle.dbm_script.specs.declared.notations.Notation.{Notation}
use Rattle.dbm_args.specs.CommandLine.{required_word, flag, valued_option, subcommand, writing_in}
use Rattle.dbm_args.specs.Given.{IsForm, IsNotation, IsOptionGiven, IsWord, is_given}
use Rattle.dbm_args.specs.Heads.{head_on}
use Rattle.dbm_args.specs.declared.options.Head.{Head}
use Rattle.dbm_reports.specs.Causes.{Causes, no_causes}
use Rattle.dbm_reports.specs.Databases.{IsOpened, IsShut}
use Rattle.dbm_reports.specs.Known.{Known}
use Rattle.dbm_reports.specs.Reports.{IsFileImage}
use Rattle.dbm_reports.specs.Words.{prefix_asked}
use Rattle.dbm_reports.specs.declared.databases.Given.{Given}
use Rattle.dbm_reports.specs.declared.report.Report.{Report}
use Rattle.dbm_records.specs.EachRuns.{RunsEach}
use Rattle.dbm_records.specs.Running.{program_causes}
use Rattle.dbm_records.specs.declared.each.Each.{Each}
use Rattle.dbm_records.specs.declared.each_run.EachWords.{EachWords}

abbrev pub each : Shape
each = subcommand (codes "each") (required_word (codes "BASE") ∷ required_word (codes "FILE") ∷ required_word (codes "ARG") ∷ required_word (codes "NOW") ∷ valued_option (codes "prefix") ∷ flag (codes "dry-run") ∷ flag (codes "image") ∷ writing_in)

abbrev pub EachAsks : List Row → Each → Type 0
EachAsks rows each =
    IsWord (codes "BASE") rows each.base × (IsForm rows each.form × (IsNotation rows each.notation × (IsWord (codes "FILE") rows each.file × (IsWord (codes "ARG") rows each.arg × (IsWord (codes "NOW") rows each.now × (IsOptionGiven (codes "prefix") rows each.prefix × ((each.image ≡ is_given (codes "image") rows) × (each.dry_run ≡ is_given (codes "dry-run") rows))))))))

-- the head of the subcommand: its files and its notation
abbrev pub each_head : Each → Head
each_head each = record (head_on (Some each.base)) { file = Some each.file; image = each.image; writes = not each.dry_run; notation = each.notation }

-- the meaning of the arguments, except the program
pub record AreEachWords (n : Notation Global) (each : Each) (words : EachWords) : Type 0 where
  pub arg : bytes_of_word n each.arg.now ≡ Some words.arg
  pub prefix : prefix_asked n each.prefix ≡ Some words.prefix
  pub now : number_of 18446744073709551615 each.now.now ≡ Some words.time

-- the program's argument or the prefix is invalid
abbrev pub HasBadWord : Notation Global → Each → Type 0
HasBadWord n each = (bytes_of_word n each.arg.now ≡ None) ⊎ (prefix_asked n each.prefix ≡ None)

-- the arguments are valid
abbrev pub MeansEach : Notation Global → Each → Type 0
MeansEach n each = (words : EachWords) × AreEachWords n each words

-- the faults of the arguments; the time is read after the program's argument and the prefix
abbrev pub word_causes : Notation Global → Each → Causes
word_causes n each = record no_causes {
  words = (reads_hex n ≡ true) × HasBadWord n each;
  texts = (reads_hex n ≡ false) × HasBadWord n each;
  numbers = (IsSome (bytes_of_word n each.arg.now) × IsSome (prefix_asked n each.prefix)) × (number_of 18446744073709551615 each.now.now ≡ None);
}

-- the faults of the subcommand; the arguments are read before the database is opened
abbrev pub each_causes : Notation Global → Each → Given → Causes
each_causes n each given = record no_causes {
  words = (word_causes n each).words;
  texts = (word_causes n each).texts;
  numbers = (word_causes n each).numbers;
  opening = λ reason. MeansEach n each × IsShut each.form given reason;
  no_text = MeansEach n each × (program_causes each.form given each.image).no_text;
  assembling = λ fault. MeansEach n each × (program_causes each.form given each.image).assembling fault;
}

-- the report of the runs of the program in the program's file, on the database in the files
pub record OnEach (n : Notation Global) (each : Each) (given : Given) (report : Report) : Type 0 where
  pub before : Database
  pub opened : IsOpened each.form given before
  pub words : EachWords
  pub are : AreEachWords n each words
  pub image : List ℕ
  pub image_is : IsFileImage each.image given.file.items image
  pub runs : RunsEach before words image each.dry_run report

abbrev pub each_in : Notation Global → Each → Given → Known
each_in n each given = record {
  reports = OnEach n each given;
  causes = each_causes n each given;
}
