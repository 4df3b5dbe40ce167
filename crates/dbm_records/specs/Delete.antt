-- The arguments of `delete`, its possible reports, and the conditions of its faults.
use Rattle.std.specs.Prelude.{◌≡◌, List, ◌∷◌, codes, None, Some, true}
use Rattle.clap.specs.Words.{Shape, Row}
use Rattle.dbm_args.specs.Given.{IsForm, IsNotation, IsWord, is_given}
use Rattle.dbm_records.specs.declared.delete.Delete.{Delete}
use Rattle.std.specs.declared.alloc.Global.{Global}
use Rattle.dbm_script.specs.declared.notations.Notation.{Notation}
use Rattle.dbm_reports.specs.declared.databases.Given.{Given}
use Rattle.dbm_records.specs.Commands.{command_causes, OnCommand, delete_words}
use Rattle.dbm_reports.specs.Known.{Known}
use Rattle.dbm_reports.specs.Words.{word_asked}
use Rattle.dbm_reports.specs.Reports.{ChangesFiles}
use Rattle.dbm_args.specs.CommandLine.{flag, required_word, subcommand, with_alias, writing_in}
use Rattle.dbm_args.specs.Heads.{head_on}
use Rattle.dbm_args.specs.declared.options.Head.{Head}

abbrev pub delete : Shape
delete = with_alias (codes "del") (subcommand (codes "delete") (required_word (codes "BASE") ∷ required_word (codes "KEY") ∷ flag (codes "raw-key") ∷ flag (codes "quick") ∷ writing_in))

abbrev pub DeleteAsks : List Row → Delete → Type 0
DeleteAsks rows delete =
    IsWord (codes "BASE") rows delete.base × (IsForm rows delete.form × (IsNotation rows delete.notation × (IsWord (codes "KEY") rows delete.key × (delete.raw_key ≡ is_given (codes "raw-key") rows))))

abbrev pub delete_in : Notation Global → Delete → Given → Known
delete_in n delete given = record {
  reports = λ report. OnCommand n delete.form given (delete_words (word_asked delete.raw_key n delete.key.now)) (λ db command. ChangesFiles n db command None report);
  causes = command_causes n delete.form given (delete_words (word_asked delete.raw_key n delete.key.now));
}

-- the head of the subcommand: its files and its notation
abbrev pub delete_head : Delete → Head
delete_head delete = record (head_on (Some delete.base)) { writes = true; notation = delete.notation }
