-- The arguments of `run`, its possible reports, and the conditions of its faults.
use Rattle.std.specs.Prelude.{◌≡◌, ℕ, List, ◌∷◌, codes, Some, true}
use Rattle.clap.specs.Words.{Shape, Row}
use Rattle.dbm_args.specs.Given.{IsForm, IsOptionGiven, IsNotation, IsWord, is_given}
use Rattle.dbm_records.specs.declared.run.Run.{Run}
use Rattle.std.specs.declared.alloc.Global.{Global}
use Rattle.dbm_script.specs.declared.notations.Notation.{Notation}
use Rattle.dbm_reports.specs.declared.databases.Given.{Given}
use Rattle.dbm_records.specs.Running.{RunTexts, run_causes, OnRun}
use Rattle.dbm_reports.specs.Known.{Known}
use Rattle.dbm_reports.specs.Words.{word_asked}
use Rattle.dbm_args.specs.CommandLine.{required_word, flag, valued_option, subcommand, writing_in}
use Rattle.dbm_args.specs.Heads.{head_on}
use Rattle.dbm_args.specs.declared.options.Head.{Head}

abbrev pub run : Shape
run = subcommand (codes "run") (required_word (codes "BASE") ∷ required_word (codes "KEY") ∷ required_word (codes "FILE") ∷ required_word (codes "ARG") ∷ required_word (codes "BLANK") ∷ required_word (codes "NOW") ∷ valued_option (codes "expect") ∷ flag (codes "image") ∷ flag (codes "raw-key") ∷ flag (codes "quick") ∷ writing_in)

abbrev pub RunAsks : List Row → Run → Type 0
RunAsks rows run =
    IsWord (codes "BASE") rows run.base × (IsForm rows run.form × (IsNotation rows run.notation × (IsWord (codes "KEY") rows run.key × (IsWord (codes "FILE") rows run.file × (IsWord (codes "ARG") rows run.arg × (IsWord (codes "BLANK") rows run.blank × (IsWord (codes "NOW") rows run.now × (IsOptionGiven (codes "expect") rows run.expect × ((run.image ≡ is_given (codes "image") rows) × (run.raw_key ≡ is_given (codes "raw-key") rows))))))))))

-- the words of a run, given the word of its key
abbrev pub texts_by : List ℕ → Run → RunTexts
texts_by key run = record { key = key; arg = run.arg.now; blank = run.blank.now; now = run.now.now; expect = run.expect }

abbrev pub texts_of : Notation Global → Run → RunTexts
texts_of n run = texts_by (word_asked run.raw_key n run.key.now) run

abbrev pub run_in : Notation Global → Run → Given → Known
run_in n run given = record {
  reports = OnRun n run.form given (texts_of n run) run.image;
  causes = run_causes n run.form given (texts_of n run) run.image;
}

-- the head of the subcommand: its files and its notation
abbrev pub run_head : Run → Head
run_head run = record (head_on (Some run.base)) { file = Some run.file; image = run.image; writes = true; notation = run.notation }
