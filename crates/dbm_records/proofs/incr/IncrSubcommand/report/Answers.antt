use Rattle.std.proofs.Common.{◌≡◌, ℕ, List, Some, sym, subst, ◌∙◌}
use Rattle.std.specs.declared.alloc.Global.{Global}
use Rattle.dbm_script.specs.Notation.{bytes_of_word}
use Rattle.dbm_script.specs.declared.run_words.RunWords.{RunWords}
use Rattle.dbm_records.specs.Running.{RunsImage}
use Rattle.dbm_records.proofs.incr.IncrSubcommand.report.Goals as goal

pub returns-clause-ok : goal.returns-clause-ok
returns-clause-ok g c = record {
  before = c.in_ok-database.database;
  opened = c.in_ok-database.ensures.ok;
  key = c.in_ok-key.key;
  key_is = subst (λ (word : List ℕ). bytes_of_word c.args.notation.now word ≡ Some c.in_ok-key.key) (c.as_slice.ensures.value ∙ c.in_ok-word.ensures) c.in_ok-key.ensures.ok;
  numbers = c.in-Some.numbers;
  numbers_are = sym c.numbers_of.ensures ∙ c.in-Some.is;
  image = c.as_slice-2.result.now;
  image_is = rw c.as_slice-2.ensures.value c.in_ok-image.ensures;
  run = c.in_ok-report.report;
  runs = subst (λ (words : RunWords Global). RunsImage c.args.notation.now c.in_ok-database.database words (Some 1) c.as_slice-2.result.now c.in_ok-report.report)
      (λ i. record { key = c.key.view_is i; arg = c.in_ok-counter_argument.ensures i; blank = Some 8; now = 0 })
      c.in_ok-report.ensures;
  text_is = c.in_ok-with_number_alone.ensures.text;
  status_is = c.in_ok-with_number_alone.ensures.status;
  written = c.in_ok-with_number_alone.ensures.database;
}
