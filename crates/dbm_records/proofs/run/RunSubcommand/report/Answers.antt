use Rattle.std.proofs.Common.{List, subst, ℕ, ◌∙◌}
use Rattle.dbm_records.specs.Run.{texts_by}
use Rattle.dbm_records.specs.Running.{AreRunWords}
use Rattle.dbm_records.proofs.RunFaults.{ran_on}
use Rattle.dbm_records.proofs.run.RunSubcommand.report.Goals as goal

pub returns-clause-ok : goal.returns-clause-ok
returns-clause-ok g c = record {
  before = c.in_ok-database.database;
  opened = c.in_ok-database.ensures.ok.0;
  words = c.in_ok-words.words;
  expect = c.in_ok-words.expect;
  are = subst (λ (key : List ℕ). AreRunWords c.args.notation.now (texts_by key c.args.self.now) c.in_ok-words.words c.in_ok-words.expect) (c.as_slice.ensures.value ∙ c.in_ok-key.ensures) c.in_ok-words.ensures.ok;
  image = c.as_slice-2.result.now;
  image_is = rw c.as_slice-2.ensures.value c.in_ok-database.ensures.ok.1;
  runs = c.in_ok-run_image.ensures;
}

pub returns-clause-database : goal.returns-clause-database
returns-clause-database g c = ran_on c.args.notation.now c.in_ok-database.database c.in_ok-words.words c.in_ok-words.expect c.as_slice-2.result.now _ c.in_ok-run_image.ensures
