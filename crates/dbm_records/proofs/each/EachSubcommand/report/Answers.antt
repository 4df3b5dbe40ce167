use Rattle.dbm_records.proofs.EachLemmas.{each_written}
use Rattle.dbm_records.proofs.each.EachSubcommand.report.Goals as goal

pub returns-clause-ok : goal.returns-clause-ok
returns-clause-ok g c = record {
  before = c.in_ok-database.database;
  opened = c.in_ok-database.ensures.ok.0;
  words = c.in_ok-words.words;
  are = c.in_ok-words.ensures.ok;
  image = c.as_slice.result.now;
  image_is = rw c.as_slice.ensures.value c.in_ok-database.ensures.ok.1;
  runs = c.in_ok-run_each.ensures;
}

pub returns-clause-database : goal.returns-clause-database
returns-clause-database g c = each_written c.in_ok-database.database c.in_ok-words.words c.as_slice.result.now c.args.self.now.dry_run _ c.in_ok-run_each.ensures
