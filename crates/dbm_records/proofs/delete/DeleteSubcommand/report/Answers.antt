use Rattle.std.proofs.Common.{Option, ap, is_some, sym, ◌∙◌, ◌∷◌, [], List, ℕ, codes}
use Rattle.sdbm_addr.specs.Database.{Database}
use Rattle.dbm_script.specs.Commands.{command_of_words}
use Rattle.dbm_records.proofs.delete.DeleteSubcommand.report.Goals as goal

pub returns-clause-ok : goal.returns-clause-ok
returns-clause-ok g c = record {
  before = c.in_ok-image.image;
  opened = c.in_ok-image.ensures.ok.0;
  command = c.in_ok-image.command;
  is = ap (λ (key : List ℕ). command_of_words c.args.notation.now (codes "delete" ∷ (key ∷ []))) (sym (c.as_slice.ensures.value ∙ c.in_ok-key.ensures)) ∙ c.in_ok-image.ensures.ok.1;
  holds = c.in_ok-change.ensures;
}

pub returns-clause-database : goal.returns-clause-database
returns-clause-database g c = ap (λ (db : Option Database). is_some db) c.in_ok-change.ensures.1.1
