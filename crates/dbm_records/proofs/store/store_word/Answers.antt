use Rattle.std.proofs.Common.{◌∙◌, Option, ap, is_some}
use Rattle.sdbm_addr.specs.Database.{Database}
use Rattle.dbm_records.proofs.Values.{asked_by}
use Rattle.dbm_records.proofs.store.store_word.Goals as goal

pub returns-clause-ok : goal.returns-clause-ok
returns-clause-ok c = record {
  before = c.in_ok-image.image;
  opened = c.in_ok-image.ensures.ok.0;
  command = c.in_ok-image.command;
  is = asked_by c.args.notation.now _ _ _ _ _ _ c.in_ok-image.command c.store_name-name.ensures (c.as_slice.ensures.value ∙ c.in_ok-key.ensures) (c.as_slice-2.ensures.value ∙ c.in_ok-value.ensures) c.in_ok-image.ensures.ok.1;
  holds = c.in_ok-change.ensures;
}

pub returns-clause-database : goal.returns-clause-database
returns-clause-database c = ap (λ (db : Option Database). is_some db) c.in_ok-change.ensures.1.1
