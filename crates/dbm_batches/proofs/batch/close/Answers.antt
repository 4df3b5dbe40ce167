use Rattle.std.proofs.Common.{ap, ◌∙◌}
use Rattle.store_shared.specs.Shared.{Opened}
use Rattle.dbm_batches.proofs.BatchFaults.{legal_from}
use Rattle.dbm_batches.proofs.batch.close.Goals as goal

pub returns-in-Ok-clause-closed : goal.returns-in-Ok-clause-closed
returns-in-Ok-clause-closed c = λ before is. record {
  entries = c.in-Ok.closed.trail.entries.items;
  legal = legal_from c.args.store before c.in-Ok.closed.image c.in-Ok.closed.trail.entries.items is c.in-Ok.ensures.legal;
  agree = c.in-Ok.ensures.agree;
  distinct = c.in-Ok.ensures.distinct;
  covers = c.in-Ok.ensures.covers;
  kind = c.in-Ok.ensures.kind ∙ ap (λ (o : Opened). o.kind) is;
  size = c.in-Ok.ensures.size ∙ ap (λ (o : Opened). o.size) is;
}
