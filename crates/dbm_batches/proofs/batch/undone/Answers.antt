use Rattle.std.proofs.Common.{inr, refl}
use Rattle.dbm_batches.proofs.batch.undone.Goals as goal

pub returns-in-Err : goal.returns-in-Err
returns-in-Err c = inr (c.in-Err.reason, (refl, c.in-Err.ensures.fault))
