use Rattle.std.proofs.Common.{refl}
use Rattle.dbm_records.proofs.renaming.rename.Goals as goal

pub returns : goal.returns
returns c = rw (c.in-Store.is) (c.rename_pair.new.image, (c.in_ok-text.ensures, refl))
