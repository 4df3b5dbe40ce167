use Rattle.store_parts.proofs.Saved.{same}
use Rattle.store_parts.proofs.law.same_on_whole.Goals as goal

pub returns : goal.returns
returns c = same
