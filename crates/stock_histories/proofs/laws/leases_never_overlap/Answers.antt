use Rattle.stock_histories.proofs.OfLeases.{never_overlap}
use Rattle.stock_histories.proofs.laws.leases_never_overlap.Goals as goal

pub returns : goal.returns
returns g c = never_overlap _
