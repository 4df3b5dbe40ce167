use Rattle.stock_histories.proofs.OfBounds.{stays_below}
use Rattle.stock_histories.proofs.laws.bounded_sums_stay_below.Goals as goal

pub returns : goal.returns
returns g c = stays_below _
