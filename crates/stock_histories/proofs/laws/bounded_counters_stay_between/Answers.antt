use Rattle.stock_histories.proofs.OfBounds.{stays_between}
use Rattle.stock_histories.proofs.laws.bounded_counters_stay_between.Goals as goal

pub returns : goal.returns
returns g c = stays_between _
