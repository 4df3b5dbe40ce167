use Rattle.stock_histories.proofs.OfLimits.{admits_at_most}
use Rattle.stock_histories.proofs.laws.rate_limits_hold.Goals as goal

pub returns : goal.returns
returns g c = admits_at_most _
