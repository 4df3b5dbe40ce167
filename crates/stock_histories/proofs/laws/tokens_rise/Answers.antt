use Rattle.stock_histories.proofs.OfFences.{tokens_rise}
use Rattle.stock_histories.proofs.laws.tokens_rise.Goals as goal

pub returns : goal.returns
returns g c = tokens_rise _
