use Rattle.stock_histories.proofs.OfSequences.{takes_once}
use Rattle.stock_histories.proofs.laws.sequences_take_numbers_once.Goals as goal

pub returns : goal.returns
returns g c = takes_once _
