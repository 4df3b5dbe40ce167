use Rattle.stock_histories.proofs.OfCounters.{loses_no_run}
use Rattle.stock_histories.proofs.laws.counters_lose_no_run.Goals as goal

pub returns : goal.returns
returns g c = loses_no_run _
