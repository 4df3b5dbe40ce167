use Rattle.stock_programs.proofs.Counting.{counts}
use Rattle.stock_programs.proofs.meanings.counter_means.Goals as goal

pub returns : goal.returns
returns c = counts
