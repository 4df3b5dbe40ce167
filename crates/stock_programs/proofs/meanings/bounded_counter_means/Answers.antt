use Rattle.stock_programs.proofs.CountingWithin.{counts_within}
use Rattle.stock_programs.proofs.meanings.bounded_counter_means.Goals as goal

pub returns : goal.returns
returns c = counts_within
