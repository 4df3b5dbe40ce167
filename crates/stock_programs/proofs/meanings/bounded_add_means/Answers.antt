use Rattle.stock_programs.proofs.BoundedAdding.{adds_bounded}
use Rattle.stock_programs.proofs.meanings.bounded_add_means.Goals as goal

pub returns : goal.returns
returns c = adds_bounded
