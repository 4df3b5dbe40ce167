use Rattle.stock_programs.proofs.Sequencing.{sequences}
use Rattle.stock_programs.proofs.meanings.sequence_means.Goals as goal

pub returns : goal.returns
returns c = sequences
