use Rattle.stock_programs.proofs.Limiting.{limits}
use Rattle.stock_programs.proofs.meanings.rate_limit_means.Goals as goal

pub returns : goal.returns
returns c = limits
