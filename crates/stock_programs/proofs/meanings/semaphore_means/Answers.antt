use Rattle.stock_programs.proofs.Permitting.{holds_permits}
use Rattle.stock_programs.proofs.meanings.semaphore_means.Goals as goal

pub returns : goal.returns
returns c = holds_permits
