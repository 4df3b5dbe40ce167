use Rattle.stock_programs.proofs.Fencing.{leases_fenced}
use Rattle.stock_programs.proofs.meanings.fenced_lease_means.Goals as goal

pub returns : goal.returns
returns c = leases_fenced
