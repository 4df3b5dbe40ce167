use Rattle.stock_programs.proofs.Leasing.{leases}
use Rattle.stock_programs.proofs.meanings.lease_means.Goals as goal

pub returns : goal.returns
returns c = leases
