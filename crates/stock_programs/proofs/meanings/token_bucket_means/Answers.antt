use Rattle.stock_programs.proofs.Pouring.{pours_out}
use Rattle.stock_programs.proofs.meanings.token_bucket_means.Goals as goal

pub returns : goal.returns
returns c = pours_out
