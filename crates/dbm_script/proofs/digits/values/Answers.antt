use Rattle.dbm_script.proofs.Vectors.{lanes}
use Rattle.dbm_script.proofs.digits.values.Goals as goal

pub returns : goal.returns
returns c = lanes 16 c.args.text c.fits-text.0
