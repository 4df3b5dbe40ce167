use Rattle.dbm_script.proofs.Vectors.{paired}
use Rattle.dbm_script.proofs.digits.pairs.Goals as goal

pub returns : goal.returns
returns c = paired c.args.digits c.fits-digits.0
