use Rattle.dbm_script.proofs.Cuts.{pieces-none, pieces-first}
use Rattle.dbm_script.proofs.pieces.first_piece.Goals as goal

pub returns-in-Some : goal.returns-in-Some
returns-in-Some c = pieces-first c.args.end c.args.text.now c.in-Some.at (c.in-Some.ensures).0.high (c.in-Some.ensures).0.before (c.in-Some.ensures).1

pub returns-in-None : goal.returns-in-None
returns-in-None c = pieces-none c.args.end c.args.text.now c.in-None.ensures
