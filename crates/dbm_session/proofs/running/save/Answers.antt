use Rattle.dbm_session.proofs.Turns.{saves_at_most_one}
use Rattle.dbm_session.proofs.running.save.Goals as goal

pub returns-in-Err-clause-lost : goal.returns-in-Err-clause-lost
returns-in-Err-clause-lost g c = saves_at_most_one _ _ c.args.image.now c.in-Err.ensures.lost
