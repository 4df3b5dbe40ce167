use Rattle.dbm_session.proofs.Turns.{writes_all}
use Rattle.dbm_session.proofs.running.say.Goals as goal

pub returns-in-Err-clause-part : goal.returns-in-Err-clause-part
returns-in-Err-clause-part g c =
    writes_all (g.W.Write.contents c.args.writer.now) _ (g.W.Write.contents c.flush.new.self) c.args.text.now c.in-Ok.ensures.ok c.flush.ensures.bytes
