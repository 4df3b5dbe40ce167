use Rattle.store_shared.proofs.Steps.{stepped_reply}
use Rattle.store_shared.proofs.passing.step_on.Goals as goal

pub returns-in-Ok : goal.returns-in-Ok
returns-in-Ok g c = record {
  reply = stepped_reply c.args.desk.now c.step_twice.new.self c.args.session c.args.command c.in-Ok.stepped.reply c.in-Ok.ensures.ok;
  copy = c.in-Ok.ensures.copy;
}
