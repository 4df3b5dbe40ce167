use Rattle.store_cmd.specs.declared.Command.TheVariants.{Store}
use Rattle.store_cmd.specs.declared.Reply.TheVariants.{Stored}
use Rattle.store_moves.proofs.Acting.{Acts-done}
use Rattle.store_moves.proofs.action.act_store_at.Goals as goal

pub returns-clause-done : goal.returns-clause-done
returns-clause-done g c = λ t session.
    Acts-done c.args.image.now c.store_in_place.new.image c.requires.database c.args.place session (Store c.args.key.now c.args.value.now c.args.mode) Stored tt c.requires.small (c.store_in_place.ensures.done t session)
