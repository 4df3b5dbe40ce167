use Rattle.std.proofs.Common.{subst}
use Rattle.store_cmd.specs.declared.Command.{Command}
use Rattle.desk_core.specs.Calls.{IsAskFault}
use Rattle.desk_core.proofs.Desk.ask_shared.Goals as goal

pub returns-clause-refused : goal.returns-clause-refused
returns-clause-refused g c =
    subst (λ (command : Command g.row.A.Denot). IsAskFault c.args.self.now command c.in-Err.fault) c.in-Ok.ensures c.in-Err.ensures.refused
