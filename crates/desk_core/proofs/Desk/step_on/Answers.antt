use Rattle.std.proofs.Common.{subst}
use Rattle.std.specs.Prelude.{IfErr}
use Rattle.store_cmd.specs.declared.Command.{Command}
use Rattle.desk_core.specs.declared.AskFault.{AskFault}
use Rattle.desk_core.specs.Desk.{DeskState}
use Rattle.desk_core.specs.Calls.{IsStepFault}
use Rattle.desk_core.proofs.Desk.step_on.Goals as goal

pub returns-in-Err-clause-refused : goal.returns-in-Err-clause-refused
returns-in-Err-clause-refused g c =
    subst (λ (s : DeskState g.row.A.Denot). IfErr c.step_by_plan.result (λ (refused : AskFault × Command g.row.A.Denot). IsStepFault s c.args.session c.args.command refused.0)) c.in-Err.ensures.err
    (subst (λ (command : Command g.row.A.Denot). IfErr c.step_by_plan.result (λ (refused : AskFault × Command g.row.A.Denot). IsStepFault c.step_in_place.new.self c.args.session command refused.0)) c.in-Err.ensures.returned c.step_by_plan.ensures.refused)
