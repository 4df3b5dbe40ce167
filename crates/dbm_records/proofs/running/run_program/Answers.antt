use Rattle.std.proofs.Common.{subst, sym, ◌∙◌}
use Rattle.std.specs.declared.alloc.Global.{Global}
use Rattle.std.proofs.lemmas.Result.{IfOk-weaker}
use Rattle.store_cmd.specs.declared.Command.{Command}
use Rattle.dbm_reports.specs.Reports.{ChangesFiles}
use Rattle.dbm_records.proofs.RunFaults.{ran_program}
use Rattle.dbm_records.proofs.running.run_program.Goals as goal

pub returns : goal.returns
returns c =
    let found = ran_program c.args.registry.now.programs c.args.run.key c.args.run.prog c.args.run.arg c.args.run.blank c.args.run.now _ (sym c.in-Some.is ∙ c.in_ok-command.ensures) in
    IfOk-weaker c.change.result _ _
    (λ report h. (found.0, (found.1.0, subst (λ (command : Command Global). ChangesFiles c.args.notation.now c.args.database command c.args.expect report) found.1.1 h)))
    c.change.ensures
