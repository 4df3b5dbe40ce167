use Rattle.std.proofs.Common.{rules, ◌≡◌}
use Rattle.stock_histories.proofs.TrailTests.{of_program}
use Rattle.stock_histories.proofs.premises.only_runs.Goals as goal

pub returns-else-ne-clause-alone : goal.returns-else-ne-clause-alone
returns-else-ne-clause-alone g c =
    let same : c.in-Run.own ≡ c.args.key.now = search rules in
    of_program c.args.program.now c.args.key.now c.args.command.now c.in-Run.own c.in-Run.prog c.in-Run.arg c.in-Run.blank c.in-Run.now c.is_of.result c.in-Run.is same c.is_of.ensures
