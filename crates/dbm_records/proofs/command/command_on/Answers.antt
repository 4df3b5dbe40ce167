use Rattle.std.proofs.Common.{◌∷◌, List, ℕ, Bor, map}
use Rattle.dbm_reports.specs.Causes.{IsCaused}
use Rattle.dbm_records.specs.Commands.{command_causes}
use Rattle.dbm_reports.proofs.Faults.{as_err}
use Rattle.dbm_records.proofs.command.command_on.Goals as goal

pub returns-in_err-command-clause-fault : goal.returns-in_err-command-clause-fault
returns-in_err-command-clause-fault c =
    let words : List (List ℕ) = c.args.name.now ∷ map (λ (x : Bor (List ℕ)). x.now) c.args.args.now in
    as_err (IsCaused (command_causes c.args.notation.now c.args.form c.args.given.now words)) _ c.from_residual.ensures.1 (c.in_err-command.ensures.fault c.args.form c.args.given.now)
