use Rattle.std.proofs.Common.{◌≡◌, ◌∷◌, List, ℕ, Bor, None, map, sym, subst, rules}
use Rattle.dbm_script.specs.Commands.{command_of_words}
use Rattle.dbm_reports.specs.Causes.{IsCaused}
use Rattle.dbm_records.specs.Commands.{command_causes}
use Rattle.dbm_reports.specs.declared.fault.ReportFault.{ReportFault}
use Rattle.dbm_records.proofs.Faults.{no_command}
use Rattle.dbm_records.proofs.command.command_in.Goals as goal

pub returns-in_default-clause-fault : goal.returns-in_default-clause-fault
returns-in_default-clause-fault c form given =
    let n = c.args.notation.now in
    let words : List (List ℕ) = c.args.name.now ∷ map (λ (x : Bor (List ℕ)). x.now) c.args.args.now in
    let none : command_of_words n words ≡ None = search rules in
    subst (λ (fault : ReportFault). IsCaused (command_causes n form given words) fault) (sym c.bad_words.ensures) (no_command n form given words none)
