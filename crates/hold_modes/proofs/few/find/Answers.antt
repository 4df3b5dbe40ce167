use Rattle.std.proofs.Common.{sym, ◌∙◌}
use Rattle.hold_modes.specs.declared.modes.Held.{Held}
use Rattle.hold_modes.specs.declared.modes.Hold.TheVariants.{Read}
use Rattle.hold_modes.proofs.HeldLemmas.{not_found}
use Rattle.hold_modes.proofs.FewLemmas.{first, held_by-first, none}
use Rattle.hold_modes.proofs.few.find.Goals as goal

pub returns-in_err-at : goal.returns-in_err-at
returns-in_err-at c = c.from_residual.ensures ∙ sym (not_found c.args.ticket c.args.few.now (none c.args.ticket c.args.few.now (sym c.place.ensures ∙ c.in_err-at.was))).0

pub returns : goal.returns
returns c =
    let some : Held = record { page = 0; mode = Read; ticket = record { 0 = 0 } } in
    sym (held_by-first c.args.ticket c.args.few.now c.in_ok-at.at some (first c.args.ticket c.args.few.now c.in_ok-at.at some (sym c.place.ensures ∙ c.in_ok-at.was)))
