use Rattle.std.proofs.Common.{◌≡◌, Some, None, Option, ℕ, ap, sym, ◌∙◌}
use Rattle.std.specs.List.{position}
use Rattle.hold_modes.specs.declared.modes.Hold.{Hold}
use Rattle.hold_modes.specs.declared.modes.Held.{Held}
use Rattle.hold_modes.specs.Held.{is_of}
use Rattle.hold_modes.proofs.HeldLemmas.{not_found}
use Rattle.hold_modes.proofs.FewLemmas.{first, held_by-first, without-first, none}
use Rattle.hold_modes.proofs.few.release.Goals as goal

pub returns-in_err-at-clause-value : goal.returns-in_err-at-clause-value
returns-in_err-at-clause-value g c =
    let at : position (is_of c.args.ticket) c.args.few.now.items ≡ None = ap (position (is_of c.args.ticket)) (sym c.as_slice.ensures.value) ∙ (sym c.place.ensures ∙ c.in_err-at.was) in
    c.from_residual.ensures ∙ sym (not_found c.args.ticket c.args.few.now.items (none c.args.ticket c.args.few.now.items at)).0

pub returns-in_err-at-clause-rest : goal.returns-in_err-at-clause-rest
returns-in_err-at-clause-rest g c =
    let at : position (is_of c.args.ticket) c.args.few.now.items ≡ None = ap (position (is_of c.args.ticket)) (sym c.as_slice.ensures.value) ∙ (sym c.place.ensures ∙ c.in_err-at.was) in
    sym (not_found c.args.ticket c.args.few.now.items (none c.args.ticket c.args.few.now.items at)).1

pub returns-clause-value : goal.returns-clause-value
returns-clause-value g c =
    let at : position (is_of c.args.ticket) c.args.few.now.items ≡ Some c.in_ok-at.at = ap (position (is_of c.args.ticket)) (sym c.as_slice.ensures.value) ∙ (sym c.place.ensures ∙ c.in_ok-at.was) in
    let taken : Held = c.remove-held.result in
    ap (λ (h : Held). let said : Option (ℕ × Hold) = Some (h.page, h.mode) in said) c.remove-held.ensures.value
    ∙ sym (held_by-first c.args.ticket c.args.few.now.items c.in_ok-at.at taken (first c.args.ticket c.args.few.now.items c.in_ok-at.at taken at))

pub returns-clause-rest : goal.returns-clause-rest
returns-clause-rest g c =
    let at : position (is_of c.args.ticket) c.args.few.now.items ≡ Some c.in_ok-at.at = ap (position (is_of c.args.ticket)) (sym c.as_slice.ensures.value) ∙ (sym c.place.ensures ∙ c.in_ok-at.was) in
    let taken : Held = c.remove-held.result in
    c.remove-held.ensures.items ∙ without-first c.args.ticket c.args.few.now.items c.in_ok-at.at taken (first c.args.ticket c.args.few.now.items c.in_ok-at.at taken at)
