use Rattle.std.proofs.Common.{◌∙◌, ◌&&◌, ap, sym, subst, inr}
use Rattle.std.specs.List.{list_any}
use Rattle.hold_modes.specs.declared.modes.Hold.TheVariants.{Exclusive}
use Rattle.hold_modes.specs.Held.{bars}
use Rattle.desk_core.specs.declared.job.Open.{Open}
use Rattle.desk_core.specs.Calls.{IsStill}
use Rattle.desk_core.proofs.Desk.may_put_at.Goals as goal

pub returns-then-is_in_the_way-clause-refused : goal.returns-then-is_in_the_way-clause-refused
returns-then-is_in_the_way-clause-refused g c =
    let s = c.args.self.now in
    let same = c.asked-asked.ensures.value in
    let still = subst (λ (x : Open g.row.A.Denot). IsStill s x) same (c.is_still.ensures.0 c.if-not-is_still.false) in
    let held = ap (λ b. b && list_any (bars c.args.seen.now.place.page Exclusive) s.holds) (sym c.changes.ensures) ∙ (ap (λ (x : Open g.row.A.Denot). c.changes.result && list_any (bars x.place.page Exclusive) s.holds) (sym same) ∙ (sym c.is_in_the_way.ensures ∙ c.if-is_in_the_way.true)) in
    inr (c.requires.may, (still, held))
