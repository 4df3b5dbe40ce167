use Rattle.std.proofs.Common.{◌≡◌, map, ap, sym, ◌∙◌}
use Rattle.hold_modes.specs.HoldQueue.{held_of, held_in}
use Rattle.hold_modes.proofs.TakenLemmas.{made-held_of, made-none}
use Rattle.hold_modes.proofs.hold_queue.HoldQueue.make_exclusive.Goals as goal

pub returns-in_default-peek_mut : goal.returns-in_default-peek_mut
returns-in_default-peek_mut g c =
    let now : map held_of c.in-Some.holds.entries ≡ c.args.self.now = ap held_in (sym c.in-Some.is) ∙ c.self.view_is in
    rw (← now) (made-none c.args.ticket c.in-Some.holds.entries (sym c.in_default-peek_mut.ensures.value))

pub returns : goal.returns
returns g c =
    let now : map held_of c.in-Some.holds.entries ≡ c.args.self.now = ap held_in (sym c.in-Some.is) ∙ c.self.view_is in
    rw (← now) (made-held_of c.args.ticket c.in-Some.holds.entries c.in-Some-peek_mut.hold.now (sym c.in-Some-peek_mut.ensures.value))
