use Rattle.std.proofs.Common.{◌≡◌, map, ap, sym, ◌∙◌}
use Rattle.hold_modes.specs.HoldQueue.{held_of, held_in}
use Rattle.hold_modes.proofs.TakenLemmas.{held_by-held_of}
use Rattle.hold_modes.proofs.hold_queue.HoldQueue.get.Goals as goal

pub returns : goal.returns
returns g c =
    let now : map held_of c.in-Some.holds.entries ≡ c.args.self.now = ap held_in (sym c.in-Some.is) ∙ c.self.view_is in
    rw (← now) (c.copied.ensures ∙ (c.peek.ensures ∙ sym (held_by-held_of c.args.ticket c.in-Some.holds.entries)))
