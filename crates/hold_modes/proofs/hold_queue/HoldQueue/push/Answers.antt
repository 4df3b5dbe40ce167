use Rattle.std.proofs.Common.{◌≡◌, map, ap, sym, ◌∙◌}
use Rattle.hold_modes.specs.HoldQueue.{held_of, held_in}
use Rattle.hold_modes.proofs.TakenLemmas.{absent-held_of}
use Rattle.hold_modes.proofs.hold_queue.HoldQueue.push.Goals as goal

pub add-requires-clause-absent : goal.add-requires-clause-absent
add-requires-clause-absent g c =
    let now : map held_of c.in-Some.holds.entries ≡ c.args.self.now = ap held_in (sym c.in-Some.is) ∙ c.self.view_is in
    absent-held_of c.args.ticket c.in-Some.holds.entries (rw now c.requires)
