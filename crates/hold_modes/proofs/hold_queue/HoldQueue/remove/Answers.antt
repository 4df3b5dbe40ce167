use Rattle.std.proofs.Common.{◌≡◌, ℕ, map, ap, sym, ◌∙◌}
use Rattle.lru.specs.LruCache.{LruCache}
use Rattle.hold_modes.specs.declared.modes.Hold.{Hold}
use Rattle.hold_modes.specs.HoldQueue.{held_of, held_in}
use Rattle.hold_modes.proofs.TakenLemmas.{held_by-held_of, without-held_of}
use Rattle.hold_modes.proofs.hold_queue.HoldQueue.remove.Goals as goal

pub returns-clause-value : goal.returns-clause-value
returns-clause-value g c =
    let now : map held_of c.in-Some.holds.entries ≡ c.args.self.now = ap held_in (sym c.in-Some.is) ∙ c.self.view_is in
    rw (← now) (c.pop.ensures.value ∙ sym (held_by-held_of c.args.ticket c.in-Some.holds.entries))

pub returns-clause-rest : goal.returns-clause-rest
returns-clause-rest g c =
    let now : map held_of c.in-Some.holds.entries ≡ c.args.self.now = ap held_in (sym c.in-Some.is) ∙ c.self.view_is in
    rw (← now) (ap (λ (h : LruCache ℕ (ℕ × Hold)). map held_of h.entries) c.pop.ensures.entries ∙ without-held_of c.args.ticket c.in-Some.holds.entries)
