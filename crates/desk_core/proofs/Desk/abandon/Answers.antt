use Rattle.std.proofs.Common.{None, refl, sym, ap, ◌∙◌, arith}
use Rattle.std.specs.Prelude.{slice_index_or}
use Rattle.desk_core.specs.Desk.{DeskState, ticket_of}
use Rattle.desk_core.proofs.Sound.{Abandons-sound}
use Rattle.desk_core.proofs.Ties.{not_some}
use Rattle.desk_core.proofs.Doing.{abandoned}
use Rattle.desk_core.proofs.Desk.abandon.Goals as goal

pub invariant_of-self : goal.invariant_of-self
invariant_of-self g c =
    let u = c.remove-open.ensures in
    let kept = c.self.invariant.1 in
    let s : DeskState g.row.A.Denot = record { database = c.self.inside.image; opening = c.self.inside.trail.opening; entries = c.self.inside.trail.entries.items; tickets = c.self.inside.tickets.slots; next = c.self.inside.tickets.vacant_key; holds = c.self.inside.holds; limit = c.self.inside.limit } in (
      Abandons-sound s _ c.args.ticket.0 c.self.invariant.0
          (abandoned s c.args.ticket.0 c.remove-open.new.self.slots c.remove-open.new.self.vacant_key c.release.new.self (c.if-not-contains.ensures.0 refl) (record { here = u.updates.changed; others = u.updates.others }) u.key_is_next u.len c.release.ensures.rest)
          c.release.ensures.rule,
      omega arith,
    )

pub returns-clause-ok : goal.returns-clause-ok
returns-clause-ok g c =
    let u = c.remove-open.ensures in
    let s : DeskState g.row.A.Denot = record { database = c.self.inside.image; opening = c.self.inside.trail.opening; entries = c.self.inside.trail.entries.items; tickets = c.self.inside.tickets.slots; next = c.self.inside.tickets.vacant_key; holds = c.self.inside.holds; limit = c.self.inside.limit } in
    rw (← c.self.view_is)
    (abandoned s c.args.ticket.0 c.remove-open.new.self.slots c.remove-open.new.self.vacant_key c.release.new.self (c.if-not-contains.ensures.0 refl) (record { here = u.updates.changed; others = u.updates.others }) u.key_is_next u.len c.release.ensures.rest)

pub returns-then-not-contains-clause-refused : goal.returns-then-not-contains-clause-refused
returns-then-not-contains-clause-refused g c = sym (ap (λ (x : DeskState g.row.A.Denot). ticket_of x c.args.ticket.0) c.self.view_is) ∙ not_some (slice_index_or c.self.inside.tickets.slots c.args.ticket.0 None) c.if-not-contains.ensures.1

pub remove-open-requires : goal.remove-open-requires
remove-open-requires g c = c.if-not-contains.ensures.0 refl
