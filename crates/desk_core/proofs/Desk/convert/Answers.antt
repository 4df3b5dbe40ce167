use Rattle.std.proofs.Common.{◌≡◌, true, false, None, refl, sym, ap, ◌∙◌, rules}
use Rattle.std.specs.Prelude.{slice_index_or, IsSome}
use Rattle.hold_modes.specs.Held.{is_updating, is_shared, made_exclusive}
use Rattle.desk_core.specs.Desk.{DeskState, ticket_of}
use Rattle.desk_core.proofs.Sound.{Converts-sound}
use Rattle.desk_core.proofs.Ties.{not_some}
use Rattle.desk_core.proofs.Desk.convert.Goals as goal

pub returns-then-not-is_updating-clause-refused : goal.returns-then-not-is_updating-clause-refused
returns-then-not-is_updating-clause-refused g c =
    let there : IsSome (slice_index_or c.self.inside.tickets.slots c.args.ticket.0 None) = c.if-not-contains.ensures.0 refl in
    let upd : is_updating c.args.ticket c.self.inside.holds ≡ false = search rules in
    rw (← c.self.view_is) (there, upd)

pub invariant_of-self : goal.invariant_of-self
invariant_of-self g c = let same : c.convert.new.self ≡ c.self.inside.holds = search rules in rw same c.self.invariant

pub returns-then-is_err-clause-refused : goal.returns-then-is_err-clause-refused
returns-then-is_err-clause-refused g c =
    let there : IsSome (slice_index_or c.self.inside.tickets.slots c.args.ticket.0 None) = c.if-not-contains.ensures.0 refl in
    let upd : is_updating c.args.ticket c.self.inside.holds ≡ true = search rules in
    let busy : is_shared c.args.ticket c.self.inside.holds ≡ true = search rules in
    rw (← c.self.view_is) (there, (upd, busy))

pub returns-then-is_err-clause-err : goal.returns-then-is_err-clause-err
returns-then-is_err-clause-err g c = let same : c.convert.new.self ≡ c.self.inside.holds = search rules in rw same c.self.view_is

pub invariant_of-self-2 : goal.invariant_of-self-2
invariant_of-self-2 g c =
    let s : DeskState g.row.A.Denot = record { database = c.self.inside.image; opening = c.self.inside.trail.opening; entries = c.self.inside.trail.entries.items; tickets = c.self.inside.tickets.slots; next = c.self.inside.tickets.vacant_key; holds = c.self.inside.holds; limit = c.self.inside.limit } in
    let there : IsSome (slice_index_or c.self.inside.tickets.slots c.args.ticket.0 None) = c.if-not-contains.ensures.0 refl in
    let upd : is_updating c.args.ticket c.self.inside.holds ≡ true = search rules in
    let alone : is_shared c.args.ticket c.self.inside.holds ≡ false = search rules in
    let held : c.convert.new.self ≡ made_exclusive c.args.ticket c.self.inside.holds = search rules in
    (Converts-sound s _ c.args.ticket.0 c.self.invariant.0 (record { there = there; updating = upd; alone = alone; is = rw held refl }) c.convert.ensures.rule, c.self.invariant.1)

pub returns-clause-ok : goal.returns-clause-ok
returns-clause-ok g c =
    let there : IsSome (slice_index_or c.self.inside.tickets.slots c.args.ticket.0 None) = c.if-not-contains.ensures.0 refl in
    let upd : is_updating c.args.ticket c.self.inside.holds ≡ true = search rules in
    let alone : is_shared c.args.ticket c.self.inside.holds ≡ false = search rules in
    let held : c.convert.new.self ≡ made_exclusive c.args.ticket c.self.inside.holds = search rules in
    rw (← c.self.view_is) (record { there = there; updating = upd; alone = alone; is = rw held refl })

pub returns-then-not-contains-clause-refused : goal.returns-then-not-contains-clause-refused
returns-then-not-contains-clause-refused g c = sym (ap (λ (x : DeskState g.row.A.Denot). ticket_of x c.args.ticket.0) c.self.view_is) ∙ not_some (slice_index_or c.self.inside.tickets.slots c.args.ticket.0 None) c.if-not-contains.ensures.1
