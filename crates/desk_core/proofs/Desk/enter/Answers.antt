use Rattle.std.proofs.Common.{◌≡◌, ◌+◌, ◌≤◌, List, None, Option, is_some, ap, sym, ◌∙◌, subst, arith}
use Rattle.std.specs.Prelude.{slice_index_or, count_by, vec_len, vec_capacity}
use Rattle.slab.specs.Slab.{Slab, slab_len}
use Rattle.desk_core.specs.declared.job.Open.{Open}
use Rattle.desk_core.specs.Desk.{DeskState}
use Rattle.desk_core.specs.Calls.{MayAsk, IsAsked}
use Rattle.desk_core.proofs.Ties.{none_held, free_ticket}
use Rattle.desk_core.proofs.Sound.{Opens-sound}
use Rattle.desk_core.proofs.Doing.{opened, changes_after, free_for}
use Rattle.desk_core.proofs.Desk.enter.Goals as goal

pub make_room-requires-clause-ticket : goal.make_room-requires-clause-ticket
make_room-requires-clause-ticket g c =
    let t = c.vacant_key.result in
    let s : DeskState g.row.A.Denot = record { database = c.self.inside.image; opening = c.self.inside.trail.opening; entries = c.self.inside.trail.entries.items; tickets = c.self.inside.tickets.slots; next = c.self.inside.tickets.vacant_key; holds = c.self.inside.holds; limit = c.self.inside.limit } in
    let fresh : slice_index_or s.tickets t None ≡ None = c.vacant_key.ensures.vacant in
    none_held (record { 0 = t }) s.holds (free_ticket s t c.self.invariant.0 fresh)

pub make_room-requires-clause-free : goal.make_room-requires-clause-free
make_room-requires-clause-free g c =
    let s : DeskState g.row.A.Denot = record { database = c.self.inside.image; opening = c.self.inside.trail.opening; entries = c.self.inside.trail.entries.items; tickets = c.self.inside.tickets.slots; next = c.self.inside.tickets.vacant_key; holds = c.self.inside.holds; limit = c.self.inside.limit } in
    let may = subst (λ (x : DeskState g.row.A.Denot). MayAsk x c.args.own.command) (sym c.self.view_is) c.requires.may in
    let asked = subst (λ (x : DeskState g.row.A.Denot). IsAsked x c.args.own.session c.args.own.command c.args.own) (sym c.self.view_is) c.requires.asked in
    free_for s c.args.own.command c.args.own.place c.args.mode c.self.invariant.0 may c.requires.mode asked.place

pub invariant_of-self-2 : goal.invariant_of-self-2
invariant_of-self-2 g c =
    let t = c.vacant_key.result in
    let s : DeskState g.row.A.Denot = record { database = c.self.inside.image; opening = c.self.inside.trail.opening; entries = c.self.inside.trail.entries.items; tickets = c.self.inside.tickets.slots; next = c.self.inside.tickets.vacant_key; holds = c.self.inside.holds; limit = c.self.inside.limit } in
    let may = subst (λ (x : DeskState g.row.A.Denot). MayAsk x c.args.own.command) (sym c.self.view_is) c.requires.may in
    let asked = subst (λ (x : DeskState g.row.A.Denot). IsAsked x c.args.own.session c.args.own.command c.args.own) (sym c.self.view_is) c.requires.asked in
    let fresh : slice_index_or s.tickets t None ≡ None = c.vacant_key.ensures.vacant in
    let same = ap (λ (x : Slab (Open g.row.A.Denot)). x.slots) c.make_room.ensures.rest_kept in
    let next = c.vacant_key.ensures.value in
    let changes = changes_after c.self.inside.tickets c.make_room.new.tickets c.insert_reserved-key.new.self t c.insert_reserved-key.result c.args.own same (c.insert_reserved-key.ensures.key ∙ (ap (λ (x : Slab (Open g.row.A.Denot)). x.vacant_key) c.make_room.ensures.rest_kept ∙ sym c.vacant_key.ensures.value)) c.insert_reserved-key.ensures.updates in
    let more : count_by is_some c.insert_reserved-key.new.self.slots ≡ count_by is_some s.tickets + 1 = c.insert_reserved-key.ensures.len ∙ ap (λ (xs : List (Option (Open g.row.A.Denot))). count_by is_some xs + 1) same in
    let opens = opened s t c.args.own c.args.mode c.make_room.new.entries.items c.insert_reserved-key.new.self.slots c.insert_reserved-key.new.self.vacant_key c.make_room.new.holds c.requires.mode next fresh c.make_room.ensures.items changes more c.in_ok-make_room.ensures.hold in
    let room : vec_len c.make_room.new.entries + (slab_len c.self.inside.tickets + 1) ≤ vec_capacity c.make_room.new.entries = c.in_ok-make_room.ensures.entry in
    (Opens-sound s _ c.args.own.session c.args.own.command (record { ticket = t; asked = c.args.own }) c.self.invariant.0 may asked opens c.in_ok-make_room.ensures.rule, omega arith)

pub returns-clause-ok : goal.returns-clause-ok
returns-clause-ok g c =
    let t = c.vacant_key.result in
    let s : DeskState g.row.A.Denot = record { database = c.self.inside.image; opening = c.self.inside.trail.opening; entries = c.self.inside.trail.entries.items; tickets = c.self.inside.tickets.slots; next = c.self.inside.tickets.vacant_key; holds = c.self.inside.holds; limit = c.self.inside.limit } in
    let fresh : slice_index_or s.tickets t None ≡ None = c.vacant_key.ensures.vacant in
    let same = ap (λ (x : Slab (Open g.row.A.Denot)). x.slots) c.make_room.ensures.rest_kept in
    let next = c.vacant_key.ensures.value in
    let changes = changes_after c.self.inside.tickets c.make_room.new.tickets c.insert_reserved-key.new.self t c.insert_reserved-key.result c.args.own same (c.insert_reserved-key.ensures.key ∙ (ap (λ (x : Slab (Open g.row.A.Denot)). x.vacant_key) c.make_room.ensures.rest_kept ∙ sym c.vacant_key.ensures.value)) c.insert_reserved-key.ensures.updates in
    let more : count_by is_some c.insert_reserved-key.new.self.slots ≡ count_by is_some s.tickets + 1 = c.insert_reserved-key.ensures.len ∙ ap (λ (xs : List (Option (Open g.row.A.Denot))). count_by is_some xs + 1) same in
    rw (← c.self.view_is) (opened s t c.args.own c.args.mode c.make_room.new.entries.items c.insert_reserved-key.new.self.slots c.insert_reserved-key.new.self.vacant_key c.make_room.new.holds c.requires.mode next fresh c.make_room.ensures.items changes more c.in_ok-make_room.ensures.hold)
