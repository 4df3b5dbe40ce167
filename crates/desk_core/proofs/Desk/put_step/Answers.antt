use Rattle.std.proofs.Common.{◌+◌, ◌≤◌, ◌&&◌, Bool, Option, is_some, ap, sym, ◌∙◌, subst, arith, rules}
use Rattle.std.specs.Prelude.{vec_len, vec_capacity}
use Rattle.std.specs.List.{list_any}
use Rattle.slab.specs.Slab.{slab_len}
use Rattle.sdbm_addr.specs.Database.{pairs_at}
use Rattle.hold_modes.specs.declared.modes.Hold.TheVariants.{Exclusive}
use Rattle.hold_modes.specs.Held.{bars}
use Rattle.sdbm_split.specs.Planned.{PageChange}
use Rattle.store_moves.specs.Works.{change_of, key_of, HasEnd}
use Rattle.store_moves.specs.Worked.{IsWorked}
use Rattle.store_moves.specs.Leads.{IsPlaceOf, MayChange, changed_by}
use Rattle.desk_core.specs.Desk.{DeskState}
use Rattle.desk_core.specs.Calls.{MayAsk, works_there}
use Rattle.desk_core.proofs.Ties.{some_mapped, entered}
use Rattle.desk_core.proofs.Sound.{Steps-sound}
use Rattle.desk_core.proofs.Doing.{may_step_in, stepped}
use Rattle.desk_core.proofs.Desk.put_step.Goals as goal

pub put_in-requires : goal.put_in-requires
put_in-requires g c =
    let s : DeskState g.row.A.Denot = record { database = c.self.inside.image; opening = c.self.inside.trail.opening; entries = c.self.inside.trail.entries.items; tickets = c.self.inside.tickets.slots; next = c.self.inside.tickets.vacant_key; holds = c.self.inside.holds; limit = c.self.inside.limit } in
    let may = subst (λ (x : DeskState g.row.A.Denot). MayAsk x c.args.command) (sym c.self.view_is) c.requires.may in
    let leads = subst (λ (x : DeskState g.row.A.Denot). IsPlaceOf x.database (key_of c.args.command) c.args.place) (sym c.self.view_is) c.requires.place in
    let worked = subst (λ (x : DeskState g.row.A.Denot). IsWorked (works_there x c.args.session c.args.command c.args.place) c.args.worked) (sym c.self.view_is) c.requires.worked in
    subst (λ (x : Option PageChange). MayChange s.database c.args.place.page x) (sym worked.change) (may_step_in s c.args.session c.args.command c.args.place c.self.invariant.0 may c.requires.keyed leads)

pub invariant_of-self-2 : goal.invariant_of-self-2
invariant_of-self-2 g c =
    let s : DeskState g.row.A.Denot = record { database = c.self.inside.image; opening = c.self.inside.trail.opening; entries = c.self.inside.trail.entries.items; tickets = c.self.inside.tickets.slots; next = c.self.inside.tickets.vacant_key; holds = c.self.inside.holds; limit = c.self.inside.limit } in
    let may = subst (λ (x : DeskState g.row.A.Denot). MayAsk x c.args.command) (sym c.self.view_is) c.requires.may in
    let leads = subst (λ (x : DeskState g.row.A.Denot). IsPlaceOf x.database (key_of c.args.command) c.args.place) (sym c.self.view_is) c.requires.place in
    let worked = subst (λ (x : DeskState g.row.A.Denot). IsWorked (works_there x c.args.session c.args.command c.args.place) c.args.worked) (sym c.self.view_is) c.requires.worked in
    let ends = subst (λ (x : DeskState g.row.A.Denot). HasEnd (pairs_at x.database c.args.place.page) c.args.session c.args.command) (sym c.self.view_is) c.requires.ends in
    let free = ap (λ (b : Bool). b && list_any (bars c.args.place.page Exclusive) s.holds) (ap (λ (x : Option PageChange). is_some x) (sym worked.change) ∙ some_mapped change_of c.args.worked.change)
    ∙ ap (λ (x : DeskState g.row.A.Denot). is_some c.args.worked.change && list_any (bars c.args.place.page Exclusive) x.holds) c.self.view_is ∙ c.requires.free in
    let steps = stepped s c.args.session c.args.command c.args.place c.self.invariant.0 may c.requires.keyed leads ends c.args.worked.reply c.in-Ok-try_clone.entered c.put_in.new.image c.reserve.new.self.items c.push_reserved.new.self.items worked.reply c.in-Ok-try_clone.ensures free
    (c.in-Ok-put_in.ensures.ok ∙ ap (changed_by s.database c.args.place.page) worked.change) c.reserve.ensures.items (entered _ _ _ _ c.push_reserved.ensures.items c.new-entry.ensures) in
    let room : vec_len c.reserve.new.self + (slab_len c.self.inside.tickets + 1) ≤ vec_capacity c.reserve.new.self = search rules in
    (Steps-sound s _ c.args.session c.args.command c.args.worked.reply c.self.invariant.0 steps, omega (arith, c.push_reserved.ensures.len, c.push_reserved.ensures.capacity))

pub returns-clause-ok : goal.returns-clause-ok
returns-clause-ok g c =
    let s : DeskState g.row.A.Denot = record { database = c.self.inside.image; opening = c.self.inside.trail.opening; entries = c.self.inside.trail.entries.items; tickets = c.self.inside.tickets.slots; next = c.self.inside.tickets.vacant_key; holds = c.self.inside.holds; limit = c.self.inside.limit } in
    let may = subst (λ (x : DeskState g.row.A.Denot). MayAsk x c.args.command) (sym c.self.view_is) c.requires.may in
    let leads = subst (λ (x : DeskState g.row.A.Denot). IsPlaceOf x.database (key_of c.args.command) c.args.place) (sym c.self.view_is) c.requires.place in
    let worked = subst (λ (x : DeskState g.row.A.Denot). IsWorked (works_there x c.args.session c.args.command c.args.place) c.args.worked) (sym c.self.view_is) c.requires.worked in
    let ends = subst (λ (x : DeskState g.row.A.Denot). HasEnd (pairs_at x.database c.args.place.page) c.args.session c.args.command) (sym c.self.view_is) c.requires.ends in
    let free = ap (λ (b : Bool). b && list_any (bars c.args.place.page Exclusive) s.holds) (ap (λ (x : Option PageChange). is_some x) (sym worked.change) ∙ some_mapped change_of c.args.worked.change)
    ∙ ap (λ (x : DeskState g.row.A.Denot). is_some c.args.worked.change && list_any (bars c.args.place.page Exclusive) x.holds) c.self.view_is ∙ c.requires.free in
    let steps = stepped s c.args.session c.args.command c.args.place c.self.invariant.0 may c.requires.keyed leads ends c.args.worked.reply c.in-Ok-try_clone.entered c.put_in.new.image c.reserve.new.self.items c.push_reserved.new.self.items worked.reply c.in-Ok-try_clone.ensures free
    (c.in-Ok-put_in.ensures.ok ∙ ap (changed_by s.database c.args.place.page) worked.change) c.reserve.ensures.items (entered _ _ _ _ c.push_reserved.ensures.items c.new-entry.ensures) in
    rw (← c.self.view_is) steps
