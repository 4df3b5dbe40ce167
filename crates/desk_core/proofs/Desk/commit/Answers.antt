use Rattle.std.proofs.Common.{◌≡◌, Option, is_some, true, ap, sym, ◌∙◌, subst, arith}
use Rattle.sdbm_split.specs.Planned.{PageChange}
use Rattle.store_moves.specs.Works.{change_of}
use Rattle.desk_core.specs.Jobs.{Ticketed, worked}
use Rattle.store_moves.specs.Leads.{MayChange, changed_by}
use Rattle.desk_core.specs.Desk.{DeskState}
use Rattle.desk_core.proofs.Ties.{some_mapped, entered}
use Rattle.desk_core.proofs.Sound.{Finishes-sound}
use Rattle.desk_core.proofs.Doing.{MayFinish-at, may_finish_in, finished}
use Rattle.desk_core.proofs.Desk.commit.Goals as goal

pub put_in-requires : goal.put_in-requires
put_in-requires g c =
    let s : DeskState g.row.A.Denot = record { database = c.self.inside.image; opening = c.self.inside.trail.opening; entries = c.self.inside.trail.entries.items; tickets = c.self.inside.tickets.slots; next = c.self.inside.tickets.vacant_key; holds = c.self.inside.holds; limit = c.self.inside.limit } in
    let d : Ticketed g.row.A.Denot = record { ticket = c.done.inside.ticket.0; asked = c.done.inside.asked } in
    let may = MayFinish-at s c.args.self.now d c.args.done c.self.view_is c.done.view_is c.requires in
    subst (λ (x : Option PageChange). MayChange s.database d.asked.place.page x) (sym c.done.invariant.change_is) (may_finish_in s d c.self.invariant.0 may)

pub returns-in-Err-clause-refused : goal.returns-in-Err-clause-refused
returns-in-Err-clause-refused g c =
    let changed : is_some (worked c.args.done.asked).change ≡ true =
    ap (λ (d : Ticketed g.row.A.Denot). is_some (worked d.asked).change) (sym c.done.view_is) ∙ ap (λ (x : Option PageChange). is_some x) (sym c.done.invariant.change_is)
    ∙ some_mapped change_of c.done.inside.change ∙ c.in-Err.ensures.some in
    (c.requires.own, (changed, c.requires.alone changed))

pub invariant_of-self-2 : goal.invariant_of-self-2
invariant_of-self-2 g c =
    let s : DeskState g.row.A.Denot = record { database = c.self.inside.image; opening = c.self.inside.trail.opening; entries = c.self.inside.trail.entries.items; tickets = c.self.inside.tickets.slots; next = c.self.inside.tickets.vacant_key; holds = c.self.inside.holds; limit = c.self.inside.limit } in
    let d : Ticketed g.row.A.Denot = record { ticket = c.done.inside.ticket.0; asked = c.done.inside.asked } in
    let may = MayFinish-at s c.args.self.now d c.args.done c.self.view_is c.done.view_is c.requires in
    let installed = c.in_default.ensures.ok ∙ ap (changed_by s.database d.asked.place.page) c.done.invariant.change_is in
    let u = c.remove-own.ensures in
    let kept = c.self.invariant.1 in (
      Finishes-sound s _ d c.done.inside.reply c.self.invariant.0
          (finished s d c.self.invariant.0 may c.done.invariant.ends c.done.inside.reply c.done.inside.copy c.put_in.new.image c.push_reserved.new.self.items c.remove-own.new.self.slots c.remove-own.new.self.vacant_key c.release.new.self c.done.invariant.reply_is
          c.done.invariant.copy_is installed (entered _ _ _ _ c.push_reserved.ensures.items c.new-entry.ensures) (record { here = u.updates.changed; others = u.updates.others }) u.key_is_next u.len c.release.ensures.rest)
          c.release.ensures.rule,
      omega (arith, c.push_reserved.ensures.len, c.push_reserved.ensures.capacity),
    )

pub returns-clause-ok : goal.returns-clause-ok
returns-clause-ok g c =
    let s : DeskState g.row.A.Denot = record { database = c.self.inside.image; opening = c.self.inside.trail.opening; entries = c.self.inside.trail.entries.items; tickets = c.self.inside.tickets.slots; next = c.self.inside.tickets.vacant_key; holds = c.self.inside.holds; limit = c.self.inside.limit } in
    let d : Ticketed g.row.A.Denot = record { ticket = c.done.inside.ticket.0; asked = c.done.inside.asked } in
    let may = MayFinish-at s c.args.self.now d c.args.done c.self.view_is c.done.view_is c.requires in
    let installed = c.in_default.ensures.ok ∙ ap (changed_by s.database d.asked.place.page) c.done.invariant.change_is in
    let u = c.remove-own.ensures in
    rw (← c.self.view_is, ← c.done.view_is)
    (finished s d c.self.invariant.0 may c.done.invariant.ends c.done.inside.reply c.done.inside.copy c.put_in.new.image c.push_reserved.new.self.items c.remove-own.new.self.slots c.remove-own.new.self.vacant_key c.release.new.self c.done.invariant.reply_is
    c.done.invariant.copy_is installed (entered _ _ _ _ c.push_reserved.ensures.items c.new-entry.ensures) (record { here = u.updates.changed; others = u.updates.others }) u.key_is_next u.len c.release.ensures.rest)
