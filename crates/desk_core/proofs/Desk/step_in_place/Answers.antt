use Rattle.std.proofs.Common.{◌+◌, ◌≤◌, refl, ap, sym, ◌∙◌, subst, arith, rules}
use Rattle.std.specs.Prelude.{vec_len, vec_capacity}
use Rattle.std.specs.List.{list_any}
use Rattle.slab.specs.Slab.{slab_len}
use Rattle.hold_modes.specs.declared.modes.Hold.TheVariants.{Exclusive}
use Rattle.hold_modes.specs.Held.{bars}
use Rattle.store_cmd.specs.declared.Command.{Command}
use Rattle.store_cmd.specs.declared.Reply.{Reply}
use Rattle.store_cmd.specs.declared.Reply.TheVariants as replies
use Rattle.store_moves.specs.Works.{IsRun, key_of}
use Rattle.store_moves.specs.Leads.{IsPlaceOf}
use Rattle.store_moves.specs.Acts.{IsPutIn}
use Rattle.desk_core.specs.Desk.{DeskState}
use Rattle.desk_core.specs.Calls.{MayAsk, Steps}
use Rattle.store_moves.proofs.Acting.{keyed_run}
use Rattle.desk_core.proofs.Ties.{entered}
use Rattle.desk_core.proofs.Sound.{Steps-sound}
use Rattle.desk_core.proofs.Doing.{stepped_at_once}
use Rattle.desk_core.proofs.Desk.step_in_place.Goals as goal

-- the desk before the step, and the step on it
abbrev state : (g : _) → goal.After-ran-3 g → DeskState g.row.A.Denot
state g c = record { database = c.self.inside.image; opening = c.self.inside.trail.opening; entries = c.self.inside.trail.entries.items; tickets = c.self.inside.tickets.slots; next = c.self.inside.tickets.vacant_key; holds = c.self.inside.holds; limit = c.self.inside.limit }

steps : (g : _) (c : goal.After-ran-3 g) → Steps (state g c) c.args.session c.args.command c.ran-2.result (record (state g c) { database = c.run_in_place.new.image; entries = c.push_reserved.new.self.items })
steps g c =
    let s : DeskState g.row.A.Denot = state g c in
    let may = subst (λ (x : DeskState g.row.A.Denot). MayAsk x c.args.command) (sym c.self.view_is) c.requires.may in
    let leads = subst (λ (x : DeskState g.row.A.Denot). IsPlaceOf x.database (key_of c.args.command) c.args.place) (sym c.self.view_is) c.requires.place in
    let run = subst (λ (x : Command g.row.A.Denot). IsRun x) c.command.ensures (c.if-not-is_run.ensures.run refl) in
    let put = subst (λ (x : Command g.row.A.Denot). IsPutIn s.database c.args.place c.args.session x (replies.Ran c.in-Some.ended.code c.in-Some.ended.word) c.run_in_place.new.image) c.command-2.ensures c.in-Some.ensures.done in
    let done = subst (λ (r : Reply g.row.A.Denot). IsPutIn s.database c.args.place c.args.session c.args.command r c.run_in_place.new.image) (sym c.ran-2.ensures) put in
    let free = ap (λ (x : DeskState g.row.A.Denot). list_any (bars c.args.place.page Exclusive) x.holds) c.self.view_is ∙ sym c.is_in_the_way.ensures ∙ c.if-is_in_the_way.false in
    stepped_at_once s c.args.session c.args.command c.args.place c.self.invariant.0 may (keyed_run c.args.command run) leads c.ran-2.result c.ran.result c.run_in_place.new.image c.reserve.new.self.items c.push_reserved.new.self.items
    done (c.ran.ensures ∙ sym c.ran-2.ensures) free c.reserve.ensures.items (entered _ _ _ _ c.push_reserved.ensures.items c.new-entry.ensures)

pub invariant_of-self-2 : goal.invariant_of-self-2
invariant_of-self-2 g c =
    let room : vec_len c.reserve.new.self + (slab_len c.self.inside.tickets + 1) ≤ vec_capacity c.reserve.new.self = search rules in
    (Steps-sound (state g c) _ c.args.session c.args.command c.ran-2.result c.self.invariant.0 (steps g c), omega (arith, c.push_reserved.ensures.len, c.push_reserved.ensures.capacity))

pub returns-clause-ok : goal.returns-clause-ok
returns-clause-ok g c = rw (← c.self.view_is) (steps g c)
