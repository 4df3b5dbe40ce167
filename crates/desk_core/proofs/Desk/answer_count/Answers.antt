use Rattle.std.proofs.Common.{◌+◌, ◌≤◌, ◌++◌, ◌∷◌, [], List, refl, ap, ◌∙◌, subst, sym, arith, rules}
use Rattle.std.specs.Prelude.{vec_len, vec_capacity}
use Rattle.slab.specs.Slab.{slab_len}
use Rattle.store_cmd.specs.declared.Command.{Command}
use Rattle.store_cmd.specs.declared.Entry.{Entry}
use Rattle.store_cmd.specs.declared.Reply.{Reply}
use Rattle.store_cmd.specs.declared.Reply.TheVariants as replies
use Rattle.desk_core.specs.Desk.{DeskState}
use Rattle.desk_core.specs.Calls.{MayAsk}
use Rattle.desk_core.proofs.Sound.{Counts-sound}
use Rattle.desk_core.proofs.Ties.{entered}
use Rattle.desk_core.proofs.Desk.answer_count.Goals as goal

pub invariant_of-self-2 : goal.invariant_of-self-2
invariant_of-self-2 g c =
    let s : DeskState g.row.A.Denot = record { database = c.self.inside.image; opening = c.self.inside.trail.opening; entries = c.self.inside.trail.entries.items; tickets = c.self.inside.tickets.slots; next = c.self.inside.tickets.vacant_key; holds = c.self.inside.holds; limit = c.self.inside.limit } in
    let may = subst (λ (x : DeskState g.row.A.Denot). MayAsk x c.args.command) (sym c.self.view_is) c.requires.may in
    let reply : Reply g.row.A.Denot = replies.Count c.count-counted.result in
    let with : Command g.row.A.Denot → List (Entry g.row.A.Denot) = λ command. c.self.inside.trail.entries.items ++ (let entry : Entry g.row.A.Denot = record { session = c.args.session; command = command; reply = reply } in entry) ∷ [] in
    let asked : Entry g.row.A.Denot = record { session = c.args.session; command = c.args.command; reply = reply } in
    let room : vec_len c.reserve.new.self + (slab_len c.self.inside.tickets + 1) ≤ vec_capacity c.reserve.new.self = search rules in (
      Counts-sound s _ c.args.session reply c.self.invariant.0 (subst (λ (x : Command g.row.A.Denot). MayAsk s x) c.requires.counts may)
          (record {
            reply_is = ap (λ n. let r : Reply g.row.A.Denot = replies.Count n in r) c.count-counted.ensures;
            entries = entered _ _ _ _ c.push_reserved.ensures.items c.new-entry.ensures ∙ (ap (λ (es : List (Entry g.row.A.Denot)). es ++ asked ∷ []) c.reserve.ensures.items ∙ ap with c.requires.counts);
            database = refl;
            opening = refl;
            tickets = refl;
            next = refl;
            holds = refl;
            limit_is = refl;
          }),
      omega (arith, c.push_reserved.ensures.len, c.push_reserved.ensures.capacity),
    )
