use Rattle.std.proofs.Common.{◌≡◌, ◌∷◌, ◌+◌, ◌≤◌, length, ap, sym, subst, arith}
use Rattle.std.specs.Prelude.{vec_len, vec_capacity}
use Rattle.std.specs.Vec.Iter.{into_iter_items}
use Rattle.store_shared.specs.Shared.{session_of}
use Rattle.store_shared.proofs.Groups.{SoFar, so_far_none, so_far_noted, so_far_all, next_none}
use Rattle.store_shared.proofs.grouping.make_all.Goals as goal

pub loop-command-init : goal.loop-command-init
loop-command-init g c =
    let calls = c.args.calls in
    let same = sym c.into_iter-command-iterator.ensures.into_iter_gives in
    record {
      next = tt;
      ends = tt;
      entries_room = subst (λ it. length (into_iter_items it) + vec_len c.args.entries.now ≤ vec_capacity c.args.entries.now) same c.requires.entries;
      outcomes_room = subst (λ it. length (into_iter_items it) + vec_len c.args.outcomes.now ≤ vec_capacity c.args.outcomes.now) same c.requires.outcomes;
      made = subst (λ it. SoFar (session_of c.args.maker.session c.args.maker.size c.args.entries.now.items) (into_iter_items calls) (into_iter_items it) c.args.outcomes.now.items (session_of c.args.maker.session c.args.maker.size c.args.entries.now.items) c.args.outcomes.now.items) same
          (so_far_none (session_of c.args.maker.session c.args.maker.size c.args.entries.now.items) (into_iter_items calls) c.args.outcomes.now.items);
    }

pub loop-command-preserved : goal.loop-command-preserved
loop-command-preserved g c =
    let left = into_iter_items c.loop-command.command-iterator in
    let rest = into_iter_items c.next.new.self in
    let step : left ≡ c.in-Some.command ∷ rest = c.in-Some.ensures.steps.0 in
    let long : length left ≡ length (c.in-Some.command ∷ rest) = ap length step in
    let near = c.loop-command.invariant.entries_room in
    let far = c.loop-command.invariant.outcomes_room in
    let one = c.note.ensures.entries in
    let other = c.note.ensures.outcomes in
    let same = c.note.ensures.entries_room in
    let also = c.note.ensures.outcomes_room in
    record {
      next = tt;
      ends = tt;
      entries_room = omega arith;
      outcomes_room = omega arith;
      made = so_far_noted c.args.maker.session c.args.maker.size c.args.entries.now.items c.loop-command.entries.items c.note.new.entries.items (into_iter_items c.args.calls) left rest c.args.outcomes.now.items c.loop-command.outcomes.items c.note.new.outcomes.items c.in-Some.command c.make-still.result.ended
          c.make-still.ensures.small c.make-still.ensures.reply c.make-still.ensures.entry c.make-still.ensures.refused step c.note.ensures.noted c.loop-command.invariant.made;
    }

pub returns : goal.returns
returns g c =
    so_far_all (session_of c.args.maker.session c.args.maker.size c.args.entries.now.items) (session_of c.args.maker.session c.args.maker.size c.loop-command.entries.items) (into_iter_items c.args.calls) (into_iter_items c.loop-command.command-iterator) c.args.outcomes.now.items c.loop-command.outcomes.items c.loop-command.invariant.made
    (next_none c.loop-command.command-iterator c.next.result c.next.new.self c.in-None.is c.next.ensures.steps)
