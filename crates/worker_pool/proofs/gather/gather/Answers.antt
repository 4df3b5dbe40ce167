use Rattle.std.proofs.Common.{◌<◌, ◌+◌, length, sym, ap, subst, ◌∙◌, arith, rules}
use Rattle.std.specs.Prelude.{◌%◌, set, slice_index_or}
use Rattle.std.specs.Vec.Iter.{into_iter_items}
use Rattle.std.proofs.lemmas.List.{get_or_default, length_push}
use Rattle.std.proofs.lemmas.Nat.{mod_below}
use Rattle.store_shared.proofs.Groups.{next_none}
use Rattle.worker_pool.proofs.GatherLemmas.{AreTaken, taken_none, taken_next, taken_some, taken_all, next_some}
use Rattle.worker_pool.proofs.gather.gather.Goals as goal

pub loop-at-init : goal.loop-at-init
loop-at-init g c = record {
  len = c.requires.room.2;
  count = ap length c.requires.room.0;
  room = c.requires.room.1;
  taken = subst (λ xs. AreTaken into_iter_items (length c.args.lists.now) xs c.args.lists.now c.args.lists.now) (sym c.requires.room.0) (taken_none into_iter_items (length c.args.lists.now) c.args.lists.now);
}

pub offset_bounds-lists-at : goal.offset_bounds-lists-at
offset_bounds-lists-at g c =
    let turn : c.loop-at.at % length c.args.lists.now < length c.args.lists.now = mod_below c.loop-at.at (length c.args.lists.now) c.requires.some in
    search rules

pub unreachable-requires : goal.unreachable-requires
unreachable-requires g c =
    taken_some into_iter_items (length c.args.lists.now) c.loop-at.at c.loop-at.replies.items c.args.tasks.now c.loop-at.lists c.args.lists.now c.index-lists-at.result c.loop-at.invariant.count c.requires.some c.loop-at-test.true c.requires.shares c.loop-at.invariant.taken
    (next_none (slice_index_or c.loop-at.lists (c.loop-at.at % length c.args.lists.now) c.index-lists-at.result) c.next.result c.next.new.self c.in_default.is c.next.ensures.cases)

pub loop-at-preserved : goal.loop-at-preserved
loop-at-preserved g c =
    let k = length c.args.lists.now in
    let turn : c.loop-at.at % k < length c.loop-at.lists = let small = mod_below c.loop-at.at k c.requires.some in omega arith in
    let step = next_some (slice_index_or c.loop-at.lists (c.loop-at.at % k) c.index-lists-at.result) c.next.result c.next.new.self c.in-Some.reply c.in-Some.is c.next.ensures.cases in
    record {
      len = omega arith;
      count = ap length c.push_reserved.ensures.items ∙ (length_push c.loop-at.replies.items c.in-Some.reply ∙ ap (λ n. n + 1) c.loop-at.invariant.count);
      room = omega arith;
      taken = subst (λ xs. AreTaken into_iter_items k xs (set c.loop-at.lists (c.loop-at.at % k) c.next.new.self) c.args.lists.now) (sym c.push_reserved.ensures.items)
          (taken_next into_iter_items k c.loop-at.at c.loop-at.replies.items c.loop-at.lists c.args.lists.now c.in-Some.reply c.next.new.self c.loop-at.invariant.count c.loop-at.auto.lists c.requires.some (λ d. ap into_iter_items (get_or_default c.loop-at.lists (c.loop-at.at % k) d c.index-lists-at.result turn) ∙ step) c.loop-at.invariant.taken);
    }

pub returns-clause-shares : goal.returns-clause-shares
returns-clause-shares g c = taken_all into_iter_items (length c.args.lists.now) c.loop-at.replies.items c.args.tasks.now c.loop-at.lists c.args.lists.now (c.loop-at.invariant.count ∙ (omega arith)) c.requires.shares c.loop-at.invariant.taken
