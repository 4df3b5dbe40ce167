use Rattle.std.proofs.Common.{◌≡◌, ◌∷◌, length, ap, arith}
use Rattle.std.specs.Prelude.{map}
use Rattle.std.specs.Vec.Iter.{into_iter_items}
use Rattle.store_shared.specs.Shared.{calls_left}
use Rattle.store_shared.proofs.Groups.{next_none}
use Rattle.worker_pool.proofs.GatherLemmas.{moved_view, moved, moved_all}
use Rattle.worker_pool.proofs.gather.dismiss.Goals as goal

pub loop-worker-preserved : goal.loop-worker-preserved
loop-worker-preserved g c =
    let left = into_iter_items c.loop-worker.worker-iterator in
    let rest = into_iter_items c.next.new.self in
    let step : left ≡ c.in-Some.worker ∷ rest = c.in-Some.ensures.steps.0 in
    let long : length left ≡ length (c.in-Some.worker ∷ rest) = ap length step in
    record {
      next = tt;
      ends = tt;
      lists_room = omega arith;
      calls_room = omega arith;
      lists = moved_view (λ list. into_iter_items list) (λ x. x.replies.items) c.loop-worker.lists.items c.push_reserved.new.self.items c.into_iter.result c.in-Some.worker left rest _ c.push_reserved.ensures.items step c.into_iter.ensures.rest c.loop-worker.invariant.lists;
      calls = moved (λ x. calls_left x.session) c.loop-worker.calls.items c.push_reserved-in-loop-worker.new.self.items c.into_calls.result c.in-Some.worker left rest _ c.push_reserved-in-loop-worker.ensures.items step c.into_calls.ensures c.loop-worker.invariant.calls;
    }

pub returns-clause-lists : goal.returns-clause-lists
returns-clause-lists g c =
    moved_all (λ x. x.replies.items) (map (λ list. into_iter_items list) c.loop-worker.lists.items) (into_iter_items c.loop-worker.worker-iterator) _ (next_none c.loop-worker.worker-iterator c.next.result c.next.new.self c.in-None.is c.next.ensures.steps) c.loop-worker.invariant.lists

pub returns-clause-calls : goal.returns-clause-calls
returns-clause-calls g c =
    moved_all (λ x. calls_left x.session) c.loop-worker.calls.items (into_iter_items c.loop-worker.worker-iterator) _ (next_none c.loop-worker.worker-iterator c.next.result c.next.new.self c.in-None.is c.next.ensures.steps) c.loop-worker.invariant.calls
