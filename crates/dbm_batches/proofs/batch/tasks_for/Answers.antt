use Rattle.std.proofs.Common.{◌≡◌, ◌∷◌, length, ap, arith}
use Rattle.std.specs.Vec.Iter.{into_iter_items}
use Rattle.store_shared.proofs.Groups.{next_none}
use Rattle.worker_pool.proofs.GatherLemmas.{moved, moved_all}
use Rattle.dbm_batches.specs.Batches.{task_for}
use Rattle.dbm_batches.proofs.batch.tasks_for.Goals as goal

pub loop-asked-preserved : goal.loop-asked-preserved
loop-asked-preserved c =
    let left = into_iter_items c.loop-asked.asked-iterator in
    let rest = into_iter_items c.next.new.self in
    let step : left ≡ c.in-Some.asked ∷ rest = c.in-Some.ensures.steps.0 in
    let long : length left ≡ length (c.in-Some.asked ∷ rest) = ap length step in
    record {
      next = tt;
      ends = tt;
      room = omega arith;
      tasks = moved (task_for c.args.program) c.loop-asked.tasks.items c.push_reserved.new.self.items c.task_for.result c.in-Some.asked left rest _ c.push_reserved.ensures.items step c.task_for.ensures c.loop-asked.invariant.tasks;
    }

pub returns : goal.returns
returns c =
    moved_all (task_for c.args.program) c.loop-asked.tasks.items (into_iter_items c.loop-asked.asked-iterator) _ (next_none c.loop-asked.asked-iterator c.next.result c.next.new.self c.in-None.is c.next.ensures.steps) c.loop-asked.invariant.tasks
