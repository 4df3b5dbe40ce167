use Rattle.std.proofs.Common.{◌≡◌, ◌∙◌, ◌∷◌, ◌+◌, ◌%◌, length, ap, arith, subst, sym}
use Rattle.std.specs.Vec.Iter.{into_iter_items}
use Rattle.std.proofs.Math.Nat.{add-mod_right}
use Rattle.store_shared.proofs.Groups.{next_none}
use Rattle.worker_pool.specs.Groups.{HasCalled}
use Rattle.worker_pool.proofs.GroupLemmas.{called_step, called_all, called_last}
use Rattle.worker_pool.proofs.share.take_all.Goals as goal

pub returns-in_default : goal.returns-in_default
returns-in_default g c =
    called_last c.args.registry.now.programs c.args.tasks.now c.args.workers (c.args.at % c.args.workers) (c.loop-outcome.at + c.args.workers) (into_iter_items c.next.new.self) c.args.session.now c.take-refusal.new.replies.items c.earlier-first.result c.in_default.ensures
    (called_step c.args.registry.now.programs c.args.tasks.now c.args.workers (c.args.at % c.args.workers) c.loop-outcome.at c.in-Some.outcome (into_iter_items c.loop-outcome.outcome-iterator) (into_iter_items c.next.new.self) c.args.session.now c.loop-outcome.replies.items c.take-refusal.new.replies.items c.loop-outcome.first c.earlier-first.result c.take-refusal.result
    c.requires.some c.loop-outcome.invariant.its_own c.in-Some.ensures.steps.0 c.take-refusal.ensures.taken c.earlier-first.ensures c.loop-outcome.invariant.called)

pub loop-outcome-preserved : goal.loop-outcome-preserved
loop-outcome-preserved g c =
    let left = into_iter_items c.loop-outcome.outcome-iterator in
    let rest = into_iter_items c.next.new.self in
    let step : left ≡ c.in-Some.outcome ∷ rest = c.in-Some.ensures.steps.0 in
    let long : length left ≡ length (c.in-Some.outcome ∷ rest) = ap length step in
    let moved = c.loop-outcome.invariant.moved in
    let room = c.loop-outcome.invariant.room in
    let one = c.take-refusal.ensures.len in
    let same = c.take-refusal.ensures.room in
    let some = c.requires.some in
    let next = c.in-Some-place_after.ensures.0 in
    record {
      next = tt;
      ends = tt;
      within = c.in-Some-place_after.ensures.1;
      its_own = ap (λ n. n % c.args.workers) next ∙ (add-mod_right c.loop-outcome.at c.args.workers ∙ c.loop-outcome.invariant.its_own);
      moved = omega (arith, next);
      some = λ none. omega (arith, next);
      room = omega arith;
      called = subst (λ n. HasCalled c.args.registry.now.programs c.args.tasks.now c.args.workers (c.args.at % c.args.workers) n rest c.args.session.now c.take-refusal.new.replies.items c.earlier-first.result) (sym next)
          (called_step c.args.registry.now.programs c.args.tasks.now c.args.workers (c.args.at % c.args.workers) c.loop-outcome.at c.in-Some.outcome (into_iter_items c.loop-outcome.outcome-iterator) (into_iter_items c.next.new.self) c.args.session.now c.loop-outcome.replies.items c.take-refusal.new.replies.items c.loop-outcome.first c.earlier-first.result c.take-refusal.result
          c.requires.some c.loop-outcome.invariant.its_own c.in-Some.ensures.steps.0 c.take-refusal.ensures.taken c.earlier-first.ensures c.loop-outcome.invariant.called);
    }

pub returns : goal.returns
returns g c =
    let none = next_none c.loop-outcome.outcome-iterator c.next.result c.next.new.self c.in-None.is c.next.ensures.steps in (
      called_all c.args.registry.now.programs c.args.tasks.now c.args.workers (c.args.at % c.args.workers) c.loop-outcome.at (into_iter_items c.loop-outcome.outcome-iterator) c.args.session.now c.loop-outcome.replies.items c.loop-outcome.first none c.loop-outcome.invariant.called,
      (c.loop-outcome.invariant.its_own, (c.loop-outcome.invariant.some (ap length none), c.loop-outcome.invariant.within)),
    )
