use Rattle.std.proofs.Common.{◌≡◌, ◌∙◌, ◌+◌, ◌++◌, ◌∷◌, [], length, ap, sym, subst, arith}
use Rattle.std.specs.Prelude.{Some}
use Rattle.std.specs.List.{slice_get}
use Rattle.std.proofs.lemmas.List.{length_push}
use Rattle.std.proofs.lemmas.Option.{slice_get-get_or}
use Rattle.worker_pool.specs.Groups.{AreRunsFrom, place_behind}
use Rattle.worker_pool.proofs.GroupLemmas.{runs_push, behind_push}
use Rattle.worker_pool.proofs.group.ready_more.Goals as goal

pub loop-alloc-preserved : goal.loop-alloc-preserved
loop-alloc-preserved g c =
    let programs = c.args.registry.now.programs in
    let tasks = c.args.tasks.now in
    let k = c.args.workers in
    let at = c.args.at in
    let calls = c.loop-alloc.calls.items in
    let next = c.in-Some.next in
    let task = c.index-tasks-next.result in
    let here : slice_get tasks next ≡ Some task = slice_get-get_or tasks next task c.in-Some.ensures.1 ∙ ap Some (sym c.index-tasks-next.is) in
    let ready = c.in-Ok.ready in
    let runs = runs_push programs tasks k at calls ready task c.loop-alloc.invariant.runs (ap (slice_get tasks) (c.loop-alloc.invariant.behind ∙ sym c.in-Some.ensures.0) ∙ here) c.in-Ok.ensures.ok in
    let long : length (calls ++ ready ∷ []) ≡ length calls + 1 = length_push calls ready in
    record {
      within = c.in-Some.ensures.1;
      runs = subst (AreRunsFrom programs tasks k at) (sym c.in-Ok-push.ensures.items) runs;
      behind = ap (place_behind k at) c.in-Ok-push.ensures.items ∙ (behind_push k at calls ready ∙ ap (λ n. n + k) (c.loop-alloc.invariant.behind ∙ sym c.in-Some.ensures.0));
      any = let pushed = ap length c.in-Ok-push.ensures.items in omega arith;
    }
