use Rattle.std.proofs.Common.{◌≡◌, ◌∙◌, ◌++◌, ◌∷◌, [], ap, sym, subst}
use Rattle.std.specs.Prelude.{Some}
use Rattle.std.specs.List.{slice_get}
use Rattle.std.proofs.lemmas.Option.{get_or_from_slice_get, slice_get-get_or}
use Rattle.worker_pool.specs.Tasks.{run_of, IsTaskRefusal}
use Rattle.worker_pool.specs.Groups.{AreRunsFrom}
use Rattle.worker_pool.proofs.group.ready_group.Goals as goal

pub returns-in-Err-clause-refused : goal.returns-in-Err-clause-refused
returns-in-Err-clause-refused g c = λ task here.
    subst (λ t. IsTaskRefusal c.args.session.now.size (run_of c.args.registry.now.programs t) c.in-Err.refusal)
    (c.index-tasks-at.is ∙ get_or_from_slice_get c.args.tasks.now c.args.at task c.index-tasks-at.result here) c.in-Err.ensures.refused

pub ready_more-requires-clause-runs : goal.ready_more-requires-clause-runs
ready_more-requires-clause-runs g c κs within =
    let programs = c.args.registry.now.programs in
    let tasks = c.args.tasks.now in
    let task = c.index-tasks-at.result in
    let ready = c.in-Ok.ready in
    let here : slice_get tasks c.args.at ≡ Some task = slice_get-get_or tasks c.args.at task c.requires.within ∙ ap Some (sym c.index-tasks-at.is) in
    let one : AreRunsFrom programs tasks c.args.workers c.args.at (ready ∷ []) = (task, (here, (c.in-Ok.ensures.ok, tt))) in
    subst (AreRunsFrom programs tasks c.args.workers c.args.at) (sym (c.in-Ok-push.ensures.items ∙ ap (λ calls. calls ++ ready ∷ []) c.new-calls.ensures.items)) one
