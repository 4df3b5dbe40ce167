use Rattle.std.proofs.Common.{subst}
use Rattle.std.proofs.lemmas.List.{take_all}
use Rattle.std.proofs.lemmas.List.Elements.{All-more}
use Rattle.worker_pool.specs.Tasks.{IsKnown, AreTasksKnown}
use Rattle.worker_pool.proofs.pool.first_unknown.Goals as goal

pub loop-at-preserved : goal.loop-at-preserved
loop-at-preserved g c =
    All-more (λ task. IsKnown c.args.registry.now.programs task) c.args.tasks.now c.loop-at.at c.index-tasks-at.result c.loop-at-test.true c.loop-at.invariant (subst (λ task. IsKnown c.args.registry.now.programs task) c.index-tasks-at.is (c.is_known.ensures.0 c.if-not-is_known.false))

pub returns-clause-none : goal.returns-clause-none
returns-clause-none g c = subst (AreTasksKnown c.args.registry.now.programs) (take_all c.loop-at.at c.args.tasks.now c.loop-at-test.false) c.loop-at.invariant
