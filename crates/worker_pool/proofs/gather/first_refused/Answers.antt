use Rattle.std.proofs.Common.{◌∙◌, ap, sym, subst, ◌++◌, ◌∷◌, []}
use Rattle.std.specs.Prelude.{take, map}
use Rattle.std.proofs.lemmas.List.{map_more}
use Rattle.worker_pool.specs.Shares.{IsFirstIn}
use Rattle.worker_pool.proofs.PoolLemmas.{first_more}
use Rattle.worker_pool.proofs.gather.first_refused.Goals as goal

pub loop-worker-preserved : goal.loop-worker-preserved
loop-worker-preserved g c =
    let before = map (λ x. x.refused) (take c.loop-worker.worker-index c.args.crew.now) in
    let read = map_more (λ x. x.refused) c.args.crew.now c.loop-worker.worker-index c.worker-item.result c.loop-worker-test.true in
    let its = ap (λ x. x.refused) c.worker-item.is in
    subst (λ xs. IsFirstIn xs c.lower-first.result) (sym (read ∙ ap (λ o. before ++ o ∷ []) (sym its))) (first_more before c.loop-worker.first c.worker-item.result.refused c.lower-first.result c.loop-worker.invariant c.lower-first.ensures)
