use Rattle.std.proofs.Common.{◌≡◌, ◌∙◌, [], arith, length, ap, subst}
use Rattle.std.specs.List.{All}
use Rattle.std.proofs.lemmas.List.{length-map}
use Rattle.std.proofs.lemmas.List.Elements.{All-weaker}
use Rattle.std.proofs.lemmas.Result.{IfOk-weaker, IfErr-weaker}
use Rattle.sdbm_addr.specs.declared.PageSize.{PageSize}
use Rattle.store_shared.specs.Shared.{SessionState, calls_left}
use Rattle.worker_pool.specs.declared.crew.Worker.{Worker}
use Rattle.worker_pool.specs.Shares.{IsUnused}
use Rattle.worker_pool.specs.Pool.{AreDone, IsUnfinished}
use Rattle.worker_pool.proofs.PoolLemmas.{idle_left}
use Rattle.worker_pool.proofs.pool.run_ready.Goals as goal

pub run_crew-requires-clause-begun : goal.run_crew-requires-clause-begun
run_crew-requires-clause-begun g c κs within =
    let count = c.in-Ok.ensures.all in
    record { some = let some = c.requires.begun.some in omega arith; known = c.requires.begun.known }

pub returns-in-Ok-clause-ok : goal.returns-in-Ok-clause-ok
returns-in-Ok-clause-ok g c =
    let W : Type 0 = Worker g.row.A.Denot g.row.G.Denot in
    IfOk-weaker c.run_crew.result
    (λ answers. (size : PageSize) → All (λ (x : W). x.session.size ≡ size) c.in-Ok.crew.items → AreDone size c.args.registry.now.programs c.args.tasks.now (length c.in-Ok.crew.items) answers.replies.items answers.calls.items)
    (λ answers. AreDone c.args.store.now.size c.args.registry.now.programs c.args.tasks.now c.args.workers answers.replies.items answers.calls.items)
    (λ answers done. subst (λ n. AreDone c.args.store.now.size c.args.registry.now.programs c.args.tasks.now n answers.replies.items answers.calls.items) c.in-Ok.ensures.all (done c.args.store.now.size c.in-Ok.ensures.sizes)) c.run_crew.ensures.ok

pub returns-in-Ok-clause-err : goal.returns-in-Ok-clause-err
returns-in-Ok-clause-err g c =
    let W : Type 0 = Worker g.row.A.Denot g.row.G.Denot in
    IfErr-weaker c.run_crew.result
    (λ refused. (size : PageSize) → All (λ (x : W). x.session.size ≡ size) c.in-Ok.crew.items → IsUnfinished size c.args.registry.now.programs c.args.tasks.now (length c.in-Ok.crew.items) refused.0 refused.1.items)
    (λ refused. IsUnfinished c.args.store.now.size c.args.registry.now.programs c.args.tasks.now c.args.workers refused.0 refused.1.items)
    (λ refused fault. subst (λ n. IsUnfinished c.args.store.now.size c.args.registry.now.programs c.args.tasks.now n refused.0 refused.1.items) c.in-Ok.ensures.all (fault c.args.store.now.size c.in-Ok.ensures.sizes)) c.run_crew.ensures.err

pub returns-in-Err-clause-err : goal.returns-in-Err-clause-err
returns-in-Err-clause-err g c =
    let W : Type 0 = Worker g.row.A.Denot g.row.G.Denot in
    let session : W → SessionState g.row.A.Denot = λ x. x.session in
    let few = c.in-Err.ensures.few in
    let long = ap length c.dismiss.ensures.calls ∙ length-map c.in-Err.crew.items (λ (x : W). calls_left x.session) in
    (omega arith, idle_left session c.in-Err.crew.items c.dismiss.new.calls.items c.dismiss.ensures.calls (All-weaker (λ (x : W). IsUnused x.session x.replies.items) (λ (x : W). x.session.calls ≡ []) (λ x unused. unused.calls) c.in-Err.crew.items c.in-Err.ensures.idle))
