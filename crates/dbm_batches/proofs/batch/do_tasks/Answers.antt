use Rattle.std.proofs.Common.{◌≡◌, List, ap, inl, subst, sym}
use Rattle.std.proofs.lemmas.Result.{IfErr-weaker}
use Rattle.sdbm_addr.specs.declared.PageSize.{PageSize}
use Rattle.sdbm_addr.specs.Database.{Database}
use Rattle.std.specs.declared.alloc.Global.{Global}
use Rattle.std.specs.declared.vec.Vec.{Vec}
use Rattle.store_cmd.specs.declared.Reply.{Reply}
use Rattle.store_shared.specs.Shared.{Opened, opened_by}
use Rattle.worker_pool.specs.Pool.{AreDone, IsPoolFault}
use Rattle.dbm_reports.proofs.Faults.{both_ok}
use Rattle.dbm_batches.specs.Batches.{IsClosedAfter, TasksLeadTo}
use Rattle.dbm_batches.specs.declared.batch.Done.{Done}
use Rattle.dbm_batches.proofs.BatchFaults.{closing_fault, undone_fault}
use Rattle.dbm_batches.proofs.batch.do_tasks.Goals as goal

pub returns-in-Ok-run_jobs-clause-ok : goal.returns-in-Ok-run_jobs-clause-ok
returns-in-Ok-run_jobs-clause-ok g c =
    let batch = c.args.batch in
    let tasks = c.args.tasks.now in
    let answers = c.in-Ok-run_jobs.answers in
    let all : AreDone batch.database.size batch.registry.programs tasks batch.workers answers.replies.items answers.calls.items =
    subst (λ (size : PageSize). AreDone size batch.registry.programs tasks batch.workers answers.replies.items answers.calls.items) (ap (λ (o : Opened). o.size) c.in-Ok.ensures.ok) c.in-Ok-run_jobs.ensures.ok in
    both_ok (λ (done : Done). done.replies ≡ answers.replies) (λ (done : Done). (before : Database) → c.in-Ok.store ≡ opened_by before → IsClosedAfter before answers.calls.items done.database) (λ (done : Done). TasksLeadTo batch tasks done.replies.items done.database) c.close.result
    (λ done same closed. record {
      calls = answers.calls.items;
      done = subst (λ (replies : List (Reply Global)). AreDone batch.database.size batch.registry.programs tasks batch.workers replies answers.calls.items) (sym (ap (λ (v : Vec (Reply Global) Global). v.items) same)) all;
      closed = closed batch.database c.in-Ok.ensures.ok;
    }) c.close.ensures.replies c.close.ensures.closed

pub returns-in-Ok-run_jobs-clause-fault : goal.returns-in-Ok-run_jobs-clause-fault
returns-in-Ok-run_jobs-clause-fault g c =
    let size = ap (λ (o : Opened). o.size) c.in-Ok.ensures.ok in
    let answers = c.in-Ok-run_jobs.answers in
    let done = subst (λ (size : PageSize). AreDone size c.args.batch.registry.programs c.args.tasks.now c.args.batch.workers answers.replies.items answers.calls.items) size c.in-Ok-run_jobs.ensures.ok in
    IfErr-weaker c.close.result _ _
    (λ fault bad. closing_fault c.args.batch c.args.tasks.now c.in-Ok.store answers.calls.items fault c.in-Ok.ensures.ok (inl (answers.replies.items, done)) bad)
    c.close.ensures.fault

pub returns-clause-fault : goal.returns-clause-fault
returns-clause-fault g c =
    undone_fault c.args.batch c.args.tasks.now c.in-Ok.store c.in-Err.calls.items c.in-Err.fault c.undone.result c.in-Ok.ensures.ok
    (subst (λ (size : PageSize). IsPoolFault size c.args.batch.registry.programs c.args.tasks.now c.args.batch.workers c.in-Err.fault c.in-Err.calls.items)
    (ap (λ (o : Opened). o.size) c.in-Ok.ensures.ok) c.in-Err.ensures.err)
    c.undone.ensures
