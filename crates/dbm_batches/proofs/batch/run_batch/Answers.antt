use Rattle.std.proofs.Common.{◌∙◌, List, refl, subst, ap, Some}
use Rattle.std.specs.List.{flat_map}
use Rattle.std.specs.declared.alloc.Global.{Global}
use Rattle.worker_pool.specs.declared.task.Task.{Task}
use Rattle.dbm_batches.specs.Batches.{TasksLeadTo, reply_line, task_causes}
use Rattle.dbm_batches.specs.Causes.{HasWishCause}
use Rattle.dbm_batches.proofs.BatchFaults.{doing_fault}
use Rattle.dbm_reports.proofs.Faults.{as_err}
use Rattle.dbm_batches.proofs.batch.run_batch.Goals as goal

pub returns-in_err-done-clause-fault : goal.returns-in_err-done-clause-fault
returns-in_err-done-clause-fault g c =
    as_err (HasWishCause (task_causes c.args.notation.now c.args.time c.args.batch (Some c.args.input.now))) _ c.from_residual-in_err-done.ensures.1
    (doing_fault c.args.notation.now c.args.time c.args.batch c.args.input.now c.in_ok-words.words.items c.as_slice.result.now _ (record { short = c.requires; are = c.in_ok-words.ensures.ok }) (c.as_slice.ensures.value ∙ c.in_ok-tasks.ensures) c.in_err-done.ensures.fault)

pub returns-clause-ok : goal.returns-clause-ok
returns-clause-ok g c = (
  c.in_ok-words.words.items,
  (
    record { short = c.requires; are = c.in_ok-words.ensures.ok },
    record {
      replies = c.in_ok-done.done.replies.items;
      after = c.in_ok-done.done.database;
      leads = subst (λ (tasks : List (Task Global)). TasksLeadTo c.args.batch tasks c.in_ok-done.done.replies.items c.in_ok-done.done.database) (c.as_slice.ensures.value ∙ c.in_ok-tasks.ensures) c.in_ok-done.ensures.ok;
      text_is = c.in_ok-show_replies.ensures ∙ ap (flat_map (reply_line c.args.notation.now)) c.as_slice-2.ensures.value;
      status_is = refl;
      written = refl;
    },
  ),
)
