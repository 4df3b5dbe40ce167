use Rattle.std.proofs.Common.{◌∙◌, Some, ap, sym, subst, inl, inr, refl}
use Rattle.boddurci_handles.specs.Statuses.{status_code}
use Rattle.boddurci_c.specs.Calls.{RunsBy, DeniesRun, blank_for}
use Rattle.boddurci_c.proofs.CallLemmas.{closed_denies, denies}
use Rattle.boddurci_c.proofs.boddurci_run.Goals as goal

pub returns-in_default : goal.returns-in_default
returns-in_default c = inr (closed_denies (DeniesRun c.args.number c.args.key.now c.args.arg.now (blank_for c.args.has_blank c.args.blank) c.args.now) _ _ _ c.in_default.ensures.none c.take.ensures.closed c.code.ensures, (refl, refl))

pub returns-in-Ok : goal.returns-in-Ok
returns-in-Ok c = inl (record {
  reply = c.in-Ok.reply;
  code_is = c.code-in-Ok.ensures ∙ ap status_code c.of_reply.ensures;
  does = record { before = c.deref_mut.result.now; after = c.run-done.new.db; old_is = c.in-Some.ensures.some ∙ ap Some (sym c.deref_mut.ensures.value); new_is = c.put.ensures; is = subst (λ b. RunsBy c.args.number c.args.key.now c.args.arg.now b c.args.now c.in-Ok.reply c.deref_mut.result.now c.run-done.new.db) c.blank_of-blank.ensures c.in-Ok.ensures.ok };
  told = c.end_of.ensures;
})

pub returns-in-Err : goal.returns-in-Err
returns-in-Err c = inr (
  denies (DeniesRun c.args.number c.args.key.now c.args.arg.now (blank_for c.args.has_blank c.args.blank) c.args.now) _ _ _ c.deref_mut.result.now c.run-done.new.db c.in-Err.status (c.in-Some.ensures.some ∙ ap Some (sym c.deref_mut.ensures.value)) c.put.ensures c.in-Err.ensures.err c.code-in-Err.ensures
      (subst (λ b. DeniesRun c.args.number c.args.key.now c.args.arg.now b c.args.now c.deref_mut.result.now c.in-Err.status) c.blank_of-blank.ensures c.in-Err.ensures.why),
  (refl, refl),
)
