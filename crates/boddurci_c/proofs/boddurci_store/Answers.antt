use Rattle.std.proofs.Common.{◌∙◌, Some, ap, sym, subst, inl, inr}
use Rattle.store_cmd.specs.declared.Command.TheVariants.{Store}
use Rattle.boddurci_handles.specs.Statuses.{status_code}
use Rattle.boddurci_c.specs.Calls.{DoesCommand, DeniesBy, mode_for}
use Rattle.boddurci_c.proofs.CallLemmas.{closed_denies, denies}
use Rattle.boddurci_c.proofs.boddurci_store.Goals as goal

pub returns-in_default : goal.returns-in_default
returns-in_default c = inr (closed_denies (λ d status. DeniesBy d (Store c.args.key.now c.args.value.now (mode_for c.args.replace)) status) _ _ _ c.in_default.ensures.none c.take.ensures.closed c.code.ensures)

pub returns-in-Ok : goal.returns-in-Ok
returns-in-Ok c = inl (record {
  reply = c.in-Ok.reply;
  code_is = c.code-in-Ok.ensures ∙ ap status_code c.of_reply.ensures;
  does = record { before = c.deref_mut.result.now; after = c.store-done.new.db; old_is = c.in-Some.ensures.some ∙ ap Some (sym c.deref_mut.ensures.value); new_is = c.put.ensures; is = subst (λ m. DoesCommand c.deref_mut.result.now (Store c.args.key.now c.args.value.now m) c.in-Ok.reply c.store-done.new.db) c.mode_of.ensures c.in-Ok.ensures.ok };
})

pub returns-in-Err : goal.returns-in-Err
returns-in-Err c = inr (denies (λ d status. DeniesBy d (Store c.args.key.now c.args.value.now (mode_for c.args.replace)) status) _ _ _ c.deref_mut.result.now c.store-done.new.db c.in-Err.status (c.in-Some.ensures.some ∙ ap Some (sym c.deref_mut.ensures.value)) c.put.ensures c.in-Err.ensures.err c.code-in-Err.ensures
    (subst (λ m. DeniesBy c.deref_mut.result.now (Store c.args.key.now c.args.value.now m) c.in-Err.status) c.mode_of.ensures c.in-Err.ensures.why))
