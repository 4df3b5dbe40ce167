use Rattle.std.proofs.Common.{◌∙◌, Some, ap, sym, inl, inr, refl}
use Rattle.boddurci_handles.specs.Statuses.{status_code}
use Rattle.boddurci_c.specs.Tickets.{WhyNot}
use Rattle.boddurci_c.proofs.CallLemmas.{closed_denies, denies}
use Rattle.boddurci_c.proofs.boddurci_finish.Goals as goal

pub returns-in_default : goal.returns-in_default
returns-in_default c = inr (record { same = refl; denied = closed_denies (WhyNot c.args.ticket.now.asked) _ _ _ c.in_default.ensures.none c.take.ensures.closed c.code.ensures }, (refl, refl))

pub returns-in-Ok : goal.returns-in-Ok
returns-in-Ok c = inl (record {
  reply = c.in-Ok.reply;
  code_is = c.code-in-Ok.ensures ∙ ap status_code c.of_reply.ensures;
  does = record { before = c.deref_mut.result.now; after = c.finish_on-done.new.db; old_is = c.in-Some.ensures.some ∙ ap Some (sym c.deref_mut.ensures.value); new_is = c.put.ensures; is = c.in-Ok.ensures.ok };
  told = c.end_of.ensures;
})

pub returns-in-Err : goal.returns-in-Err
returns-in-Err c = inr (
  record {
    same = c.in-Err.ensures.same;
    denied = denies (WhyNot c.args.ticket.now.asked) _ _ _ c.deref_mut.result.now c.finish_on-done.new.db c.in-Err.status (c.in-Some.ensures.some ∙ ap Some (sym c.deref_mut.ensures.value)) c.put.ensures c.in-Err.ensures.err c.code-in-Err.ensures c.in-Err.ensures.why;
  },
  (refl, refl),
)
