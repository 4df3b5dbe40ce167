use Rattle.std.proofs.Common.{◌∙◌, Some, ap, sym, subst, inl, inr, refl}
use Rattle.boddurci_c.specs.Calls.{DeniesAsk, blank_for}
use Rattle.boddurci_c.specs.Tickets.{IsRunAsked}
use Rattle.boddurci_c.proofs.CallLemmas.{shows, closed_denies, denies}
use Rattle.boddurci_c.proofs.boddurci_ask.Goals as goal

pub returns-in_default : goal.returns-in_default
returns-in_default c = inr (record { same = refl; denied = closed_denies (DeniesAsk c.args.number c.args.key.now c.args.arg.now (blank_for c.args.has_blank c.args.blank) c.args.now) _ _ _ c.in_default.ensures.none c.take.ensures.closed c.code.ensures })

pub returns-in-Ok : goal.returns-in-Ok
returns-in-Ok c = inl (record {
  code_is = c.code-in-Ok.ensures;
  asked = c.in-Ok.job.value;
  ticket_is = c.put-in-Ok.ensures;
  is = shows (λ d. IsRunAsked c.args.number c.args.key.now c.args.arg.now (blank_for c.args.has_blank c.args.blank) c.args.now d c.in-Ok.job.value) _ _ c.deref.result.now _ (c.in-Some.ensures.some ∙ ap Some (sym c.deref.ensures)) c.put.ensures (sym c.deref.ensures)
      (subst (λ b. IsRunAsked c.args.number c.args.key.now c.args.arg.now b c.args.now c.deref.result.now c.in-Ok.job.value) c.blank_of-blank.ensures c.in-Ok.ensures.ok);
})

pub returns-in-Err : goal.returns-in-Err
returns-in-Err c = inr (record {
  same = refl;
  denied = denies (DeniesAsk c.args.number c.args.key.now c.args.arg.now (blank_for c.args.has_blank c.args.blank) c.args.now) _ _ _ c.deref.result.now _ c.in-Err.status (c.in-Some.ensures.some ∙ ap Some (sym c.deref.ensures)) c.put.ensures (sym c.deref.ensures) c.code-in-Err.ensures
      (subst (λ b. DeniesAsk c.args.number c.args.key.now c.args.arg.now b c.args.now c.deref.result.now c.in-Err.status) c.blank_of-blank.ensures c.in-Err.ensures.why);
})
