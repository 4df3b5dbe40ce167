use Rattle.std.proofs.Common.{◌∙◌, Some, ap, sym, subst, refl, inl, inr}
use Rattle.prog_registry.specs.FaultText.{fault_text}
use Rattle.boddurci_handles.specs.declared.status.Status.{Status}
use Rattle.boddurci_c.specs.Calls.{Never, IsToldAs}
use Rattle.boddurci_c.proofs.CallLemmas.{closed_denies}
use Rattle.boddurci_c.proofs.boddurci_submit.Goals as goal

pub returns-in_default : goal.returns-in_default
returns-in_default c = inr (inr (closed_denies Never _ _ _ c.in_default.ensures.none c.take.ensures.closed c.code.ensures, (refl, (refl, (refl, refl)))))

pub returns-in-Ok : goal.returns-in-Ok
returns-in-Ok c = inl (record {
  code_is = c.code-in-Ok.ensures;
  submits = record { before = c.deref_mut-open.result.now; after = _; old_is = c.in-Some.ensures.some ∙ ap Some (sym c.deref_mut-open.ensures.value); new_is = c.put.ensures; is = (c.in-Ok.ensures.ok, record { image = refl; marks = refl; limit = refl; base = refl }) };
})

pub returns-in-Err : goal.returns-in-Err
returns-in-Err c = inr (inl (
  record {
    fault = c.in-Err.fault;
    unit_is = c.unit_of.ensures;
    status = c.tell.result;
    code_is = c.code-in-Err.ensures;
    submits = record { before = c.deref_mut-open.result.now; after = _; old_is = c.in-Some.ensures.some ∙ ap Some (sym c.deref_mut-open.ensures.value); new_is = c.put.ensures; is = (c.in-Err.ensures.err, record { image = refl; marks = refl; limit = refl; base = refl }) };
    text = subst (λ (s : Status). IsToldAs s (fault_text c.in-Err.fault) c.args.room.now c.tell.new.room c.tell.new.len c.tell.result) c.fault_status.ensures (c.tell.ensures _ refl);
  },
  refl,
))
