use Rattle.std.proofs.Common.{◌∙◌, Some, ap, sym, subst, refl, inl, inr}
use Rattle.boddurci_handles.specs.Statuses.{status_code}
use Rattle.boddurci_c.specs.Stocks.{DeniesStock, IsStockImage}
use Rattle.boddurci_c.proofs.CallLemmas.{closed_denies}
use Rattle.boddurci_c.proofs.boddurci_submit_stock.Goals as goal

pub returns-in_default : goal.returns-in_default
returns-in_default c = inr (inr (closed_denies (λ _. DeniesStock c.args.name.now) _ _ _ c.in_default.ensures.none c.take.ensures.closed c.code.ensures, refl))

pub returns-in-Ok-given : goal.returns-in-Ok-given
returns-in-Ok-given c = inl (record {
  image = c.as_slice.result.now;
  stock = subst (IsStockImage c.args.name.now) (sym c.as_slice.ensures.value) c.in-Ok.ensures.ok;
  numbers = record {
    code_is = c.code-in-Ok-given.ensures;
    submits = record { before = c.deref_mut-open.result.now; after = _; old_is = c.in-Some.ensures.some ∙ ap Some (sym c.deref_mut-open.ensures.value); new_is = c.put-2.ensures; is = (c.in-Ok-given.ensures.ok, record { image = refl; marks = refl; limit = refl; base = refl }) };
  };
})

pub returns : goal.returns
returns c = inr (inl (
  record {
    image = c.as_slice.result.now;
    stock = subst (IsStockImage c.args.name.now) (sym c.as_slice.ensures.value) c.in-Ok.ensures.ok;
    fault = c.in-Err-given.fault;
    code_is = c.code-in-Err-given.ensures ∙ ap status_code c.fault_status.ensures;
    submits = record { before = c.deref_mut-open.result.now; after = _; old_is = c.in-Some.ensures.some ∙ ap Some (sym c.deref_mut-open.ensures.value); new_is = c.put-2.ensures; is = (c.in-Err-given.ensures.err, record { image = refl; marks = refl; limit = refl; base = refl }) };
  },
  refl,
))
