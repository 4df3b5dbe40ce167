use Rattle.std.proofs.Common.{◌∙◌, ℕ, List, Some, ap, sym, subst, inl, inr, refl}
use Rattle.boddurci_c.specs.Calls.{Never, IsCopied}
use Rattle.boddurci_c.proofs.CallLemmas.{shows, closed_denies}
use Rattle.boddurci_c.proofs.boddurci_changed.Goals as goal

pub returns-in_default : goal.returns-in_default
returns-in_default c = inr (closed_denies Never _ _ _ c.in_default.ensures.none c.take.ensures.closed c.code.ensures, (refl, refl))

pub returns : goal.returns
returns c = inl (record {
  status = c.copy_out-status.result;
  code_is = c.code-2.ensures;
  is = shows (λ d. IsCopied d.marks c.args.numbers.now c.copy_out-status.new.room c.copy_out-status.new.len c.copy_out-status.result) _ _ c.deref.result.now _ (c.in-Some.ensures.some ∙ ap Some (sym c.deref.ensures)) c.put.ensures (sym c.deref.ensures)
      (subst (λ (l : List ℕ). IsCopied l c.args.numbers.now c.copy_out-status.new.room c.copy_out-status.new.len c.copy_out-status.result) c.as_slice.ensures c.copy_out-status.ensures);
})
