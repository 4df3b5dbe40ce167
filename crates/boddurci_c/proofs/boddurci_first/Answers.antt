use Rattle.std.proofs.Common.{◌∙◌, Some, ap, sym, inl, inr, refl}
use Rattle.boddurci_c.specs.Calls.{Never}
use Rattle.boddurci_c.specs.Turns.{IsStart}
use Rattle.boddurci_c.proofs.CallLemmas.{shows, closed_denies}
use Rattle.boddurci_c.proofs.boddurci_first.Goals as goal

pub returns-in_default : goal.returns-in_default
returns-in_default c = inr (closed_denies Never _ _ _ c.in_default.ensures.none c.take.ensures.closed c.code.ensures, refl)

pub returns : goal.returns
returns c = inl (record {
  code_is = c.code-2.ensures;
  is = shows (λ d. IsStart d.image (record { page = 0; end = c.page_count.result; pair = 0 })) _ _ c.deref.result.now _ (c.in-Some.ensures.some ∙ ap Some (sym c.deref.ensures)) c.put.ensures (sym c.deref.ensures) (record { page = refl; pair = refl; end = c.page_count.ensures.count });
})
