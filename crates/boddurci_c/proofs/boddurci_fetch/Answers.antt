use Rattle.std.proofs.Common.{◌∙◌, Some, ap, sym, inl, inr, refl}
use Rattle.boddurci_c.specs.Calls.{Never, FetchesIn}
use Rattle.boddurci_c.proofs.CallLemmas.{shows, closed_denies}
use Rattle.boddurci_c.proofs.boddurci_fetch.Goals as goal

pub returns-in_default : goal.returns-in_default
returns-in_default c = inr (closed_denies Never _ _ _ c.in_default.ensures.none c.take.ensures.closed c.code.ensures, (refl, refl))

pub returns : goal.returns
returns c = inl (record {
  status = c.fetch-status.result;
  code_is = c.code-2.ensures;
  told = shows (λ d. FetchesIn c.args.key.now d c.fetch-status.result c.args.room.now c.fetch-status.new.room c.args.len.now c.fetch-status.new.len) _ _ c.deref.result.now _ (c.in-Some.ensures.some ∙ ap Some (sym c.deref.ensures)) c.put.ensures (sym c.deref.ensures) c.fetch-status.ensures;
})
