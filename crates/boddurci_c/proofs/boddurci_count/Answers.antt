use Rattle.std.proofs.Common.{◌≡◌, ◌∙◌, Some, ap, sym, inl, inr, refl}
use Rattle.std.specs.FinMap as map
use Rattle.sdbm_addr.specs.Database.{map_of}
use Rattle.boddurci_c.specs.Calls.{Never}
use Rattle.boddurci_c.proofs.CallLemmas.{shows, closed_denies}
use Rattle.boddurci_c.proofs.boddurci_count.Goals as goal

pub returns-in_default : goal.returns-in_default
returns-in_default c = inr (closed_denies Never _ _ _ c.in_default.ensures.none c.take.ensures.closed c.code.ensures, refl)

pub returns : goal.returns
returns c = inl (record {
  code_is = c.code-2.ensures;
  is = shows (λ d. c.count.result ≡ map.len (map_of d.image)) _ _ c.deref.result.now _ (c.in-Some.ensures.some ∙ ap Some (sym c.deref.ensures)) c.put.ensures (sym c.deref.ensures) c.count.ensures;
})
