use Rattle.std.proofs.Common.{◌/◌, ◌∙◌, Some, ap, sym, inl, inr, refl}
use Rattle.sdbm_addr.specs.declared.PageSize.{PageSize}
use Rattle.sdbm_addr.specs.Pairs.{page_bytes}
use Rattle.boddurci_c.specs.Calls.{Never}
use Rattle.boddurci_c.proofs.CallLemmas.{closed_denies}
use Rattle.boddurci_c.proofs.boddurci_limit.Goals as goal

pub returns-in_default : goal.returns-in_default
returns-in_default c = inr (closed_denies Never _ _ _ c.in_default.ensures.none c.take.ensures.closed c.code.ensures)

pub returns : goal.returns
returns c = inl (record {
  code_is = c.code-2.ensures;
  is = record {
    before = c.deref_mut-open.result.now;
    after = _;
    old_is = c.in-Some.ensures.some ∙ ap Some (sym c.deref_mut-open.ensures.value);
    new_is = c.put.ensures;
    is = record { limit = c.pages_in-open.ensures ∙ ap (λ (s : PageSize). c.args.bytes / page_bytes s) c.page_size.ensures; image = refl; registry = refl; marks = refl; base = refl };
  };
})
