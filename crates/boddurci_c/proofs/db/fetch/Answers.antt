use Rattle.std.proofs.Common.{◌∙◌, Some, ap, sym, inl, inr, refl}
use Rattle.sdbm_addr.specs.Pairs.{Content}
use Rattle.boddurci_c.proofs.CallLemmas.{no_page, not_there, there}
use Rattle.boddurci_c.proofs.db.fetch.Goals as goal

pub returns-in_default : goal.returns-in_default
returns-in_default c = inr (sym (no_page c.args.db.now.image c.place-place.ensures.database c.args.key.now c.place-place.result.page c.place-place.ensures.page c.in_default.ensures.pairs), (refl, (refl, refl)))

pub returns-in_default-find : goal.returns-in_default-find
returns-in_default-find c =
    inr (
      sym (not_there c.args.db.now.image c.place-place.ensures.database c.args.key.now c.place-place.result.page c.place-place.ensures.page c.page-page.result.now.pairs
          (ap (λ (p : Content). Some p.pairs) c.page-page.ensures ∙ c.in-Some.ensures.pairs) c.in_default-find.ensures.absent),
      (refl, (refl, refl)),
    )

pub returns : goal.returns
returns c =
    inl (
      c.record.result.now,
      (
        sym (ap Some c.record.ensures ∙ there c.args.db.now.image c.place-place.ensures.database c.args.key.now c.place-place.result.page c.place-place.ensures.page c.page-page.result.now.pairs c.in-Some-find.i
            (ap (λ (p : Content). Some p.pairs) c.page-page.ensures ∙ c.in-Some.ensures.pairs) c.in-Some-find.ensures.found),
        c.copy_out.ensures,
      ),
    )
