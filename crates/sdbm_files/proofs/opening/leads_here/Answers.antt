use Rattle.std.proofs.Common.{◌≡◌, refl, sym, ap, ◌∙◌, subst}
use Rattle.std.specs.Option.{option_copied}
use Rattle.sdbm_addr.specs.Pairs.{Content}
use Rattle.sdbm_files.specs.Kept.{pairs_under}
use Rattle.sdbm_files.specs.Opened.{LeadTo}
use Rattle.sdbm_files.proofs.InstallLemmas.{pairs_found, pairs_missing}
use Rattle.sdbm_files.proofs.LeadLemmas.{lead_none}
use Rattle.sdbm_files.proofs.opening.leads_here.Goals as goal

pub returns-in-None : goal.returns-in-None
returns-in-None g c =
    let d = c.args.dir.now.splits in
    let missing = pairs_missing c.args.pages.now.entries c.args.number (sym c.get.ensures.value ∙ ap option_copied c.in-None.is) in
    (λ t. subst (LeadTo c.args.kind d c.args.number) (sym missing) (lead_none c.args.kind d c.args.number), λ all. refl)

pub returns-in-Some : goal.returns-in-Some
returns-in-Some g c =
    let d = c.args.dir.now.splits in
    let found = sym c.get.ensures.value ∙ ap option_copied c.in-Some.is in
    let same : c.page.result.now.pairs ≡ pairs_under c.args.pages.now.entries c.args.number =
    ap (λ (m : Content). m.pairs) c.page.ensures ∙ sym (pairs_found c.args.pages.now.entries c.args.number c.in-Some.page.now found) in
    (λ t. subst (LeadTo c.args.kind d c.args.number) same (c.keys_lead.ensures.0 t), λ all. c.keys_lead.ensures.1 (subst (LeadTo c.args.kind d c.args.number) (sym same) all))
