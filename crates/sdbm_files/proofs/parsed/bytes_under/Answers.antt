use Rattle.std.proofs.Common.{sym, ap, ◌∙◌}
use Rattle.std.specs.Option.{option_copied}
use Rattle.sdbm_addr.specs.declared.PageSize.{PageSize}
use Rattle.sdbm_addr.specs.Layout.{bytes_of_page}
use Rattle.sdbm_addr.specs.Pairs.{Content}
use Rattle.sdbm_files.proofs.InstallLemmas.{pairs_found, pairs_missing}
use Rattle.sdbm_files.proofs.parsed.bytes_under.Goals as goal

pub returns-in-None : goal.returns-in-None
returns-in-None g c =
    c.zeros.ensures ∙ ap (bytes_of_page c.args.size) (sym (pairs_missing c.args.pages.now.entries c.args.number (sym c.get.ensures.value ∙ ap option_copied c.in-None.is)))

pub returns-in-Some : goal.returns-in-Some
returns-in-Some g c =
    let found = sym c.get.ensures.value ∙ ap option_copied c.in-Some.is in
    c.bytes.ensures ∙ ap (λ (m : Content). bytes_of_page m.size m.pairs) c.page.ensures
    ∙ ap (λ (s : PageSize). bytes_of_page s c.in-Some.page.now.pairs) (c.requires c.args.number c.in-Some.page.now found)
    ∙ ap (bytes_of_page c.args.size) (sym (pairs_found c.args.pages.now.entries c.args.number c.in-Some.page.now found))
