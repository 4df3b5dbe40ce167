use Rattle.std.proofs.Common.{◌≡◌, Some, refl, sym, subst}
use Rattle.std.specs.Option.{IsSome}
use Rattle.sdbm_addr.specs.Pairs.{Content, HasDistinctKeys}
use Rattle.sdbm_files.proofs.InstallLemmas.{HasAt, pairs_found, pages_of-stored, pages_of-kept}
use Rattle.sdbm_files.proofs.pages.store_pair.Goals as goal

pub store_on_page-requires-clause-distinct : goal.store_on_page-requires-clause-distinct
store_on_page-requires-clause-distinct g c = subst HasDistinctKeys (pairs_found c.args.pages.now.entries c.args.number c.in-Some.page.now (sym c.in-Some.ensures.value)) c.requires.distinct

-- the entries after the page is changed
has_page : (g : _) (c : goal.After-pages-in-Some-1 g) → (content : Content) → c.store_on_page.new.page ≡ content → HasAt c.args.pages.now.entries (c.get_mut.follows.lender c.store_on_page.new.page).entries c.args.number (Some content)
has_page g c content is = subst (λ (x : Content). HasAt c.args.pages.now.entries (c.get_mut.follows.lender c.store_on_page.new.page).entries c.args.number (Some x)) is ((c.get_mut.follows.holds c.store_on_page.new.page).3 (subst IsSome c.in-Some.ensures.value refl)).0

pub returns-in-Some-clause-stored : goal.returns-in-Some-clause-stored
returns-in-Some-clause-stored g c = λ t. record {
  page = c.in-Some.page.now;
  under = sym c.in-Some.ensures.value;
  may = c.store_on_page.ensures.may t;
  pages = pages_of-stored c.args.pages.now.entries _ c.args.number c.args.key.now c.args.value.now c.in-Some.page.now (has_page g c _ (c.store_on_page.ensures.stored t));
}

pub returns-in-Some-clause-kept : goal.returns-in-Some-clause-kept
returns-in-Some-clause-kept g c = λ f.
    pages_of-kept c.args.pages.now.entries _ c.args.number c.in-Some.page.now (sym c.in-Some.ensures.value) (has_page g c _ (c.store_on_page.ensures.kept f))
