-- The effect on the database of storing a pair in place.
use Rattle.std.proofs.Common.{◌≡◌, ◌≢◌, ℕ, List, [], Some, unwrap_or, refl, sym, ap, ◌∙◌, subst}
use Rattle.std.specs.Option.{option_map}
use Rattle.std.specs.FinMap as map
use Rattle.sdbm_addr.specs.declared.KeyBytes.{KeyBytes}
use Rattle.sdbm_addr.specs.declared.Mode.{Mode}
use Rattle.sdbm_addr.specs.declared.PageSize.{PageSize}
use Rattle.sdbm_addr.specs.Directory.{Splits}
use Rattle.sdbm_addr.specs.Database.{IsDatabase, pairs_at, put_page}
use Rattle.sdbm_addr.specs.Pairs.{Content, stored}
use Rattle.sdbm_split.specs.InPlace.{MayStore, with_stored}
use Rattle.sdbm_split.proofs.Without.{content_is}
use Rattle.sdbm_files.specs.Kept.{database_of, pages_of, pairs_under, AreSized}
use Rattle.sdbm_files.specs.Installed.{installed, content_at}
use Rattle.sdbm_files.specs.StoredUnder.{IsStoredUnder}
use Rattle.sdbm_files.proofs.KeptLemmas.{get-database_of}
use Rattle.sdbm_files.proofs.InstallLemmas.{database_is, pairs_found}

module _ (mode : Mode) (kind : KeyBytes) (size : PageSize) (d : Splits) (entries new : List (ℕ × Content)) (number : ℕ) (key value : List ℕ) (sized : AreSized size entries) (s : IsStoredUnder mode entries number key value new) where
  the_page : s.page ≡ content_at (database_of kind size d entries) number
  the_page = content_is s.page size (pairs_under entries number) (sized number s.page s.under) (sym (pairs_found entries number s.page s.under))

  pub stored_may : MayStore mode (content_at (database_of kind size d entries) number) key value
  stored_may = subst (λ (p : Content). MayStore mode p key value) the_page s.may

  pub stored_is : database_of kind size d new ≡ installed (database_of kind size d entries) number (with_stored (content_at (database_of kind size d entries) number) key value) [] []
  stored_is = database_is kind size d d new _ refl (s.pages ∙ ap (λ (p : Content). put_page (pages_of entries) number (stored p.pairs key value)) the_page)

  -- the page existed, so it had pairs
  pub stored_there : IsDatabase (database_of kind size d entries) → pairs_at (database_of kind size d entries) number ≢ []
  stored_there ok none =
      let got : map.get (database_of kind size d entries).pages number ≡ Some s.page.pairs = get-database_of kind size d entries number ∙ ap (option_map (λ (c : Content). c.pairs)) s.under in
      (ok.pages number s.page.pairs got).0 (ap (λ o. unwrap_or o []) (sym got) ∙ none)
