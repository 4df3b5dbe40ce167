-- The numbers of the pages that have pairs.
use Rattle.std.proofs.Common.{◌≡◌, ◌≢◌, ℕ, suc, List, [], ◌∷◌, get_or, Bool, true, false, cond, Option, Some, None, unwrap_or, refl, sym, ap, ◌∙◌, arith, eqb}
use Rattle.std.proofs.lemmas.Bool.{eqb-true, eq-eqb}
use Rattle.std.proofs.lemmas.List.Folds.{list_any_at}
use Rattle.std.specs.List.{All, Contains}
use Rattle.std.specs.Map.{lookup, keys_of}
use Rattle.std.specs.Option.{option_map}
use Rattle.std.specs.FinMap as map
use Rattle.sdbm_addr.specs.declared.KeyBytes.{KeyBytes}
use Rattle.sdbm_addr.specs.declared.PageSize.{PageSize}
use Rattle.sdbm_addr.specs.Directory.{Splits}
use Rattle.sdbm_addr.specs.Pairs.{Content}
use Rattle.sdbm_addr.specs.Database.{IsDatabase, pairs_at}
use Rattle.sdbm_files.specs.Kept.{pages_of, database_of}
use Rattle.sdbm_files.proofs.KeptLemmas.{get-pages_of, key_is_found}
use Rattle.sdbm_files.proofs.InstallLemmas.{pairs_missing}

contains_found : (es : List (ℕ × Content)) (n : ℕ) (content : Content) → lookup (eqb n) es ≡ Some content → Contains (keys_of es) n
contains_found [] n content found = absurd (cc)
contains_found (e ∷ es) n content found = at (eqb n e.0) refl (contains_found es n content) found
  where
    at : (b : Bool) → eqb n e.0 ≡ b → (lookup (eqb n) es ≡ Some content → Contains (keys_of es) n) → cond b (Some e.1) (lookup (eqb n) es) ≡ Some content → Contains (keys_of (e ∷ es)) n
    at true t later f = (0, omega arith, sym (eqb-true n e.0 t))
    at false t later f =
        let there = later f in
        let below = there.1 in
        (suc there.0, omega arith, there.2)

module _ (kind : KeyBytes) (size : PageSize) (splits : Splits) (entries : List (ℕ × Content)) where
  -- each page that has pairs is in the list
  pub numbers_cover : (n : ℕ) → pairs_at (database_of kind size splits entries) n ≢ [] → Contains (keys_of entries) n
  numbers_cover n some = at (lookup (eqb n) entries) refl
    where
      at : (o : Option Content) → lookup (eqb n) entries ≡ o → Contains (keys_of entries) n
      at (Some content) found = contains_found entries n content found
      at None missing = absurd (some (pairs_missing entries n missing))

  -- each page in the list has pairs
  pub numbers_only : IsDatabase (database_of kind size splits entries) → All (λ (n : ℕ). pairs_at (database_of kind size splits entries) n ≢ []) (keys_of entries)
  numbers_only ok = λ k d l none.
      let n = get_or (keys_of entries) k d in
      let found = key_is_found entries n (list_any_at (eqb n) (keys_of entries) k d l (eq-eqb n n refl)) in
      let is : map.get (pages_of entries) n ≡ Some found.0.pairs = get-pages_of entries n ∙ ap (option_map (λ (c : Content). c.pairs)) found.1 in
      (ok.pages n found.0.pairs is).0 (sym (ap (λ o. unwrap_or o []) is) ∙ none)
