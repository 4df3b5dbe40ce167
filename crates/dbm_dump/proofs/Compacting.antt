-- Storing the pairs of a database in an empty one.
use Rattle.std.proofs.Common.{◌≡◌, ℕ, ◌+◌, ◌<◌, List, [], ◌∷◌, ◌++◌, length, take, drop, get_or, append_assoc, Bor, map as map_list, refl, sym, ap, subst, ◌∙◌}
use Rattle.std.proofs.lemmas.List.{map_more, map-append, take-append-drop}
use Rattle.sdbm_addr.specs.declared.KeyBytes.{KeyBytes}
use Rattle.sdbm_addr.specs.declared.Mode.TheVariants.{Insert}
use Rattle.sdbm_addr.specs.declared.PageSize.{PageSize}
use Rattle.sdbm_addr.specs.Database.{Database, empty_database}
use Rattle.sdbm_addr.specs.Pairs.{Pair}
use Rattle.sdbm_files.specs.Lent.{pair_lent, pairs_lent}
use Rattle.dbm_dump.specs.Compact.{IsUnfit, UnfitAmong}
use Rattle.dbm_dump.specs.Loading.{StoresAll, StoresOne}
use Rattle.dbm_dump.proofs.MorePairs.{StoresAll-append}

-- the default past the end of a list of borrowed pairs
abbrev pub nothing_lent : Bor (List ℕ) × Bor (List ℕ)
nothing_lent = (record { ref_ptr = (0, 0); now = [] }, record { ref_ptr = (0, 0); now = [] })

-- one more pair is stored
pub anew_more : (db : Database) (lent : List (Bor (List ℕ) × Bor (List ℕ))) (i : ℕ) (d : Bor (List ℕ) × Bor (List ℕ)) (mid after : Database) → i < length lent
    → StoresAll Insert db (pairs_lent (take i lent)) mid → StoresOne Insert mid (pair_lent (get_or lent i d)) after → StoresAll Insert db (pairs_lent (take (i + 1) lent)) after
anew_more db lent i d mid after h all one =
    subst (λ (es : List Pair). StoresAll Insert db es after) (sym (map_more pair_lent lent i d h))
    (StoresAll-append Insert db mid after (pairs_lent (take i lent)) (pair_lent (get_or lent i d) ∷ []) all (after, (one, refl)))

-- the pairs up to one, that one, and the rest
parted : (lent : List (Bor (List ℕ) × Bor (List ℕ))) (i : ℕ) (d : Bor (List ℕ) × Bor (List ℕ)) → i < length lent
    → pairs_lent lent ≡ pairs_lent (take i lent) ++ pair_lent (get_or lent i d) ∷ pairs_lent (drop (i + 1) lent)
parted lent i d h =
    sym (ap pairs_lent (take-append-drop (i + 1) lent)) ∙ map-append pair_lent (take (i + 1) lent) (drop (i + 1) lent)
    ∙ ap (λ (es : List Pair). es ++ pairs_lent (drop (i + 1) lent)) (map_more pair_lent lent i d h)
    ∙ append_assoc (pairs_lent (take i lent)) (pair_lent (get_or lent i d) ∷ []) (pairs_lent (drop (i + 1) lent))

-- the next pair does not fit
pub unfit_next : (kind : KeyBytes) (size : PageSize) (lent : List (Bor (List ℕ) × Bor (List ℕ))) (i : ℕ) (d : Bor (List ℕ) × Bor (List ℕ)) (mid : Database) → i < length lent
    → StoresAll Insert (empty_database kind size) (pairs_lent (take i lent)) mid → IsUnfit mid (pair_lent (get_or lent i d)) → UnfitAmong kind size (pairs_lent lent)
unfit_next kind size lent i d mid h all unfit = record {
  done = pairs_lent (take i lent);
  pair = pair_lent (get_or lent i d);
  rest = pairs_lent (drop (i + 1) lent);
  split = parted lent i d h;
  mid = mid;
  stores = all;
  unfit = unfit;
}
