-- Listing pairs one by one.
use Rattle.std.proofs.Common.{◌≡◌, ℕ, ◌+◌, ◌<◌, nat_eq, List, [], ◌∷◌, ◌++◌, length, take, drop, get_or, ap, sym, ◌∙◌}
use Rattle.std.proofs.lemmas.Grind.{flat_map-append}
use Rattle.std.proofs.lemmas.List.{map_more, map-append, take-append-drop}
use Rattle.std.proofs.lemmas.List.Elements.{filter-append}
use Rattle.std.specs.List.{flat_map, starts_with}
use Rattle.std.specs.Borrow.{Bor}
use Rattle.sdbm_addr.specs.Pairs.{Pair}
use Rattle.sdbm_files.specs.Lent.{pair_lent, pairs_lent}
use Rattle.dbm_script.specs.declared.notations.Notation.{Notation}
use Rattle.dbm_databases.specs.Rows.{chosen, listing_row, rows}
use Rattle.dbm_databases.specs.declared.rows.Listing.{Listing}

rows-append : {A : Type 0} (n : Notation A) (listing : Listing) (prefix : List ℕ) (xs ys : List Pair) → rows n listing prefix (xs ++ ys) ≡ rows n listing prefix xs ++ rows n listing prefix ys
rows-append n listing prefix xs ys =
    ap (flat_map (listing_row n listing)) (filter-append (λ (e : Pair). starts_with nat_eq e.0 prefix) xs ys)
    ∙ flat_map-append (listing_row n listing) (chosen prefix xs) (chosen prefix ys)

-- the default past the end of a list of borrowed pairs
abbrev pub nothing_lent : Bor (List ℕ) × Bor (List ℕ)
nothing_lent = (record { ref_ptr = (0, 0); now = [] }, record { ref_ptr = (0, 0); now = [] })

pub chosen_more : (prefix : List ℕ) (lent : List (Bor (List ℕ) × Bor (List ℕ))) (i : ℕ) (d : Bor (List ℕ) × Bor (List ℕ)) → i < length lent
    → chosen prefix (pairs_lent (take (i + 1) lent)) ≡ chosen prefix (pairs_lent (take i lent)) ++ chosen prefix (pair_lent (get_or lent i d) ∷ [])
chosen_more prefix lent i d h =
    ap (chosen prefix) (map_more pair_lent lent i d h) ∙ filter-append (λ (e : Pair). starts_with nat_eq e.0 prefix) (pairs_lent (take i lent)) (pair_lent (get_or lent i d) ∷ [])

pub rows_more : {A : Type 0} (n : Notation A) (listing : Listing) (prefix : List ℕ) (lent : List (Bor (List ℕ) × Bor (List ℕ))) (i : ℕ) (d : Bor (List ℕ) × Bor (List ℕ)) → i < length lent
    → rows n listing prefix (pairs_lent (take (i + 1) lent)) ≡ rows n listing prefix (pairs_lent (take i lent)) ++ rows n listing prefix (pair_lent (get_or lent i d) ∷ [])
rows_more n listing prefix lent i d h =
    ap (rows n listing prefix) (map_more pair_lent lent i d h) ∙ rows-append n listing prefix (pairs_lent (take i lent)) (pair_lent (get_or lent i d) ∷ [])

-- the rows before a pair, its own row, and the rows after it
pub rows_around : {A : Type 0} (n : Notation A) (listing : Listing) (prefix : List ℕ) (lent : List (Bor (List ℕ) × Bor (List ℕ))) (i : ℕ) (d : Bor (List ℕ) × Bor (List ℕ)) → i < length lent
    → rows n listing prefix (pairs_lent lent)
    ≡ (rows n listing prefix (pairs_lent (take i lent)) ++ rows n listing prefix (pair_lent (get_or lent i d) ∷ [])) ++ rows n listing prefix (pairs_lent (drop (i + 1) lent))
rows_around n listing prefix lent i d h =
    let rest = pairs_lent (drop (i + 1) lent) in
    ap (λ (xs : List (Bor (List ℕ) × Bor (List ℕ))). rows n listing prefix (pairs_lent xs)) (sym (take-append-drop (i + 1) lent))
    ∙ ap (rows n listing prefix) (map-append pair_lent (take (i + 1) lent) (drop (i + 1) lent))
    ∙ rows-append n listing prefix (pairs_lent (take (i + 1) lent)) rest
    ∙ ap (λ (xs : List ℕ). xs ++ rows n listing prefix rest) (rows_more n listing prefix lent i d h)
