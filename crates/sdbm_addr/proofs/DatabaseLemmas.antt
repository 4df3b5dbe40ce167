-- Laws of databases: a look-up in the map of all pages is a look-up on the key's own page.
use Rattle.std.proofs.Common.{◌≡◌, ◌≢◌, ℕ, List, [], ◌∷◌, ◌++◌, length, Bool, true, false, cond, Option, Some, None, unwrap_or, refl, sym, ap, ◌∙◌, subst, T}
use Rattle.std.proofs.lemmas.Bool.{cond-true, cond-false, true≢false}
use Rattle.std.proofs.lemmas.List.Sorted.{length_permutation}
use Rattle.std.proofs.lemmas.Map.Lookups.{exact_bytes}
use Rattle.std.specs.Cmp.{nat_cmp_total, Equal-is, eq_by_cmp_equiv}
use Rattle.std.specs.Cmp.Lexicographic.{nat_list_cmp_total}
use Rattle.std.specs.List.{flat_map}
use Rattle.std.specs.Ordering.{nat_cmp, eq_by_cmp}
use Rattle.std.specs.FinMap as map
use Rattle.std.specs.FinMap.{FinMap, is_sorted}
use Rattle.std.specs.FinMap.Entries.{below_all}
use Rattle.sdbm_addr.specs.Hash.{hash_of}
use Rattle.sdbm_addr.specs.Directory.{page_of}
use Rattle.sdbm_addr.specs.Pairs.{Pair, key_cmp, same_key, value_of, HasDistinctKeys}
use Rattle.sdbm_addr.specs.Database.{Database, IsDatabase, pairs_at, pairs_of, map_of, put_page}
use Rattle.sdbm_addr.proofs.MapLemmas.{absent_below, and_true}
use Rattle.sdbm_addr.proofs.SortedPairs.{entries-IsPermutation}

-- ---- replacing pages

-- the result of a look-up after these pairs were put
abbrev pub put_there : List Pair → Option (List Pair)
put_there [] = None
put_there (e ∷ es) = Some (e ∷ es)

pub get-put_page : (pages : FinMap nat_cmp (List Pair)) (n : ℕ) (pairs : List Pair) (q : ℕ) → map.get (put_page pages n pairs) q ≡ cond (eq_by_cmp nat_cmp q n) (put_there pairs) (map.get pages q)
get-put_page pages n [] q = map.get-remove nat_cmp_total pages n q
get-put_page pages n (e ∷ es) q = map.get-insert nat_cmp_total pages n (e ∷ es) q

pub pairs-put_there : (pairs : List Pair) → unwrap_or (put_there pairs) [] ≡ pairs
pairs-put_there [] = refl
pairs-put_there (e ∷ es) = refl

pub same_number : (n k : ℕ) → eq_by_cmp nat_cmp n k ≡ true → n ≡ k
same_number n k t = map.nat_cmp-IsAntisymmetric n k ((Equal-is (nat_cmp n k)).0 t)

-- ---- lists of numbered pages

-- the page numbers are pairwise distinct
abbrev pub HasDistinctNumbers : List (ℕ × List Pair) → Type 0
HasDistinctNumbers [] = Unit {0}
HasDistinctNumbers (e ∷ es) = (map.find nat_cmp e.0 es ≡ None) × HasDistinctNumbers es

distinct_sorted : (es : List (ℕ × List Pair)) → T (is_sorted nat_cmp es) → HasDistinctNumbers es
distinct_sorted [] h = tt
distinct_sorted (e ∷ es) h =
    let parts = and_true (below_all nat_cmp e.0 es) (is_sorted nat_cmp es) h in
    (absent_below nat_cmp e.0 es (subst T (sym parts.0) tt), distinct_sorted es parts.1)

pub HasDistinctNumbers-entries : (pages : FinMap nat_cmp (List Pair)) → HasDistinctNumbers (map.entries pages)
HasDistinctNumbers-entries pages = distinct_sorted (map.entries pages) (map.entries_sorted pages)

-- every key leads to the page that has it
abbrev LeadsIn : (List ℕ → ℕ) → List (ℕ × List Pair) → Type 0
LeadsIn lead es = (n : ℕ) (pairs : List Pair) → map.find nat_cmp n es ≡ Some pairs → (q : List ℕ) → value_of pairs q ≢ None → lead q ≡ n

abbrev AllDistinct : List (ℕ × List Pair) → Type 0
AllDistinct es = (n : ℕ) (pairs : List Pair) → map.find nat_cmp n es ≡ Some pairs → HasDistinctKeys pairs

-- the pairs of the page with a number
abbrev pub pairs_in : List (ℕ × List Pair) → ℕ → List Pair
pairs_in es n = unwrap_or (map.find nat_cmp n es) []

number_is_same : (n : ℕ) → eq_by_cmp nat_cmp n n ≡ true
number_is_same n = (eq_by_cmp_equiv nat_cmp_total).refl n

some_or_none : {A : Type 0} (o : Option A) (x : A) → o ≡ Some x → o ≡ None → ⊥
some_or_none o x some none = let e : Some x ≡ None = sym some ∙ none in cc

-- a page found after the first page is found in the whole list
found_past : (e : ℕ × List Pair) (es : List (ℕ × List Pair)) (n : ℕ) (pairs : List Pair) → map.find nat_cmp e.0 es ≡ None → map.find nat_cmp n es ≡ Some pairs → map.find nat_cmp n (e ∷ es) ≡ Some pairs
found_past e es n pairs none some = at (eq_by_cmp nat_cmp n e.0) refl
  where
    at : (b : Bool) → eq_by_cmp nat_cmp n e.0 ≡ b → map.find nat_cmp n (e ∷ es) ≡ Some pairs
    at true t = absurd (some_or_none (map.find nat_cmp n es) pairs some (ap (λ k. map.find nat_cmp k es) (same_number n e.0 t) ∙ none))
    at false t = cond-false _ _ _ t ∙ some

found_first : (e : ℕ × List Pair) (es : List (ℕ × List Pair)) → map.find nat_cmp e.0 (e ∷ es) ≡ Some e.1
found_first e es = cond-true _ _ _ (number_is_same e.0)

found_in_first : (a b : List Pair) (q v : List ℕ) → value_of a q ≡ Some v → value_of (a ++ b) q ≡ Some v
found_in_first [] b q v h = absurd (let e : None ≡ Some v = h in cc)
found_in_first (e ∷ es) b q v h = at (same_key q e.0) h (found_in_first es b q v)
  where
    at : (s : Bool) → cond s (Some e.1) (value_of es q) ≡ Some v → (value_of es q ≡ Some v → value_of (es ++ b) q ≡ Some v) → cond s (Some e.1) (value_of (es ++ b) q) ≡ Some v
    at true g r = g
    at false g r = r g

pub found_in_second : (a b : List Pair) (q : List ℕ) → value_of a q ≡ None → value_of (a ++ b) q ≡ value_of b q
found_in_second [] b q h = refl
found_in_second (e ∷ es) b q h = at (same_key q e.0) h (found_in_second es b q)
  where
    at : (s : Bool) → cond s (Some e.1) (value_of es q) ≡ None → (value_of es q ≡ None → value_of (es ++ b) q ≡ value_of b q) → cond s (Some e.1) (value_of (es ++ b) q) ≡ value_of b q
    at true g r = absurd (let no : Some e.1 ≡ None = g in cc)
    at false g r = r g

distinct-append : (a b : List Pair) → HasDistinctKeys a → HasDistinctKeys b → ((q : List ℕ) → value_of a q ≢ None → value_of b q ≡ None) → HasDistinctKeys (a ++ b)
distinct-append [] b d f apart = f
distinct-append (e ∷ es) b d f apart =
    (found_in_second es b e.0 d.0 ∙ apart e.0 here, distinct-append es b d.1 f (λ q some. apart q (there q some)))
  where
    here : value_of (e ∷ es) e.0 ≢ None
    here none = some_or_none (value_of (e ∷ es) e.0) e.1 (cond-true _ _ _ ((eq_by_cmp_equiv nat_list_cmp_total).refl e.0)) none

    there : (q : List ℕ) → value_of es q ≢ None → value_of (e ∷ es) q ≢ None
    there q some none = at (same_key q e.0) none
      where
        at : (s : Bool) → cond s (Some e.1) (value_of es q) ≡ None → ⊥
        at true g = let no : Some e.1 ≡ None = g in cc
        at false g = some g

-- a look-up in all pairs is a look-up on the key's page
pub look_up_flat : (lead : List ℕ → ℕ) (es : List (ℕ × List Pair)) → HasDistinctNumbers es → LeadsIn lead es → (q : List ℕ)
    → value_of (flat_map (λ (e : ℕ × List Pair). e.1) es) q ≡ value_of (pairs_in es (lead q)) q
look_up_flat lead [] d p q = refl
look_up_flat lead (e ∷ es) d p q = at (eq_by_cmp nat_cmp (lead q) e.0) refl (value_of e.1 q) refl (look_up_flat lead es d.1 (λ n pairs some. p n pairs (found_past e es n pairs d.0 some)) q)
  where
    all : List Pair
    all = flat_map (λ (e : ℕ × List Pair). e.1) es

    at : (b : Bool) → eq_by_cmp nat_cmp (lead q) e.0 ≡ b → (o : Option (List ℕ)) → value_of e.1 q ≡ o → value_of all q ≡ value_of (pairs_in es (lead q)) q
        → value_of (e.1 ++ all) q ≡ value_of (pairs_in (e ∷ es) (lead q)) q
    at true t (Some v) o r = found_in_first e.1 all q v o ∙ sym (ap (λ m. value_of (unwrap_or m []) q) (cond-true _ _ _ t) ∙ o)
    at true t None o r =
        found_in_second e.1 all q o ∙ r ∙ ap (λ m. value_of (unwrap_or m []) q) (ap (λ k. map.find nat_cmp k es) (same_number (lead q) e.0 t) ∙ d.0)
        ∙ sym (ap (λ m. value_of (unwrap_or m []) q) (cond-true _ _ _ t) ∙ o)
    at false t (Some v) o r =
        let leads : lead q ≡ e.0 = p e.0 e.1 (found_first e es) q (λ none. some_or_none (value_of e.1 q) v o none) in
        absurd (true≢false (sym (number_is_same e.0) ∙ ap (λ k. eq_by_cmp nat_cmp k e.0) (sym leads) ∙ t))
    at false t None o r = found_in_second e.1 all q o ∙ r ∙ sym (ap (λ m. value_of (unwrap_or m []) q) (cond-false _ _ _ t))

pub distinct_flat : (lead : List ℕ → ℕ) (es : List (ℕ × List Pair)) → HasDistinctNumbers es → LeadsIn lead es → AllDistinct es → HasDistinctKeys (flat_map (λ (e : ℕ × List Pair). e.1) es)
distinct_flat lead [] d p k = tt
distinct_flat lead (e ∷ es) d p k =
    distinct-append e.1 _ (k e.0 e.1 (found_first e es)) (distinct_flat lead es d.1 rest (λ n pairs some. k n pairs (found_past e es n pairs d.0 some)))
    (λ q some.
    let leads : lead q ≡ e.0 = p e.0 e.1 (found_first e es) q some in
    look_up_flat lead es d.1 rest q ∙ ap (λ n. value_of (pairs_in es n) q) leads ∙ ap (λ m. value_of (unwrap_or m []) q) d.0)
  where
    rest : LeadsIn lead es
    rest n pairs some = p n pairs (found_past e es n pairs d.0 some)

-- ---- the map of a database

abbrev lead_in : Database → List ℕ → ℕ
lead_in db q = page_of db.splits (hash_of db.kind q)

leads_from : (db : Database) → IsDatabase db → (es : List (ℕ × List Pair)) → ((n : ℕ) → map.get db.pages n ≡ map.find nat_cmp n es) → LeadsIn (lead_in db) es
leads_from db ok es same n pairs found q some =
    ok.placed n q (λ none. some (sym (ap (λ o. value_of (unwrap_or o []) q) (same n ∙ found)) ∙ none))

distinct_from : (db : Database) → IsDatabase db → (es : List (ℕ × List Pair)) → ((n : ℕ) → map.get db.pages n ≡ map.find nat_cmp n es) → AllDistinct es
distinct_from db ok es same n pairs found = (ok.pages n pairs (same n ∙ found)).1.distinct

-- a look-up in the map is a look-up on the key's own page
pub get-map_of : (db : Database) → IsDatabase db → (q : List ℕ) → map.get (map_of db) q ≡ value_of (pairs_at db (lead_in db q)) q
get-map_of db ok q =
    map.get-from_entries nat_list_cmp_total (pairs_of db) q
    ∙ look_up_flat (lead_in db) (map.entries db.pages) (HasDistinctNumbers-entries db.pages) (leads_from db ok (map.entries db.pages) (λ n. map.get-entries db.pages n)) q
    ∙ ap (λ o. value_of (unwrap_or o []) q) (sym (map.get-entries db.pages (lead_in db q)))

-- the pages of a database, in any order
pub distinct_pages : (db : Database) → IsDatabase db → (es : List (ℕ × List Pair)) → HasDistinctNumbers es → ((n : ℕ) → map.get db.pages n ≡ map.find nat_cmp n es)
    → HasDistinctKeys (flat_map (λ (e : ℕ × List Pair). e.1) es)
distinct_pages db ok es d same = distinct_flat (lead_in db) es d (leads_from db ok es same) (distinct_from db ok es same)

pub map_of_pages : (db : Database) → IsDatabase db → (es : List (ℕ × List Pair)) → HasDistinctNumbers es → ((n : ℕ) → map.get db.pages n ≡ map.find nat_cmp n es)
    → map.from_entries (flat_map (λ (e : ℕ × List Pair). e.1) es) ≡ map_of db
map_of_pages db ok es d same = map.same_map nat_list_cmp_total exact_bytes _ _ (λ q.
    map.get-from_entries nat_list_cmp_total (flat_map (λ (e : ℕ × List Pair). e.1) es) q
    ∙ look_up_flat (lead_in db) es d (leads_from db ok es same) q
    ∙ ap (λ o. value_of (unwrap_or o []) q) (sym (same (lead_in db q)))
    ∙ sym (get-map_of db ok q))

-- the number of pairs with distinct keys is the number of entries of their map
pub len-from_entries : (pairs : List Pair) → HasDistinctKeys pairs → map.len (map.from_entries {R = key_cmp} pairs) ≡ length pairs
len-from_entries pairs d = map.len-entries _ ∙ length_permutation _ _ (entries-IsPermutation pairs d)
