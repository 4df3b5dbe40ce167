-- Laws of maps of pairs: their entries, filters by the key, and the neighbors of a key.
use Rattle.std.proofs.Common.{◌≡◌, ℕ, ◌≤◌, ◌&&◌, not, List, [], ◌∷◌, Bool, true, false, cond, Option, Some, None, refl, sym, ap, ◌∙◌, subst, arith, T}
use Rattle.std.proofs.lemmas.Bool.{true≢false, eqb-true, eq-eqb, cond-true, cond-false}
use Rattle.std.proofs.lemmas.List.Sorted.{sum_by-IsPermutation}
use Rattle.std.proofs.lemmas.Map.Lookups.{exact_bytes}
use Rattle.std.specs.declared.cmp.Ordering.TheVariants.{Equal}
use Rattle.std.specs.Cmp.{Equal-is}
use Rattle.std.specs.Cmp.Lexicographic.{nat_list_cmp_total}
use Rattle.std.specs.List.{sum_by, filter}
use Rattle.std.proofs.lemmas.List.Sums.{sum_by-cons}
use Rattle.std.specs.Ordering.{is_lt, is_eq}
use Rattle.std.specs.declared.cmp.Ordering.{Ordering}
use Rattle.std.specs.declared.cmp.Ordering.TheVariants.{Less, Greater}
use Rattle.std.specs.FinMap as map
use Rattle.std.specs.FinMap.{is_sorted}
use Rattle.std.specs.FinMap.Entries.{below_all}
use Rattle.sdbm_addr.specs.declared.KeyBytes.{KeyBytes}
use Rattle.sdbm_addr.specs.Hash.{hash_of, agree}
use Rattle.sdbm_addr.specs.Pairs.{Pair, Map, key_cmp, same_key, value_of, footprint, HasDistinctKeys}
use Rattle.sdbm_addr.specs.Splitting.{is_neighbor, neighbors, map_neighbors}
use Rattle.sdbm_addr.proofs.DirectoryLemmas.{fewer_bits}
use Rattle.sdbm_addr.proofs.PairLemmas.{equal_keys}
use Rattle.sdbm_addr.proofs.SortedPairs.{entries-IsPermutation}

-- ---- filters

pub absent_filtered : (p : Pair → Bool) (es : List Pair) (q : List ℕ) → value_of es q ≡ None → value_of (filter p es) q ≡ None
absent_filtered p [] q h = refl
absent_filtered p (e ∷ es) q h = at (p e) (same_key q e.0) refl h (absent_filtered p es q)
  where
    at : (b s : Bool) → same_key q e.0 ≡ s → cond s (Some e.1) (value_of es q) ≡ None → (value_of es q ≡ None → value_of (filter p es) q ≡ None)
        → value_of (cond b (e ∷ filter p es) (filter p es)) q ≡ None
    at b true k g r = absurd (let no : Some e.1 ≡ None = g in cc)
    at true false k g r = cond-false _ _ _ k ∙ r g
    at false false k g r = r g

pub distinct_filtered : (p : Pair → Bool) (es : List Pair) → HasDistinctKeys es → HasDistinctKeys (filter p es)
distinct_filtered p [] d = d
distinct_filtered p (e ∷ es) d = at (p e) (absent_filtered p es e.0 d.0) (distinct_filtered p es d.1)
  where
    at : (b : Bool) → value_of (filter p es) e.0 ≡ None → HasDistinctKeys (filter p es) → HasDistinctKeys (cond b (e ∷ filter p es) (filter p es))
    at true a rest = (a, rest)
    at false a rest = rest

-- a filter by the key
pub look_up_filtered : (p : List ℕ → Bool) (es : List Pair) (q : List ℕ) → value_of (filter (λ e. p e.0) es) q ≡ cond (p q) (value_of es q) None
look_up_filtered p [] q = at (p q)
  where
    at : (b : Bool) → ◌≡◌ {A = Option (List ℕ)} None (cond b None None)
    at true = refl
    at false = refl
look_up_filtered p (e ∷ es) q = at (p e.0) (p q) (same_key q e.0) refl (λ s. ap p (sym (equal_keys q e.0 s))) (look_up_filtered p es q)
  where
    at : (b c s : Bool) → same_key q e.0 ≡ s → (s ≡ true → b ≡ c) → value_of (filter (λ e. p e.0) es) q ≡ cond c (value_of es q) None
        → value_of (cond b (e ∷ filter (λ e. p e.0) es) (filter (λ e. p e.0) es)) q ≡ cond c (cond s (Some e.1) (value_of es q)) None
    at true true true k h r = cond-true _ _ _ k
    at true false true k h r = absurd (true≢false (h refl))
    at false true true k h r = absurd (true≢false (sym (h refl)))
    at false false true k h r = r
    at true true false k h r = cond-false _ _ _ k ∙ r
    at true false false k h r = cond-false _ _ _ k ∙ r
    at false true false k h r = r
    at false false false k h r = r

-- ---- entries

-- a map equals the map built from its entries
pub from_entries-entries : (m : Map) → m ≡ map.from_entries (map.entries m)
from_entries-entries m = map.same_map nat_list_cmp_total exact_bytes _ _ (λ q. map.get-entries m q ∙ sym (map.get-from_entries nat_list_cmp_total (map.entries m) q))

pub and_true : (a b : Bool) → T (a && b) → (a ≡ true) × T b
and_true true b h = (refl, h)
and_true false b h = absurd h

-- a key below all keys of the list is not in the list
pub absent_below : {K X : Type 0} (R : K → K → Ordering) (x : K) (es : List (K × X)) → T (below_all R x es) → map.find R x es ≡ None
absent_below R x [] h = refl
absent_below R x (e ∷ es) h = at (R x e.0) refl (and_true (is_lt (R x e.0)) (below_all R x es) h) (absent_below R x es)
  where
    at : (r : Ordering) → R x e.0 ≡ r → (is_lt (R x e.0) ≡ true) × T (below_all R x es) → (T (below_all R x es) → map.find R x es ≡ None) → map.find R x (e ∷ es) ≡ None
    at Less t p rest = cond-false _ _ _ (ap is_eq t) ∙ rest p.1
    at Equal t p rest = absurd (true≢false (sym p.0 ∙ ap is_lt t))
    at Greater t p rest = absurd (true≢false (sym p.0 ∙ ap is_lt t))

distinct_sorted : (es : List Pair) → T (is_sorted key_cmp es) → HasDistinctKeys es
distinct_sorted [] h = tt
distinct_sorted (e ∷ es) h =
    let parts = and_true (below_all key_cmp e.0 es) (is_sorted key_cmp es) h in
    (absent_below key_cmp e.0 es (subst T (sym parts.0) tt), distinct_sorted es parts.1)

pub HasDistinctKeys-entries : (m : Map) → HasDistinctKeys (map.entries m)
HasDistinctKeys-entries m = distinct_sorted (map.entries m) (map.entries_sorted m)

-- ---- neighbors

-- the neighbors in the map built from pairs are the neighbors among the pairs
pub map_neighbors-from_entries : (kind : KeyBytes) (pairs : List Pair) (key : List ℕ) (n : ℕ) → HasDistinctKeys pairs
    → map_neighbors kind (map.from_entries pairs) key n ≡ neighbors kind pairs key n
map_neighbors-from_entries kind pairs key n d =
    ap (λ (k : Map). sum_by footprint (map.entries k)) same_maps ∙ sum_by-IsPermutation footprint _ _ (entries-IsPermutation (filter (λ e. near e.0) pairs) (distinct_filtered (λ e. near e.0) pairs d))
  where
    near : List ℕ → Bool
    near = is_neighbor kind key n

    same_maps : map.retain_keys (map.from_entries {R = key_cmp} pairs) near ≡ map.from_entries (filter (λ e. near e.0) pairs)
    same_maps = map.same_map nat_list_cmp_total exact_bytes _ _ (λ q.
        map.get-retain_keys (map.from_entries pairs) near q (λ x t. ap near (sym (equal_keys q x ((Equal-is (key_cmp q x)).1 t))))
        ∙ ap (λ o. cond (near q) o None) (map.get-from_entries nat_list_cmp_total pairs q)
        ∙ sym (look_up_filtered near pairs q)
        ∙ sym (map.get-from_entries nat_list_cmp_total (filter (λ e. near e.0) pairs) q))

map_neighbors-entries : (kind : KeyBytes) (m : Map) (key : List ℕ) (n : ℕ) → map_neighbors kind m key n ≡ neighbors kind (map.entries m) key n
map_neighbors-entries kind m key n =
    ap (λ (k : Map). map_neighbors kind k key n) (from_entries-entries m) ∙ map_neighbors-from_entries kind (map.entries m) key n (HasDistinctKeys-entries m)

agree_fewer : (low high a b : ℕ) → low ≤ high → agree high a b ≡ true → agree low a b ≡ true
agree_fewer low high a b h t = eq-eqb _ _ (fewer_bits low high a b h (eqb-true _ _ t))

-- a longer common prefix has fewer neighbors
neighbors_fewer : (kind : KeyBytes) (es : List Pair) (key : List ℕ) (low high : ℕ) → low ≤ high → neighbors kind es key high ≤ neighbors kind es key low
neighbors_fewer kind [] key low high h = omega arith
neighbors_fewer kind (e ∷ es) key low high h =
    at (same_key key e.0) (agree high (hash_of kind key) (hash_of kind e.0)) (agree low (hash_of kind key) (hash_of kind e.0)) (agree_fewer low high _ _ h) (neighbors_fewer kind es key low high h)
  where
    few : List Pair
    few = filter (λ x. is_neighbor kind key high x.0) es

    many : List Pair
    many = filter (λ x. is_neighbor kind key low x.0) es

    at : (s p q : Bool) → (p ≡ true → q ≡ true) → sum_by footprint few ≤ sum_by footprint many
        → sum_by footprint (cond (not s && p) (e ∷ few) few) ≤ sum_by footprint (cond (not s && q) (e ∷ many) many)
    at true p q i r = r
    at false true true i r = rw (sum_by-cons footprint e few, sum_by-cons footprint e many) (omega arith)
    at false true false i r = absurd (true≢false (sym (i refl)))
    at false false true i r = rw (sum_by-cons footprint e many) (omega arith)
    at false false false i r = r

pub map_neighbors-fewer : (kind : KeyBytes) (m : Map) (key : List ℕ) (low high : ℕ) → low ≤ high → map_neighbors kind m key high ≤ map_neighbors kind m key low
map_neighbors-fewer kind m key low high h = rw (map_neighbors-entries kind m key low, map_neighbors-entries kind m key high) (neighbors_fewer kind (map.entries m) key low high h)
