-- Pairs with distinct keys, once sorted, are the entries of their map.
use Rattle.std.proofs.Common.{◌≡◌, ℕ, zero, suc, ◌+◌, ◌<◌, List, [], ◌∷◌, length, get_or, remove, Bool, true, false, cond, not, ◌&&◌, Some, None, refl, sym, ap, ◌∙◌, arith, T, add-one}
use Rattle.std.specs.declared.cmp.Ordering.TheVariants.{Less, Equal, Greater}
use Rattle.std.proofs.lemmas.Bool.{true≢false, false≢true}
use Rattle.std.proofs.lemmas.List.Sorted.{IsPermutation-refl, IsPermutation-cons, IsPermutation-trans, IsPermutation-sym, IsPermutation-middle, IsPermutation-map, Contains-permutation, sorted_far, ranks_by}
use Rattle.std.specs.Cmp.{eq_by_cmp_equiv}
use Rattle.std.specs.Cmp.Lexicographic.{nat_list_cmp_total}
use Rattle.std.specs.FinMap as map
use Rattle.std.specs.FinMap.{put, is_sorted}
use Rattle.std.specs.FinMap.Entries.{below_all, by_order, same_entries, find-where_key}
use Rattle.std.proofs.lemmas.Map.Lookups.{exact_bytes}
use Rattle.std.proofs.lemmas.Map.Keys.{IsDistinct-IsPermutation}
use Rattle.std.proofs.lemmas.Map.Views.{lookup-from_Contains, Contains-from_lookup}
use Rattle.std.specs.Prelude.{map as map_list}
use Rattle.std.specs.List.{IsDistinct, AllByRecursion}
use Rattle.std.specs.Map.{lookup}
use Rattle.std.specs.List.Sorted.{IsPermutation, IsSortedBy}
use Rattle.std.specs.Ordering.{is_lt, is_eq, ordering_reverse}
use Rattle.sdbm_addr.specs.Pairs.{Pair, key_cmp, same_key, value_of, key_at, without, HasDistinctKeys}
use Rattle.sdbm_addr.proofs.PairLemmas.{absent_parts, equal_keys, same_key-refl, same_key-sym}

swap_two : (a b : Pair) (es : List Pair) → IsPermutation (a ∷ b ∷ es) (b ∷ a ∷ es)
swap_two a b es = IsPermutation-middle (a ∷ []) b es

-- putting a pair with a new key only adds it
put-IsPermutation : (k v : List ℕ) (es : List Pair) → value_of es k ≡ None → IsPermutation ((k, v) ∷ es) (put key_cmp k v es)
put-IsPermutation k v [] h = IsPermutation-refl _
put-IsPermutation k v (e ∷ es) h =
    let parts = absent_parts e es k h in
    elim (key_cmp k e.0) as (λ r. key_cmp k e.0 ≡ r → IsPermutation ((k, v) ∷ e ∷ es) (by_order r ((k, v) ∷ e ∷ es) ((e.0, v) ∷ es) (e ∷ put key_cmp k v es))) [
      | Less ↦ λ t. IsPermutation-refl _
      | Equal ↦ λ t. absurd (true≢false (sym (ap is_eq t) ∙ parts.0))
      | Greater ↦ λ t. IsPermutation-trans _ _ _ (swap_two (k, v) e es) (IsPermutation-cons e _ _ (put-IsPermutation k v es parts.1))
    ] refl

no_pairs : (es : List Pair) → length es ≡ 0 → es ≡ []
no_pairs [] e = refl
no_pairs (x ∷ es) e = absurd (omega arith)

pub entries-empty : map.entries (map.empty {K = List ℕ} {X = List ℕ} {R = key_cmp}) ≡ []
entries-empty = no_pairs _ (sym (map.len-entries _) ∙ map.len-empty key_cmp (List ℕ))

pub value_of-entries : (pairs : List Pair) (q : List ℕ) → value_of (map.entries (map.from_entries {R = key_cmp} pairs)) q ≡ value_of pairs q
value_of-entries pairs q = sym (map.get-entries (map.from_entries pairs) q) ∙ map.get-from_entries nat_list_cmp_total pairs q

-- the entries of the map of pairs are the pairs, in another order
pub entries-IsPermutation : (pairs : List Pair) → HasDistinctKeys pairs → IsPermutation pairs (map.entries (map.from_entries {R = key_cmp} pairs))
entries-IsPermutation [] d = rw entries-empty (IsPermutation-refl _)
entries-IsPermutation (e ∷ es) d =
    let m = map.from_entries {R = key_cmp} es in
    rw (map.entries-insert nat_list_cmp_total m e.0 e.1)
    (IsPermutation-trans _ _ _ (IsPermutation-cons e _ _ (entries-IsPermutation es d.1)) (put-IsPermutation e.0 e.1 (map.entries m) (value_of-entries es e.0 ∙ d.0)))

-- `HasDistinctKeys` agrees with the standard library's predicate
apart_from_absent : (es : List Pair) (k : List ℕ) → value_of es k ≡ None → AllByRecursion (λ y. same_key k y ≡ false) (map_list (λ e. e.0) es)
apart_from_absent [] k h = tt
apart_from_absent (e ∷ es) k h = let parts = absent_parts e es k h in (parts.0, apart_from_absent es k parts.1)

absent_from_apart : (es : List Pair) (k : List ℕ) → AllByRecursion (λ y. same_key k y ≡ false) (map_list (λ e. e.0) es) → value_of es k ≡ None
absent_from_apart [] k h = refl
absent_from_apart (e ∷ es) k h = ap (λ b. cond b (Some e.1) (value_of es k)) h.0 ∙ absent_from_apart es k h.1

pub IsDistinct-from_keys : (es : List Pair) → HasDistinctKeys es → IsDistinct same_key (map_list (λ e. e.0) es)
unfolding IsDistinct
IsDistinct-from_keys [] d = tt
IsDistinct-from_keys (e ∷ es) d = (apart_from_absent es e.0 d.0, IsDistinct-from_keys es d.1)

pub HasDistinctKeys-from : (es : List Pair) → IsDistinct same_key (map_list (λ e. e.0) es) → HasDistinctKeys es
unfolding IsDistinct
HasDistinctKeys-from [] d = tt
HasDistinctKeys-from (e ∷ es) d = (absent_from_apart es e.0 d.0, HasDistinctKeys-from es d.1)

pub HasDistinctKeys-IsPermutation : (es fs : List Pair) → IsPermutation es fs → HasDistinctKeys es → HasDistinctKeys fs
HasDistinctKeys-IsPermutation es fs p d =
    HasDistinctKeys-from fs (IsDistinct-IsPermutation same_key (eq_by_cmp_equiv nat_list_cmp_total).symm _ _ (IsPermutation-map (λ e. e.0) es fs p) (IsDistinct-from_keys es d))

value_of-lookup : (es : List Pair) (q : List ℕ) → lookup (same_key q) es ≡ value_of es q
value_of-lookup [] q = refl
value_of-lookup (e ∷ es) q = ap (cond (same_key q e.0) (Some e.1)) (value_of-lookup es q)

some_stays : (es fs : List Pair) (q v : List ℕ) → IsPermutation es fs → HasDistinctKeys fs → value_of es q ≡ Some v → value_of fs q ≡ Some v
some_stays es fs q v p d h =
    sym (value_of-lookup fs q)
    ∙ lookup-from_Contains (eq_by_cmp_equiv nat_list_cmp_total) q v fs (IsDistinct-from_keys fs d)
    (Contains-permutation es fs (q, v) p (Contains-from_lookup equal_keys q v es (value_of-lookup es q ∙ h)))

-- look-ups don't depend on the order of pairs with distinct keys
pub value_of-IsPermutation : (es fs : List Pair) (q : List ℕ) → IsPermutation es fs → HasDistinctKeys es → value_of es q ≡ value_of fs q
value_of-IsPermutation es fs q p d =
    let d' = HasDistinctKeys-IsPermutation es fs p d in
    elim (value_of es q) as (λ o. value_of es q ≡ o → o ≡ value_of fs q) [
      | Some v ↦ λ h. sym (some_stays es fs q v p d' h)
      | None ↦ λ h. elim (value_of fs q) as (λ o. value_of fs q ≡ o → None ≡ o) [
        | None ↦ λ k. refl
        | Some v ↦ λ k. sym h ∙ some_stays fs es q v (IsPermutation-sym _ _ p) d k
      ] refl
    ] refl

and_both : (a b : Bool) → T a → T b → T (a && b)
and_both true b h t = t
and_both false b h t = absurd h

both : (a b : Bool) → a ≡ true → T b → T (a && b)
both true b h t = t
both false b h t = absurd (false≢true h)

below_all-from : (x : List ℕ) (es : List Pair) → ((j : ℕ) → j < length es → is_lt (key_cmp x (get_or es j ([], [])).0) ≡ true) → T (below_all key_cmp x es)
below_all-from x [] h = tt
below_all-from x (e ∷ es) h = both _ _ (h 0 (omega arith)) (below_all-from x es (λ j lt. h (suc j) (omega arith)))

pub apart_at : (es : List Pair) (k : List ℕ) (j : ℕ) → value_of es k ≡ None → j < length es → same_key k (get_or es j ([], [])).0 ≡ false
apart_at [] k j h lt = absurd (omega arith)
apart_at (e ∷ es) k zero h lt = (absent_parts e es k h).0
apart_at (e ∷ es) k (suc j) h lt = apart_at es k j (absent_parts e es k h).1 (omega arith)

strictly : (x y : List ℕ) → is_lt (key_cmp y x) ≡ false → same_key x y ≡ false → is_lt (key_cmp x y) ≡ true
strictly x y above apart =
    elim (key_cmp x y) as (λ r. key_cmp x y ≡ r → is_lt r ≡ true) [
      | Less ↦ λ t. refl
      | Equal ↦ λ t. absurd (true≢false (sym (ap is_eq t) ∙ apart))
      | Greater ↦ λ t. absurd (true≢false (sym (ap is_lt (nat_list_cmp_total.antisymm y x ∙ ap ordering_reverse t)) ∙ above))
    ] refl

sorted-tail : (lt : Pair → Pair → Bool) (e : Pair) (es : List Pair) → IsSortedBy lt (e ∷ es) → IsSortedBy lt es
sorted-tail lt e es h = λ k d low high. let i : k + 1 ≡ suc k = omega arith in rw i (let g = h (suc k) d (omega arith) (omega arith) in rw (add-one (suc k)) at g)

-- sorted pairs with distinct keys rise strictly
pub is_sorted-from : (es : List Pair) → IsSortedBy (λ x y. is_lt (key_cmp x.0 y.0)) es → HasDistinctKeys es → T (is_sorted key_cmp es)
is_sorted-from [] h d = tt
is_sorted-from (e ∷ es) h d =
    let far = sorted_far (λ (x y : Pair). is_lt (key_cmp x.0 y.0)) (ranks_by nat_list_cmp_total (λ p. p.0)) (e ∷ es) h in
    let low : T (below_all key_cmp e.0 es) = below_all-from e.0 es (λ j lt. strictly e.0 (get_or es j ([], [])).0 (far 0 (suc j) ([], []) (omega arith) (omega arith)) (apart_at es e.0 j d.0 lt)) in
    and_both _ _ low (is_sorted-from es (sorted-tail (λ (x y : Pair). is_lt (key_cmp x.0 y.0)) e es h) d.1)

-- the result of sorting pairs with distinct keys by their keys
pub sorted_entries : (pairs sorted : List Pair) → HasDistinctKeys pairs → IsPermutation pairs sorted → IsSortedBy (λ x y. is_lt (key_cmp x.0 y.0)) sorted
    → sorted ≡ map.entries (map.from_entries {R = key_cmp} pairs)
sorted_entries pairs sorted d p up =
    same_entries key_cmp nat_list_cmp_total exact_bytes sorted _ (is_sorted-from sorted up (HasDistinctKeys-IsPermutation pairs sorted p d)) (map.entries_sorted _)
    (λ q. sym (value_of-IsPermutation pairs sorted q p d) ∙ sym (value_of-entries pairs q))

-- removing a key that is absent changes nothing
pub without-absent : (es : List Pair) (key : List ℕ) → value_of es key ≡ None → without key es ≡ es
without-absent [] key h = refl
without-absent (e ∷ es) key h =
    let parts = absent_parts e es key h in
    ap (λ b. cond (not b) (e ∷ without key es) (without key es)) parts.0 ∙ ap (λ xs. e ∷ xs) (without-absent es key parts.1)

-- removing the pair of a key leaves the pairs with other keys
pub remove-without : (es : List Pair) (key : List ℕ) (i : ℕ) → i < length es → key_at es i ≡ key → HasDistinctKeys es → remove es i ≡ without key es
remove-without [] key i h k d = absurd (omega arith)
remove-without (e ∷ es) key zero h k d =
    let same : same_key key e.0 ≡ true = ap (same_key key) k ∙ same_key-refl key in
    let absent : value_of es key ≡ None = ap (value_of es) (sym k) ∙ d.0 in
    sym (ap (λ b. cond (not b) (e ∷ without key es) (without key es)) same ∙ without-absent es key absent)
remove-without (e ∷ es) key (suc i) h k d =
    let apart : same_key key e.0 ≡ false = same_key-sym key e.0 ∙ ap (same_key e.0) (sym k) ∙ apart_at es e.0 i d.0 (omega arith) in
    ap (λ xs. e ∷ xs) (remove-without es key i (omega arith) k d.1)
    ∙ sym (ap (λ b. cond (not b) (e ∷ without key es) (without key es)) apart)

alike_others : (key x : List ℕ) → key_cmp key x ≡ Equal → not (same_key key x) ≡ not (same_key key key)
alike_others key x t = ap (λ b. not b) (ap is_eq t ∙ sym (same_key-refl key))

pub value_of-without : (es : List Pair) (key : List ℕ) → value_of (without key es) key ≡ None
value_of-without es key =
    find-where_key key_cmp (λ x. not (same_key key x)) key (alike_others key) es ∙ ap (λ b. cond (not b) (value_of es key) None) (same_key-refl key)
