-- Laws of pairs: look-ups, and the operations that preserve `IsLaid` and distinct keys.
use Rattle.std.proofs.Common.{◌≡◌, ℕ, zero, suc, ◌+◌, ◌*◌, ◌<◌, ◌≤◌, List, [], ◌∷◌, ◌++◌, length, drop, get_or, remove, true, false, cond, Some, None, refl, sym, ap, ◌∙◌, arith}
use Rattle.std.proofs.lemmas.Bool.{cond-true, cond-false}
use Rattle.std.proofs.lemmas.List.{drop_more, get_or_read_under}
use Rattle.std.proofs.lemmas.List.Sums.{sum_by_push, sum_by-remove, sum_by-cons}
use Rattle.std.proofs.lemmas.Map.Text.{is_eq-slice_cmp}
use Rattle.std.proofs.lemmas.Slice.Eq.{bytes_eq-Decides}
use Rattle.std.specs.Cmp.{eq_by_cmp_equiv}
use Rattle.std.specs.Cmp.Lexicographic.{nat_list_cmp_total}
use Rattle.std.specs.FinMap.Entries.{find-append}
use Rattle.std.specs.List.{sum_by}
use Rattle.std.specs.Str.{bytes_eq}
use Rattle.sdbm_addr.specs.Pairs.{Pair, key_cmp, same_key, value_of, key_at, value_at, HasDistinctKeys, footprint, AreSmall, IsLaid, IsPlace, page_bytes, pair_limit}
use Rattle.sdbm_addr.specs.declared.PageSize.{PageSize}

-- `same_key` is `==` on slices
pub same_key-bytes_eq : (j k : List ℕ) → same_key j k ≡ bytes_eq j k
same_key-bytes_eq j k = is_eq-slice_cmp j k

pub same_key-sym : (j k : List ℕ) → same_key j k ≡ same_key k j
same_key-sym j k = (eq_by_cmp_equiv nat_list_cmp_total).symm j k

pub equal_keys : (j k : List ℕ) → same_key j k ≡ true → j ≡ k
equal_keys j k h = (bytes_eq-Decides j k).0 (sym (same_key-bytes_eq j k) ∙ h)

pub same_key-refl : (k : List ℕ) → same_key k k ≡ true
same_key-refl k = (eq_by_cmp_equiv nat_list_cmp_total).refl k

-- a look-up from place i on, in one step
pub value_of-drop_more : (pairs : List Pair) (key : List ℕ) (i : ℕ) → i < length pairs
    → value_of (drop i pairs) key ≡ cond (same_key key (key_at pairs i)) (Some (value_at pairs i)) (value_of (drop (i + 1) pairs) key)
value_of-drop_more pairs key i h = ap (λ es. value_of es key) (drop_more pairs i ([], []) h)

some_not_none : {A : Type 0} (x : A) → Some x ≡ None → ⊥
some_not_none x e = cc

-- if a key is absent, the first pair has another key and the rest do not have the key
pub absent_parts : (e : Pair) (es : List Pair) (key : List ℕ) → value_of (e ∷ es) key ≡ None → (same_key key e.0 ≡ false) × (value_of es key ≡ None)
absent_parts e es key h =
    elim (same_key key e.0) as (λ b. cond b (Some e.1) (value_of es key) ≡ None → (b ≡ false) × (value_of es key ≡ None)) [
      | true ↦ λ g. absurd (some_not_none e.1 g)
      | false ↦ λ g. (refl, g)
    ] h

pub value_of-push : (pairs : List Pair) (key value q : List ℕ) → value_of pairs key ≡ None
    → value_of (pairs ++ (key, value) ∷ []) q ≡ cond (same_key q key) (Some value) (value_of pairs q)
value_of-push pairs key value q h = find-append key_cmp nat_list_cmp_total pairs key value q h

pub distinct-push : (pairs : List Pair) (key value : List ℕ) → HasDistinctKeys pairs → value_of pairs key ≡ None → HasDistinctKeys (pairs ++ (key, value) ∷ [])
distinct-push [] key value d h = (refl, tt)
distinct-push (e ∷ es) key value d h =
    let parts = absent_parts e es key h in
    let other : same_key e.0 key ≡ false = same_key-sym e.0 key ∙ parts.0 in
    (value_of-push es key value e.0 parts.1 ∙ ap (λ b. cond b (Some value) (value_of es e.0)) other ∙ d.0, distinct-push es key value d.1 parts.1)

small-push : (size : PageSize) (pairs : List Pair) (key value : List ℕ) → AreSmall size pairs → length key + length value ≤ pair_limit size → AreSmall size (pairs ++ (key, value) ∷ [])
small-push size [] key value s h = (h, tt)
small-push size (e ∷ es) key value s h = (s.0, small-push size es key value s.1 h)

pub IsLaid-push : (size : PageSize) (pairs : List Pair) (key value : List ℕ) → IsLaid size pairs → length key + length value ≤ pair_limit size
    → sum_by footprint pairs + footprint (key, value) + 2 ≤ page_bytes size → IsLaid size (pairs ++ (key, value) ∷ [])
IsLaid-push size pairs key value p s f = record {
  fits = rw (sum_by_push footprint pairs (key, value)) f;
  small = small-push size pairs key value p.small s;
}

-- an absent key is still absent after a pair is removed
absent-remove : (pairs : List Pair) (i : ℕ) (key : List ℕ) → value_of pairs key ≡ None → value_of (remove pairs i) key ≡ None
absent-remove [] zero key h = h
absent-remove [] (suc i) key h = h
absent-remove (e ∷ es) zero key h = (absent_parts e es key h).1
absent-remove (e ∷ es) (suc i) key h =
    let parts = absent_parts e es key h in
    ap (λ b. cond b (Some e.1) (value_of (remove es i) key)) parts.0 ∙ absent-remove es i key parts.1

pub distinct-remove : (pairs : List Pair) (i : ℕ) → HasDistinctKeys pairs → HasDistinctKeys (remove pairs i)
distinct-remove [] zero d = d
distinct-remove [] (suc i) d = d
distinct-remove (e ∷ es) zero d = d.1
distinct-remove (e ∷ es) (suc i) d = (absent-remove es i e.0 d.0, distinct-remove es i d.1)

small-remove : (size : PageSize) (pairs : List Pair) (i : ℕ) → AreSmall size pairs → AreSmall size (remove pairs i)
small-remove size [] zero s = s
small-remove size [] (suc i) s = s
small-remove size (e ∷ es) zero s = s.1
small-remove size (e ∷ es) (suc i) s = (s.0, small-remove size es i s.1)

pub IsLaid-remove : (size : PageSize) (pairs : List Pair) (i : ℕ) → i < length pairs → IsLaid size pairs → IsLaid size (remove pairs i)
IsLaid-remove size pairs i h p =
    let all : sum_by footprint (remove pairs i) + footprint (get_or pairs i ([], [])) ≡ sum_by footprint pairs = sum_by-remove footprint pairs i ([], []) h in
    let fits : sum_by footprint pairs + 2 ≤ page_bytes size = p.fits in
    record { fits = omega arith; small = small-remove size pairs i p.small }

-- the key of the pair at place i, as the code reads it
key_read : (pairs : List Pair) (i : ℕ) (pair : Pair) (k : List ℕ) → i < length pairs → pair ≡ get_or pairs i pair → k ≡ pair.0 → key_at pairs i ≡ k
key_read pairs i pair k h is e = ap (λ (p : Pair). p.0) (sym (get_or_read_under pairs i (length pairs) pair ([], []) is h refl)) ∙ sym e

-- if the key is not before place i and the comparison finds it at i, then i is its place
pub found_at : (pairs : List Pair) (key : List ℕ) (i : ℕ) (pair : Pair) (k : List ℕ) → i < length pairs → pair ≡ get_or pairs i pair → k ≡ pair.0
    → bytes_eq k key ≡ true → value_of (drop i pairs) key ≡ value_of pairs key → IsPlace pairs key i
found_at pairs key i pair k h is e same before =
    let has : key_at pairs i ≡ key = key_read pairs i pair k h is e ∙ (bytes_eq-Decides k key).0 same in
    record {
      in_range = h;
      has_key = has;
      has_value = sym before ∙ value_of-drop_more pairs key i h ∙ cond-true _ _ _ (ap (same_key key) has ∙ same_key-refl key);
    }

-- if the pair at i has another key, the look-up continues after it
pub passed_at : (pairs : List Pair) (key : List ℕ) (i : ℕ) (pair : Pair) (k : List ℕ) → i < length pairs → pair ≡ get_or pairs i pair → k ≡ pair.0
    → bytes_eq k key ≡ false → value_of (drop i pairs) key ≡ value_of pairs key → value_of (drop (i + 1) pairs) key ≡ value_of pairs key
passed_at pairs key i pair k h is e other before =
    let differs : same_key key (key_at pairs i) ≡ false =
    ap (same_key key) (key_read pairs i pair k h is e) ∙ same_key-sym key k ∙ same_key-bytes_eq k key ∙ other in
    sym (value_of-drop_more pairs key i h ∙ cond-false _ _ _ differs) ∙ before

-- each pair takes at least four bytes
pub few_pairs : (pairs : List Pair) → 4 * length pairs ≤ sum_by footprint pairs
few_pairs [] = omega arith
few_pairs (e ∷ es) = let rest : 4 * length es ≤ sum_by footprint es = few_pairs es in rw (sum_by-cons footprint e es) (omega arith)
