-- Overwriting the value of a pair in place.
use Rattle.std.proofs.Common.{◌≡◌, ℕ, zero, suc, ◌+◌, ◌<◌, ◌≤◌, List, [], ◌∷◌, length, Bool, true, false, cond, Some, None, refl, sym, ap, ◌∙◌, subst, arith}
use Rattle.std.proofs.lemmas.Bool.{true≢false}
use Rattle.std.proofs.lemmas.List.Sums.{sum_by-cons}
use Rattle.std.specs.Cmp.Lexicographic.{nat_list_cmp_total}
use Rattle.std.specs.Prelude.{slice_set}
use Rattle.std.specs.List.{sum_by}
use Rattle.std.specs.Option.{option_map}
use Rattle.std.specs.FinMap as map
use Rattle.sdbm_addr.specs.declared.PageSize.{PageSize}
use Rattle.sdbm_addr.specs.Hash.{hash_of}
use Rattle.sdbm_addr.specs.Directory.{page_of}
use Rattle.sdbm_addr.specs.Pairs.{Pair, same_key, value_of, key_at, HasDistinctKeys, footprint, page_bytes, pair_limit, AreSmall, IsPage}
use Rattle.sdbm_addr.specs.Database.{Database, IsDatabase, pairs_at, map_of, with_page}
use Rattle.sdbm_addr.proofs.PairLemmas.{same_key-refl, same_key-sym, equal_keys, absent_parts}
use Rattle.sdbm_addr.proofs.SortedPairs.{apart_at}
use Rattle.sdbm_files.specs.Installed.{IsInstallable}
use Rattle.sdbm_files.proofs.PutLemmas.{IsPage-pairs_at, IsInstallable-with_key, map_of-with_key}
use Rattle.store_moves.specs.Works.{in_place}

-- if the key is absent nothing is written
in_place-absent : (es : List Pair) (key value : List ℕ) → value_of es key ≡ None → in_place key value es ≡ es
in_place-absent [] key value none = refl
in_place-absent (e ∷ es) key value none =
    let parts = absent_parts e es key none in
    ap (λ b. cond b (e.0, value) e ∷ in_place key value es) parts.0 ∙ ap (λ xs. e ∷ xs) (in_place-absent es key value parts.1)

-- overwriting the value of the pair at the key's index overwrites the key's value
pub slice_set-in_place : (es : List Pair) (key value : List ℕ) (i : ℕ) → i < length es → key_at es i ≡ key → HasDistinctKeys es → slice_set es i (key_at es i, value) ≡ in_place key value es
slice_set-in_place [] key value i h k d = absurd (omega arith)
slice_set-in_place (e ∷ es) key value zero h k d =
    let same : same_key key e.0 ≡ true = ap (same_key key) k ∙ same_key-refl key in
    let absent : value_of es key ≡ None = ap (value_of es) (sym k) ∙ d.0 in
    sym (ap (λ b. cond b (e.0, value) e ∷ in_place key value es) same ∙ ap (λ xs. (e.0, value) ∷ xs) (in_place-absent es key value absent))
slice_set-in_place (e ∷ es) key value (suc i) h k d =
    let apart : same_key key e.0 ≡ false = same_key-sym key e.0 ∙ ap (same_key e.0) (sym k) ∙ apart_at es e.0 i d.0 (omega arith) in
    ap (λ xs. e ∷ xs) (slice_set-in_place es key value i (omega arith) k d.1)
    ∙ sym (ap (λ b. cond b (e.0, value) e ∷ in_place key value es) apart)

-- ---- look-ups

-- a look-up finds the new value if it found a value of the key before
value_of-in_place : (es : List Pair) (key value q : List ℕ) → value_of (in_place key value es) q ≡ cond (same_key q key) (option_map (λ old. value) (value_of es q)) (value_of es q)
value_of-in_place [] key value q = at (same_key q key)
  where
    at : (b : Bool) → None ≡ cond b (option_map (λ (old : List ℕ). value) None) None
    at true = refl
    at false = refl
value_of-in_place (e ∷ es) key value q = at (same_key key e.0) refl (same_key q e.0) refl (value_of-in_place es key value q)
  where
    at : (b : Bool) → same_key key e.0 ≡ b → (f : Bool) → same_key q e.0 ≡ f → value_of (in_place key value es) q ≡ cond (same_key q key) (option_map (λ (old : List ℕ). value) (value_of es q)) (value_of es q)
        → value_of (cond b (e.0, value) e ∷ in_place key value es) q ≡ cond (same_key q key) (option_map (λ (old : List ℕ). value) (cond (same_key q e.0) (Some e.1) (value_of es q))) (cond (same_key q e.0) (Some e.1) (value_of es q))
    at true t true s rest =
        let k : key ≡ e.0 = equal_keys key e.0 t in
        let same : same_key q key ≡ true = ap (same_key q) k ∙ s in
        rw (s, same) refl
    at true t false s rest = rw s rest
    at false t true s rest =
        let j : q ≡ e.0 = equal_keys q e.0 s in
        let other : same_key q key ≡ false = ap (λ x. same_key x key) j ∙ same_key-sym e.0 key ∙ t in
        rw (s, other) refl
    at false t false s rest = rw s rest

-- ---- pages

none_in_place : (es : List Pair) (key value q : List ℕ) → value_of es q ≡ None → value_of (in_place key value es) q ≡ None
none_in_place es key value q none = value_of-in_place es key value q ∙ ap (λ o. cond (same_key q key) (option_map (λ (old : List ℕ). value) o) o) none ∙ at (same_key q key)
  where
    at : (b : Bool) → cond b (option_map (λ (old : List ℕ). value) None) None ≡ None
    at true = refl
    at false = refl

distinct-in_place : (es : List Pair) (key value : List ℕ) → HasDistinctKeys es → HasDistinctKeys (in_place key value es)
distinct-in_place [] key value d = tt
distinct-in_place (e ∷ es) key value d = at (same_key key e.0) (none_in_place es key value e.0 d.0) (distinct-in_place es key value d.1)
  where
    at : (b : Bool) → value_of (in_place key value es) e.0 ≡ None → HasDistinctKeys (in_place key value es) → HasDistinctKeys (cond b (e.0, value) e ∷ in_place key value es)
    at true none rest = (none, rest)
    at false none rest = (none, rest)

-- each value of the key has n bytes
abbrev AreLong : List ℕ → ℕ → List Pair → Type 0
AreLong key n [] = Unit {0}
AreLong key n (e ∷ es) = (same_key key e.0 ≡ true → length e.1 ≡ n) × AreLong key n es

long_absent : (es : List Pair) (key : List ℕ) (n : ℕ) → value_of es key ≡ None → AreLong key n es
long_absent [] key n none = tt
long_absent (e ∷ es) key n none =
    let parts = absent_parts e es key none in
    (λ same. absurd (true≢false (sym same ∙ parts.0)), long_absent es key n parts.1)

long_there : (es : List Pair) (key value : List ℕ) → HasDistinctKeys es → value_of es key ≡ Some value → AreLong key (length value) es
long_there [] key value d some = let no : None ≡ Some value = some in absurd cc
long_there (e ∷ es) key value d some = at (same_key key e.0) refl some (λ g. long_there es key value d.1 g)
  where
    at : (b : Bool) → same_key key e.0 ≡ b → cond b (Some e.1) (value_of es key) ≡ Some value → (value_of es key ≡ Some value → AreLong key (length value) es) → AreLong key (length value) (e ∷ es)
    at true t g rest =
        let found : Some e.1 ≡ Some value = g in
        let is : e.1 ≡ value = cc in
        (λ same. ap length is, long_absent es key (length value) (ap (value_of es) (equal_keys key e.0 t) ∙ d.0))
    at false t g rest = (λ same. absurd (true≢false (sym same ∙ t)), rest g)

sum-in_place : (es : List Pair) (key value : List ℕ) → AreLong key (length value) es → sum_by footprint (in_place key value es) ≡ sum_by footprint es
sum-in_place [] key value long = refl
sum-in_place (e ∷ es) key value long = at (same_key key e.0) refl (sum-in_place es key value long.1)
  where
    at : (b : Bool) → same_key key e.0 ≡ b → sum_by footprint (in_place key value es) ≡ sum_by footprint es → sum_by footprint (cond b (e.0, value) e ∷ in_place key value es) ≡ sum_by footprint (e ∷ es)
    at true t rest =
        let same : length e.1 ≡ length value = long.0 t in
        rw (sum_by-cons footprint (e.0, value) (in_place key value es), sum_by-cons footprint e es) (omega arith)
    at false t rest = rw (sum_by-cons footprint e (in_place key value es), sum_by-cons footprint e es) (omega arith)

small-in_place : (size : PageSize) (es : List Pair) (key value : List ℕ) → AreLong key (length value) es → AreSmall size es → AreSmall size (in_place key value es)
small-in_place size [] key value long small = small
small-in_place size (e ∷ es) key value long small = at (same_key key e.0) refl (small-in_place size es key value long.1 small.1)
  where
    at : (b : Bool) → same_key key e.0 ≡ b → AreSmall size (in_place key value es) → AreSmall size (cond b (e.0, value) e ∷ in_place key value es)
    at true t rest =
        let same : length e.1 ≡ length value = long.0 t in
        let old : length e.0 + length e.1 ≤ pair_limit size = small.0 in
        (omega arith, rest)
    at false t rest = (small.0, rest)

IsPage-in_place : (size : PageSize) (es : List Pair) (key old value : List ℕ) → value_of es key ≡ Some old → length value ≡ length old → IsPage size es → IsPage size (in_place key value es)
IsPage-in_place size es key old value there same page =
    let long : AreLong key (length value) es = subst (λ (n : ℕ). AreLong key n es) (sym same) (long_there es key old page.distinct there) in
    let sum : sum_by footprint (in_place key value es) ≡ sum_by footprint es = sum-in_place es key value long in
    let fits : sum_by footprint es + 2 ≤ page_bytes size = page.laid.fits in
    record { distinct = distinct-in_place es key value page.distinct; laid = record { fits = omega arith; small = small-in_place size es key value long page.laid.small } }

-- ---- databases

-- a look-up of the key, which exists, finds the new value
found-in_place : (es : List Pair) (key old value : List ℕ) → value_of es key ≡ Some old → (q : List ℕ) → value_of (in_place key value es) q ≡ cond (same_key q key) (Some value) (value_of es q)
found-in_place es key old value there q = value_of-in_place es key value q ∙ at (same_key q key) refl
  where
    at : (b : Bool) → same_key q key ≡ b → cond b (option_map (λ (x : List ℕ). value) (value_of es q)) (value_of es q) ≡ cond b (Some value) (value_of es q)
    at true same = ap (option_map (λ (x : List ℕ). value)) (ap (value_of es) (equal_keys q key same) ∙ there)
    at false other = refl

module _ (db : Database) (ok : IsDatabase db) (n : ℕ) (key old value : List ℕ) (leads : n ≡ page_of db.splits (hash_of db.kind key)) (there : value_of (pairs_at db n) key ≡ Some old) (same : length value ≡ length old) where
  page-written : IsPage db.size (in_place key value (pairs_at db n))
  page-written = IsPage-in_place db.size (pairs_at db n) key old value there same (IsPage-pairs_at db ok n)

  -- a plan without splits that overwrites the value of a key
  pub IsInstallable-written : IsInstallable db n (record { size = db.size; pairs = in_place key value (pairs_at db n) }) [] []
  IsInstallable-written = IsInstallable-with_key db ok n key leads (Some value) (in_place key value (pairs_at db n)) page-written (found-in_place (pairs_at db n) key old value there)

  -- the map of the database then has the new value
  pub map_of-written : map_of (with_page db n (in_place key value (pairs_at db n))) ≡ map.insert (map_of db) key value
  map_of-written =
      map_of-with_key db ok n key leads (Some value) (in_place key value (pairs_at db n)) page-written (found-in_place (pairs_at db n) key old value there) (map.insert (map_of db) key value)
      (map.get-insert nat_list_cmp_total (map_of db) key value)
