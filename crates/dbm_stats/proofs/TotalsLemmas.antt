-- Laws of totals over pairs.
use Rattle.std.proofs.Common.{◌≡◌, ℕ, ◌+◌, ◌*◌, ◌<◌, ◌≤◌, max, List, [], ◌∷◌, ◌++◌, length, take, get_or, map as map_list, refl, sym, ap, ◌∙◌, subst, arith, length-append}
use Rattle.std.proofs.lemmas.List.{take_more, take_all, get_or-map, length-map, append-nil}
use Rattle.std.proofs.lemmas.List.Concat.{flat_map-append}
use Rattle.std.proofs.lemmas.List.Sums.{fold-append, sum_by-append, sum_by-le-sum_by, sum_by-take-le}
use Rattle.std.specs.List.{fold, sum_by, flat_map}
use Rattle.sdbm_addr.specs.declared.PageSize.{PageSize}
use Rattle.sdbm_addr.specs.declared.PageSize.TheVariants.{Small, Wide}
use Rattle.sdbm_addr.specs.Pairs.{Pair, footprint, page_bytes, IsLaid}
use Rattle.sdbm_addr.specs.Database.{Database}
use Rattle.sdbm_addr.proofs.PairLemmas.{few_pairs}
use Rattle.dbm_stats.specs.Totals.{greatest, totals_of, joined_totals, AreBelow}
use Rattle.dbm_stats.specs.Shapes.{shape_of}
use Rattle.dbm_stats.specs.declared.totals.PairTotals.{PairTotals}
use Rattle.dbm_stats.specs.declared.totals.PageShape.{PageShape}

greatest_from : {X : Type 0} (f : X → ℕ) (m : ℕ) (xs : List X) → fold (λ a x. max a (f x)) m xs ≡ max m (greatest f xs)
greatest_from f m [] = omega arith
greatest_from f m (x ∷ xs) =
    let here : fold (λ a x. max a (f x)) (max m (f x)) xs ≡ max (max m (f x)) (greatest f xs) = greatest_from f (max m (f x)) xs in
    let none : fold (λ a x. max a (f x)) (max 0 (f x)) xs ≡ max (max 0 (f x)) (greatest f xs) = greatest_from f (max 0 (f x)) xs in
    omega arith

pub greatest-append : {X : Type 0} (f : X → ℕ) (xs ys : List X) → greatest f (xs ++ ys) ≡ max (greatest f xs) (greatest f ys)
greatest-append f xs ys = fold-append (λ a x. max a (f x)) 0 xs ys ∙ greatest_from f (greatest f xs) ys

-- equal numbers make equal totals
same_totals : (a b : PairTotals) → a.count ≡ b.count → a.key_bytes ≡ b.key_bytes → a.value_bytes ≡ b.value_bytes → a.longest_key ≡ b.longest_key → a.longest_pair ≡ b.longest_pair → a ≡ b
same_totals a b p q r s t = λ i. record { count = p i; key_bytes = q i; value_bytes = r i; longest_key = s i; longest_pair = t i }

pub totals-append : (xs ys : List Pair) → totals_of (xs ++ ys) ≡ joined_totals (totals_of xs) (totals_of ys)
totals-append xs ys =
    same_totals _ _ (length-append xs ys) (sum_by-append (λ (e : Pair). length e.0) xs ys) (sum_by-append (λ (e : Pair). length e.1) xs ys)
    (greatest-append (λ (e : Pair). length e.0) xs ys) (greatest-append (λ (e : Pair). length e.0 + length e.1) xs ys)

pub totals_more : (pairs : List Pair) (i : ℕ) (t one : PairTotals) → i < length pairs → t ≡ totals_of (take i pairs)
    → one ≡ totals_of (((get_or pairs i ([], [])).0, (get_or pairs i ([], [])).1) ∷ []) → joined_totals t one ≡ totals_of (take (i + 1) pairs)
totals_more pairs i t one h is this =
    ap (λ (x : PairTotals). joined_totals x one) is ∙ ap (joined_totals (totals_of (take i pairs))) this
    ∙ sym (totals-append (take i pairs) (get_or pairs i ([], []) ∷ [])) ∙ ap totals_of (sym (take_more pairs i ([], []) h))

-- each sum is at most the space of the pairs
pub totals_below : (pairs : List Pair) (n : ℕ) → sum_by footprint pairs ≤ n → AreBelow (totals_of pairs) n
totals_below pairs n h =
    let few : 4 * length pairs ≤ sum_by footprint pairs = few_pairs pairs in
    let keys : sum_by (λ (e : Pair). length e.0) pairs ≤ sum_by footprint pairs = sum_by-le-sum_by (λ (e : Pair). length e.0) footprint pairs (λ e. omega arith) in
    let values : sum_by (λ (e : Pair). length e.1) pairs ≤ sum_by footprint pairs = sum_by-le-sum_by (λ (e : Pair). length e.1) footprint pairs (λ e. omega arith) in
    record { count = omega arith; key_bytes = omega arith; value_bytes = omega arith }

pub AreBelow-le : (t : PairTotals) (m n : ℕ) → m ≤ n → AreBelow t m → AreBelow t n
AreBelow-le t m n h below = record {
  count = omega (arith, below.count);
  key_bytes = omega (arith, below.key_bytes);
  value_bytes = omega (arith, below.value_bytes);
}

pub laid_footprint : (size : PageSize) (pairs : List Pair) → IsLaid size pairs → sum_by footprint pairs + 2 ≤ 8192
laid_footprint Small pairs laid = let h : sum_by footprint pairs + 2 ≤ 1024 = laid.fits in omega arith
laid_footprint Wide pairs laid = laid.fits

pub part_below : (size : PageSize) (pairs : List Pair) (i : ℕ) (t : PairTotals) → IsLaid size pairs → t ≡ totals_of (take i pairs) → AreBelow t 8192
part_below size pairs i t laid is =
    let whole = laid_footprint size pairs laid in
    let part = sum_by-take-le footprint pairs i in
    subst (λ (x : PairTotals). AreBelow x 8192) (sym is) (totals_below (take i pairs) 8192 (omega arith))

-- the totals over the first pages and one more page
pub all_more : (db : Database) (shapes : List PageShape) (pages : List (ℕ × List Pair)) (i : ℕ) (t : PairTotals) (d : PageShape) → i < length shapes → shapes ≡ map_list (shape_of db) pages
    → t ≡ totals_of (flat_map (λ (e : ℕ × List Pair). e.1) (take i pages))
    → joined_totals t (get_or shapes i d).totals ≡ totals_of (flat_map (λ (e : ℕ × List Pair). e.1) (take (i + 1) pages))
all_more db shapes pages i t d h are so_far =
    let long : length shapes ≡ length pages = ap length are ∙ length-map pages (shape_of db) in
    let inside : i < length pages = omega arith in
    let page = get_or pages i (0, []) in
    let here : get_or shapes i d ≡ shape_of db page = ap (λ (xs : List PageShape). get_or xs i d) are ∙ get_or-map (shape_of db) pages i (0, []) d inside in
    ap (λ (x : PairTotals). joined_totals x (get_or shapes i d).totals) so_far
    ∙ ap (λ (s : PageShape). joined_totals (totals_of (flat_map (λ (e : ℕ × List Pair). e.1) (take i pages))) s.totals) here
    ∙ sym (totals-append (flat_map (λ (e : ℕ × List Pair). e.1) (take i pages)) page.1)
    ∙ ap totals_of (one_page pages i inside)
  where
    one_page : (pages : List (ℕ × List Pair)) (i : ℕ) → i < length pages
        → flat_map (λ (e : ℕ × List Pair). e.1) (take i pages) ++ (get_or pages i (0, [])).1 ≡ flat_map (λ (e : ℕ × List Pair). e.1) (take (i + 1) pages)
    one_page pages i inside =
        let page = get_or pages i (0, []) in
        sym (ap (flat_map (λ (e : ℕ × List Pair). e.1)) (take_more pages i (0, []) inside) ∙ flat_map-append (λ (e : ℕ × List Pair). e.1) (take i pages) (page ∷ [])
        ∙ ap (λ (ps : List Pair). flat_map (λ (e : ℕ × List Pair). e.1) (take i pages) ++ ps) (append-nil page.1))

-- bounds add up when totals are joined
pub below_joined : (t u r : PairTotals) (m n k : ℕ) → r ≡ joined_totals t u → m + n ≡ k → AreBelow t m → AreBelow u n → AreBelow r k
below_joined t u r m n k is sums a b = subst (λ (x : PairTotals). AreBelow x k) (sym is) (record {
  count = omega (arith, a.count, b.count);
  key_bytes = omega (arith, a.key_bytes, b.key_bytes);
  value_bytes = omega (arith, a.value_bytes, b.value_bytes);
})

pub all_pages : (db : Database) (shapes : List PageShape) (pages : List (ℕ × List Pair)) (i : ℕ) (t : PairTotals) → length shapes ≤ i → shapes ≡ map_list (shape_of db) pages
    → t ≡ totals_of (flat_map (λ (e : ℕ × List Pair). e.1) (take i pages)) → t ≡ totals_of (flat_map (λ (e : ℕ × List Pair). e.1) pages)
all_pages db shapes pages i t h are is =
    let long : length shapes ≡ length pages = ap length are ∙ length-map pages (shape_of db) in
    is ∙ ap (λ (xs : List (ℕ × List Pair)). totals_of (flat_map (λ (e : ℕ × List Pair). e.1) xs)) (take_all i pages (omega arith))
