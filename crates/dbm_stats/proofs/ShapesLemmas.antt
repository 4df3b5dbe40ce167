-- Laws of measured pages, and of the statistics computed from them.
use Rattle.std.proofs.Common.{◌≡◌, ◌≢◌, ℕ, zero, suc, add-one, ◌+◌, ◌-◌, ◌*◌, ◌%◌, ◌^◌, ◌<◌, ◌≤◌, ◌==◌, Bool, true, false, cond, ◌&&◌, T, List, [], ◌∷◌, length, get_or, map as map_list, ◌++◌, Option, Some, None, unwrap_or, refl, sym, ap, ◌∙◌, subst, arith}
use Rattle.std.proofs.lemmas.Bool.{cond-true, true≢false}
use Rattle.std.proofs.lemmas.List.{get_or-map, length-map, append-nil, map-append}
use Rattle.std.proofs.lemmas.List.Folds.{fold-map}
use Rattle.std.proofs.lemmas.List.FromFn.{length-map-range_with_len}
use Rattle.std.proofs.Math.Nat.{mod-mod}
use Rattle.std.specs.List.{count_by, range_with_len}
use Rattle.std.specs.List.Sorted.{IsSortedByKey}
use Rattle.std.specs.declared.cmp.Ordering.TheVariants.{Less, Equal, Greater}
use Rattle.std.specs.Ordering.{nat_cmp, is_lt, ordering_reverse}
use Rattle.std.specs.Cmp.{nat_cmp_total}
use Rattle.std.specs.Option.{option_map}
use Rattle.std.specs.FinMap as map
use Rattle.std.specs.FinMap.{is_sorted}
use Rattle.std.specs.FinMap.Entries.{below_all}
use Rattle.sdbm_addr.specs.declared.PageSize.{PageSize}
use Rattle.sdbm_addr.specs.Hash.{hash_of}
use Rattle.sdbm_addr.specs.Directory.{IsDepth, depth_of, page_of}
use Rattle.sdbm_addr.specs.Pairs.{Pair, key_at, value_of}
use Rattle.sdbm_addr.specs.Database.{Database, IsDatabase, pairs_at, pairs_of, map_of}
use Rattle.sdbm_addr.specs.Files.{IsPageCount, ArePagBytes}
use Rattle.sdbm_addr.proofs.DatabaseLemmas.{distinct_pages, HasDistinctNumbers-entries, len-from_entries}
use Rattle.sdbm_addr.proofs.PairLemmas.{same_key-refl}
use Rattle.sdbm_addr.proofs.DirectoryLemmas.{IsDepth-agree, IsDepth-unique, depth_of-IsDepth, page_of_depth}
use Rattle.sdbm_files.specs.Widened.{widened}
use Rattle.sdbm_files.proofs.OnlyDatabase.{length-ArePagBytes}
use Rattle.sdbm_files.proofs.WideningLemmas.{IsDatabase-widened}
use Rattle.dbm_stats.specs.Totals.{totals_of}
use Rattle.dbm_stats.specs.Shapes.{filled, tenth, page_depth, shape_of}
use Rattle.dbm_stats.specs.Depths.{depths_of}
use Rattle.dbm_stats.specs.Fullest.{AreFullest, room_on}
use Rattle.dbm_stats.specs.declared.totals.PairTotals.{PairTotals}
use Rattle.dbm_stats.specs.declared.totals.PageShape.{PageShape}
use Rattle.dbm_stats.specs.declared.depths.Depths.{Depths}
use Rattle.dbm_stats.specs.declared.fullest.PageRoom.{PageRoom}
use Rattle.dbm_stats.proofs.UsedPages.{all_below, below_next, few_below, pages_below}

-- ---- one page

pub same_shape : (a b : PageShape) → a.number ≡ b.number → a.depth ≡ b.depth → a.filled ≡ b.filled → a.totals ≡ b.totals → a ≡ b
same_shape a b p q r s = λ i. record { number = p i; depth = q i; filled = r i; totals = s i }

some_not_none : (x : List ℕ) → Some x ≡ None → ⊥
some_not_none x e = cc

first_found : (pairs : List Pair) → 0 < length pairs → value_of pairs (key_at pairs 0) ≢ None
first_found [] h = absurd (omega arith)
first_found (e ∷ es) h = λ none. some_not_none e.1 (sym (cond-true _ _ _ (same_key-refl e.0)) ∙ none)

-- a page has the depth of the hash of its first key
pub depth_there : (db : Database) → IsDatabase db → (n : ℕ) (pairs : List Pair) (key : List ℕ) (h : ℕ) → map.get db.pages n ≡ Some pairs → 0 < length pairs → key ≡ key_at pairs 0
    → IsDepth db.splits (hash_of db.kind key) h → h ≡ depth_of db.splits n
depth_there db ok n pairs key h there some is deep =
    let hash = hash_of db.kind key in
    let here : pairs_at db n ≡ pairs = ap (λ o. unwrap_or o []) there in
    let found : value_of (pairs_at db n) key ≢ None = λ none. first_found pairs some (sym (ap (value_of pairs) is) ∙ sym (ap (λ (ps : List Pair). value_of ps key) here) ∙ none) in
    let number : hash_of db.kind key % 2 ^ h ≡ n = sym (page_of_depth db.splits ok.directory hash h deep) ∙ ok.placed n key found in
    let low : hash_of db.kind key % 2 ^ h ≡ n % 2 ^ h = sym (mod-mod hash (2 ^ h)) ∙ ap (λ (x : ℕ). x % 2 ^ h) number in
    IsDepth-unique db.splits n h (depth_of db.splits n) (IsDepth-agree db.splits hash n h low deep) (depth_of-IsDepth db.splits ok.directory n)

-- ---- all pages

pub shapes_some : (db : Database) (n : ℕ) (items : List PageShape) (shape : PageShape) → Some shape ≡ option_map (λ (ps : List Pair). shape_of db (n, ps)) (map.get db.pages n)
    → items ≡ map_list (shape_of db) (pages_below db.pages n) → items ++ shape ∷ [] ≡ map_list (shape_of db) (pages_below db.pages (n + 1))
shapes_some db n items shape found are = at (map.get db.pages n) refl found
  where
    at : (o : Option (List Pair)) → map.get db.pages n ≡ o → Some shape ≡ option_map (λ (ps : List Pair). shape_of db (n, ps)) o → items ++ shape ∷ [] ≡ map_list (shape_of db) (pages_below db.pages (n + 1))
    at None is found = absurd (cc)
    at (Some pairs) is found =
        let same : shape ≡ shape_of db (n, pairs) = cc in
        ap (λ (xs : List PageShape). xs ++ shape ∷ []) are ∙ ap (λ (s : PageShape). map_list (shape_of db) (pages_below db.pages n) ++ s ∷ []) same
        ∙ sym (map-append (shape_of db) (pages_below db.pages n) ((n, pairs) ∷ [])) ∙ ap (map_list (shape_of db)) (sym (below_next db.pages n (Some pairs) is))

pub shapes_none : (db : Database) (n : ℕ) (items : List PageShape) → None ≡ option_map (λ (ps : List Pair). shape_of db (n, ps)) (map.get db.pages n)
    → items ≡ map_list (shape_of db) (pages_below db.pages n) → items ≡ map_list (shape_of db) (pages_below db.pages (n + 1))
shapes_none db n items found are = at (map.get db.pages n) refl found
  where
    at : (o : Option (List Pair)) → map.get db.pages n ≡ o → None ≡ option_map (λ (ps : List Pair). shape_of db (n, ps)) o → items ≡ map_list (shape_of db) (pages_below db.pages (n + 1))
    at None is found = are ∙ ap (map_list (shape_of db)) (sym (below_next db.pages n None is ∙ append-nil (pages_below db.pages n)))
    at (Some pairs) is found = absurd (cc)

pub few_shapes : (db : Database) → IsDatabase db → (n : ℕ) → IsPageCount db n → (shapes : List PageShape) → shapes ≡ map_list (shape_of db) (map.entries db.pages) → length shapes ≤ n
few_shapes db ok n counted shapes are =
    let long : length shapes ≡ length (map.entries db.pages) = ap length are ∙ length-map (map.entries db.pages) (shape_of db) in
    let all : length (pages_below db.pages n) ≡ length (map.entries db.pages) = ap length (all_below db ok n counted) in
    let few : length (pages_below db.pages n) ≤ n = few_below db.pages n in
    omega arith

counted_map : (db : Database) (pages : List (ℕ × List Pair)) (i : ℕ)
    → count_by (λ (s : PageShape). tenth db.size s.filled == i) (map_list (shape_of db) pages) ≡ count_by (λ (e : ℕ × List Pair). tenth db.size (filled e.1) == i) pages
counted_map db pages i = fold-map (λ a (s : PageShape). a + cond (tenth db.size s.filled == i) 1 0) (shape_of db) 0 pages

pub bars_map : (db : Database) (pages : List (ℕ × List Pair)) (ns : List ℕ)
    → map_list (λ i. count_by (λ (s : PageShape). tenth db.size s.filled == i) (map_list (shape_of db) pages)) ns
    ≡ map_list (λ i. count_by (λ (e : ℕ × List Pair). tenth db.size (filled e.1) == i) pages) ns
bars_map db pages ns = ap (λ (f : ℕ → ℕ). map_list f ns) (λ j i. counted_map db pages i j)

pub rooms_map : (db : Database) (pages : List (ℕ × List Pair)) → map_list (room_on db.size) (map_list (shape_of db) pages) ≡ map_list (λ (e : ℕ × List Pair). room_on db.size (shape_of db e)) pages
rooms_map db [] = refl
rooms_map db (e ∷ es) = ap (λ (rs : List PageRoom). room_on db.size (shape_of db e) ∷ rs) (rooms_map db es)

pub depths_map : (db : Database) (pages : List (ℕ × List Pair)) → map_list (λ (s : PageShape). s.depth) (map_list (shape_of db) pages) ≡ map_list (λ (e : ℕ × List Pair). page_depth db e.0) pages
depths_map db [] = refl
depths_map db (e ∷ es) = ap (λ (ds : List ℕ). page_depth db e.0 ∷ ds) (depths_map db es)

-- a widened database has the same number of written pages
pub counted_widened : (db : Database) (n : ℕ) → IsPageCount db n → IsPageCount (widened db) n
counted_widened db n counted = record { past = counted.past; last = counted.last }

-- ---- the order of page numbers

parts : (a b : Bool) → T (a && b) → T a × T b
parts true b t = (tt, t)
parts false b t = absurd t

is_true : (b : Bool) → T b → b ≡ true
is_true true t = refl
is_true false t = absurd t

not_back : (x y : ℕ) → is_lt (nat_cmp x y) ≡ true → is_lt (nat_cmp y x) ≡ false
not_back x y h =
    elim (nat_cmp x y) as (λ r. nat_cmp x y ≡ r → is_lt r ≡ true → is_lt (nat_cmp y x) ≡ false) [
      | Less ↦ λ t h. ap is_lt (nat_cmp_total.antisymm y x ∙ ap ordering_reverse t)
      | Equal ↦ λ t h. absurd (true≢false (sym h))
      | Greater ↦ λ t h. absurd (true≢false (sym h))
    ] refl h

second_above : (e : ℕ × List Pair) (es : List (ℕ × List Pair)) (d : ℕ × List Pair) → T (below_all nat_cmp e.0 es) → 0 < length es → is_lt (nat_cmp e.0 (get_or es 0 d).0) ≡ true
second_above e [] d low h = absurd (omega arith)
second_above e (f ∷ es) d low h = is_true _ (parts (is_lt (nat_cmp e.0 f.0)) (below_all nat_cmp e.0 es) low).0

pub numbers_rise : (es : List (ℕ × List Pair)) → T (is_sorted nat_cmp es) → (k : ℕ) (d : ℕ × List Pair) → k + 1 < length es → is_lt (nat_cmp (get_or es (k + 1) d).0 (get_or es k d).0) ≡ false
numbers_rise es up k d h = ap (λ (j : ℕ). is_lt (nat_cmp (get_or es j d).0 (get_or es k d).0)) (add-one k) ∙ at es up k (omega arith)
  where
    at : (es : List (ℕ × List Pair)) → T (is_sorted nat_cmp es) → (k : ℕ) → suc k < length es → is_lt (nat_cmp (get_or es (suc k) d).0 (get_or es k d).0) ≡ false
    at [] up k h = absurd (omega arith)
    at (e ∷ es) up zero h = not_back e.0 (get_or es 0 d).0 (second_above e es d (parts (below_all nat_cmp e.0 es) (is_sorted nat_cmp es) up).0 (omega arith))
    at (e ∷ es) up (suc k) h = at es (parts (below_all nat_cmp e.0 es) (is_sorted nat_cmp es) up).1 k (omega arith)

pub shapes_rise : (db : Database) (shapes : List PageShape) → shapes ≡ map_list (shape_of db) (map.entries db.pages) → IsSortedByKey (λ (s : PageShape). s.number) nat_cmp shapes
shapes_rise db shapes are = subst (IsSortedByKey (λ (s : PageShape). s.number) nat_cmp) (sym are) (at (map.entries db.pages) (map.entries_sorted db.pages))
  where
    at : (es : List (ℕ × List Pair)) → T (is_sorted nat_cmp es) → IsSortedByKey (λ (s : PageShape). s.number) nat_cmp (map_list (shape_of db) es)
    at es up = λ k d low high.
        let long : length (map_list (shape_of db) es) ≡ length es = length-map es (shape_of db) in
        let inside : k + 1 < length es = omega arith in
        let before : k < length es = omega arith in
        ap (λ (s : PageShape). is_lt (nat_cmp s.number (get_or (map_list (shape_of db) es) k d).number)) (get_or-map (shape_of db) es (k + 1) (0, []) d inside)
        ∙ ap (λ (s : PageShape). is_lt (nat_cmp (get_or es (k + 1) (0, [])).0 s.number)) (get_or-map (shape_of db) es k (0, []) d before)
        ∙ numbers_rise es up k (0, []) inside

pub rooms_rise : (size : PageSize) (shapes : List PageShape) (rooms : List PageRoom) → rooms ≡ map_list (room_on size) shapes → IsSortedByKey (λ (s : PageShape). s.number) nat_cmp shapes
    → IsSortedByKey (λ (r : PageRoom). r.number) nat_cmp rooms
rooms_rise size shapes rooms are up = subst (IsSortedByKey (λ (r : PageRoom). r.number) nat_cmp) (sym are) (λ k d low high.
    let none : PageShape = record { number = 0; depth = 0; filled = 0; totals = totals_of [] } in
    let long : length (map_list (room_on size) shapes) ≡ length shapes = length-map shapes (room_on size) in
    let inside : k + 1 < length shapes = omega arith in
    let before : k < length shapes = omega arith in
    ap (λ (r : PageRoom). is_lt (nat_cmp r.number (get_or (map_list (room_on size) shapes) k d).number)) (get_or-map (room_on size) shapes (k + 1) none d inside)
    ∙ ap (λ (r : PageRoom). is_lt (nat_cmp (get_or shapes (k + 1) none).number r.number)) (get_or-map (room_on size) shapes k none d before)
    ∙ up k none low inside)

-- ---- the statistics

pub bars_is : (db : Database) (size : PageSize) (shapes : List PageShape) (bars : List ℕ) → size ≡ db.size → shapes ≡ map_list (shape_of db) (map.entries db.pages)
    → bars ≡ map_list (λ i. count_by (λ (s : PageShape). tenth size s.filled == i) shapes) (range_with_len 0 10)
    → bars ≡ map_list (λ i. count_by (λ (e : ℕ × List Pair). tenth db.size (filled e.1) == i) (map.entries db.pages)) (range_with_len 0 10)
bars_is db size shapes bars sizes are is =
    is ∙ ap (λ (z : PageSize). map_list (λ i. count_by (λ (s : PageShape). tenth z s.filled == i) shapes) (range_with_len 0 10)) sizes
    ∙ ap (λ (xs : List PageShape). map_list (λ i. count_by (λ (s : PageShape). tenth db.size s.filled == i) xs) (range_with_len 0 10)) are
    ∙ bars_map db (map.entries db.pages) (range_with_len 0 10)

pub ten_bars : (size : PageSize) (shapes : List PageShape) (bars : List ℕ) → bars ≡ map_list (λ i. count_by (λ (s : PageShape). tenth size s.filled == i) shapes) (range_with_len 0 10) → length bars ≡ 10
ten_bars size shapes bars is = ap length is ∙ length-map-range_with_len (λ i. count_by (λ (s : PageShape). tenth size s.filled == i) shapes) 0 10

pub fullest_is : (db : Database) (size : PageSize) (shapes : List PageShape) (fullest : List PageRoom) → size ≡ db.size → shapes ≡ map_list (shape_of db) (map.entries db.pages)
    → AreFullest (map_list (room_on size) shapes) fullest → AreFullest (map_list (λ (e : ℕ × List Pair). room_on db.size (shape_of db e)) (map.entries db.pages)) fullest
fullest_is db size shapes fullest sizes are is =
    subst (λ (rs : List PageRoom). AreFullest rs fullest)
    (ap (λ (z : PageSize). map_list (room_on z) shapes) sizes ∙ ap (λ (xs : List PageShape). map_list (room_on db.size) xs) are ∙ rooms_map db (map.entries db.pages)) is

pub depths_is : (db : Database) (shapes : List PageShape) (d : Depths) → shapes ≡ map_list (shape_of db) (map.entries db.pages)
    → d ≡ depths_of (map_list (λ (s : PageShape). s.depth) shapes) → d ≡ depths_of (map_list (λ (e : ℕ × List Pair). page_depth db e.0) (map.entries db.pages))
depths_is db shapes d are is =
    is ∙ ap (λ (xs : List PageShape). depths_of (map_list (λ (s : PageShape). s.depth) xs)) are ∙ ap depths_of (depths_map db (map.entries db.pages))

pub used_is : (db : Database) (shapes : List PageShape) (n : ℕ) → shapes ≡ map_list (shape_of db) (map.entries db.pages) → n ≡ length shapes → n ≡ map.len db.pages
used_is db shapes n are is = is ∙ ap length are ∙ length-map (map.entries db.pages) (shape_of db) ∙ sym (map.len-entries db.pages)

pub wide_is : (db : Database) → IsDatabase db → (n bytes : ℕ) → IsPageCount db n → bytes ≡ 8192 → (pag : List ℕ) → ArePagBytes (widened db) pag → n * bytes ≡ length pag
wide_is db ok n bytes counted is pag are = ap (λ (b : ℕ). n * b) is ∙ length-ArePagBytes (widened db) (IsDatabase-widened db ok) pag are n (counted_widened db n counted)

pub holes_is : (db : Database) (n used : ℕ) → IsPageCount db n → used ≤ n → IsPageCount db (used + (n - used))
holes_is db n used counted h = let sum : n ≡ used + (n - used) = omega arith in subst (IsPageCount db) sum counted

-- the pairs of all pages are as numerous as the entries of the map
pub count_is : (db : Database) → IsDatabase db → (t : PairTotals) → t ≡ totals_of (pairs_of db) → t.count ≡ map.len (map_of db)
count_is db ok t is =
    ap (λ (x : PairTotals). x.count) is
    ∙ sym (len-from_entries (pairs_of db) (distinct_pages db ok (map.entries db.pages) (HasDistinctNumbers-entries db.pages) (λ n. map.get-entries db.pages n)))
