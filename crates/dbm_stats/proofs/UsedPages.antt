-- The pages that have pairs, enumerated by number.
use Rattle.std.proofs.Common.{◌≡◌, ◌≢◌, ℕ, zero, suc, ◌+◌, ◌-◌, ◌<◌, ◌≤◌, Bool, true, false, cond, ◌&&◌, T, List, [], ◌∷◌, ◌++◌, length, get_or, map as map_list, Option, Some, None, unwrap_or, ◌⊎◌, inl, inr, refl, sym, ap, ◌∙◌, subst, arith, add-one}
use Rattle.std.proofs.lemmas.Bool.{cases_eq, cases_lt, true≢false, false_from_ne_true}
use Rattle.std.proofs.lemmas.List.{append-nil, length-append}
use Rattle.std.proofs.lemmas.Map.Keys.{ge_from_not_lt}
use Rattle.std.specs.Ordering.{nat_cmp, eq_by_cmp, is_lt}
use Rattle.std.specs.Cmp.{nat_cmp_total, eq_by_cmp_equiv}
use Rattle.std.specs.FinMap as map
use Rattle.std.specs.FinMap.{FinMap, is_sorted, nat_cmp-IsAntisymmetric}
use Rattle.std.specs.FinMap.Entries.{below_all, same_entries, find-append}
use Rattle.sdbm_addr.specs.Pairs.{Pair}
use Rattle.sdbm_addr.specs.Database.{Database, IsDatabase, pairs_at}
use Rattle.sdbm_addr.specs.Files.{IsPageCount}
use Rattle.sdbm_addr.proofs.DatabaseLemmas.{same_number}

abbrev pub Pages : Type 0
Pages = FinMap nat_cmp (List Pair)

abbrev pub page_there : ℕ → Option (List Pair) → List (ℕ × List Pair)
page_there n None = []
page_there n (Some pairs) = (n, pairs) ∷ []

-- the pages with numbers below n, in order
abbrev pub pages_below : Pages → ℕ → List (ℕ × List Pair)
pages_below pages zero = []
pages_below pages (suc n) = pages_below pages n ++ page_there n (map.get pages n)

-- ---- look-ups among them

other_number : (n k : ℕ) → n ≢ k → eq_by_cmp nat_cmp n k ≡ false
other_number n k other = false_from_ne_true _ (λ t. other (same_number n k t))

-- a look-up with one more number
find_more : (es : List (ℕ × List Pair)) (n q : ℕ) (o : Option (List Pair)) → map.find nat_cmp n es ≡ None
    → map.find nat_cmp q (es ++ page_there n o) ≡ cond (eq_by_cmp nat_cmp q n) o (map.find nat_cmp q es)
find_more es n q (Some pairs) new = find-append nat_cmp nat_cmp_total es n pairs q new
find_more es n q None new = ap (map.find nat_cmp q) (append-nil es) ∙ at (eq_by_cmp nat_cmp q n) refl
  where
    at : (b : Bool) → eq_by_cmp nat_cmp q n ≡ b → map.find nat_cmp q es ≡ cond b None (map.find nat_cmp q es)
    at true t = ap (λ (k : ℕ). map.find nat_cmp k es) (same_number q n t) ∙ new
    at false t = refl

absent_above : (pages : Pages) (n q : ℕ) → n ≤ q → map.find nat_cmp q (pages_below pages n) ≡ None
absent_above pages zero q h = refl
absent_above pages (suc n) q h =
    find_more (pages_below pages n) n q (map.get pages n) (absent_above pages n n (omega arith))
    ∙ ap (λ b. cond b (map.get pages n) (map.find nat_cmp q (pages_below pages n))) (other_number q n (λ e. omega arith))
    ∙ absent_above pages n q (omega arith)

found_below : (pages : Pages) (n q : ℕ) → q < n → map.find nat_cmp q (pages_below pages n) ≡ map.get pages q
found_below pages zero q h = absurd (omega arith)
found_below pages (suc n) q h =
    find_more (pages_below pages n) n q (map.get pages n) (absent_above pages n n (omega arith)) ∙ at (cases_eq q n) (λ l. found_below pages n q l)
  where
    at : (q ≡ n) ⊎ (q ≢ n) → (q < n → map.find nat_cmp q (pages_below pages n) ≡ map.get pages q)
        → cond (eq_by_cmp nat_cmp q n) (map.get pages n) (map.find nat_cmp q (pages_below pages n)) ≡ map.get pages q
    at (inl same) before =
        ap (λ b. cond b (map.get pages n) (map.find nat_cmp q (pages_below pages n))) (ap (λ (k : ℕ). eq_by_cmp nat_cmp q k) (sym same) ∙ (eq_by_cmp_equiv nat_cmp_total).refl q)
        ∙ ap (map.get pages) (sym same)
    at (inr other) before =
        ap (λ b. cond b (map.get pages n) (map.find nat_cmp q (pages_below pages n))) (other_number q n other) ∙ before (omega arith)

-- ---- their order

rises : (x y : ℕ) → x < y → is_lt (nat_cmp x y) ≡ true
rises x y h = at (is_lt (nat_cmp x y)) refl
  where
    at : (b : Bool) → is_lt (nat_cmp x y) ≡ b → b ≡ true
    at true t = refl
    at false t = let above : y ≤ x = ge_from_not_lt x y t in absurd (omega arith)

abbrev AllBelow : ℕ → List (ℕ × List Pair) → Type 0
AllBelow n [] = Unit {0}
AllBelow n (e ∷ es) = (e.0 < n) × AllBelow n es

parts : (a b : Bool) → T (a && b) → (a ≡ true) × T b
parts true b t = (refl, t)
parts false b t = absurd t

both : (a b : Bool) → a ≡ true → T b → T (a && b)
both true b h t = t
both false b h t = absurd (true≢false (sym h))

below_all_push : (x n : ℕ) (pairs : List Pair) (es : List (ℕ × List Pair)) → T (below_all nat_cmp x es) → x < n → T (below_all nat_cmp x (es ++ (n, pairs) ∷ []))
below_all_push x n pairs [] low h = both _ _ (rises x n h) tt
below_all_push x n pairs (e ∷ es) low h =
    let two = parts (is_lt (nat_cmp x e.0)) (below_all nat_cmp x es) low in
    both _ _ two.0 (below_all_push x n pairs es two.1 h)

sorted_push : (n : ℕ) (pairs : List Pair) (es : List (ℕ × List Pair)) → T (is_sorted nat_cmp es) → AllBelow n es → T (is_sorted nat_cmp (es ++ (n, pairs) ∷ []))
sorted_push n pairs [] up low = tt
sorted_push n pairs (e ∷ es) up low =
    let two = and_parts (below_all nat_cmp e.0 es) (is_sorted nat_cmp es) up in
    and_both _ _ (below_all_push e.0 n pairs es two.0 low.0) (sorted_push n pairs es two.1 low.1)
  where
    and_parts : (a b : Bool) → T (a && b) → T a × T b
    and_parts true b t = (tt, t)
    and_parts false b t = absurd t

    and_both : (a b : Bool) → T a → T b → T (a && b)
    and_both true b s t = t
    and_both false b s t = absurd s

below_more : (n m : ℕ) (es : List (ℕ × List Pair)) → n ≤ m → AllBelow n es → AllBelow m es
below_more n m [] h low = tt
below_more n m (e ∷ es) h low = let here : e.0 < n = low.0 in (omega arith, below_more n m es h low.1)

below_push : (n m : ℕ) (pairs : List Pair) (es : List (ℕ × List Pair)) → n < m → AllBelow m es → AllBelow m (es ++ (n, pairs) ∷ [])
below_push n m pairs [] h low = (h, tt)
below_push n m pairs (e ∷ es) h low = (low.0, below_push n m pairs es h low.1)

-- the numbers ascend and are below n
record Rising (n : ℕ) (es : List (ℕ × List Pair)) : Type 0 where
  sorted : T (is_sorted nat_cmp es)
  low : AllBelow n es

rising_more : (n : ℕ) (es : List (ℕ × List Pair)) (o : Option (List Pair)) → Rising n es → Rising (suc n) (es ++ page_there n o)
rising_more n es None r = subst (Rising (suc n)) (sym (append-nil es)) (record { sorted = r.sorted; low = below_more n (suc n) es (omega arith) r.low })
rising_more n es (Some pairs) r = record {
  sorted = sorted_push n pairs es r.sorted r.low;
  low = below_push n (suc n) pairs es (omega arith) (below_more n (suc n) es (omega arith) r.low);
}

rising : (pages : Pages) (n : ℕ) → Rising n (pages_below pages n)
rising pages zero = record { sorted = tt; low = tt }
rising pages (suc n) = rising_more n (pages_below pages n) (map.get pages n) (rising pages n)

-- ---- all pages

none_past : (db : Database) → IsDatabase db → (n q : ℕ) → IsPageCount db n → n ≤ q → map.get db.pages q ≡ None
none_past db ok n q counted h = at (map.get db.pages q) refl
  where
    at : (o : Option (List Pair)) → map.get db.pages q ≡ o → o ≡ None
    at None is = refl
    at (Some pairs) is =
        let none : pairs ≡ [] = sym (ap (λ (x : Option (List Pair)). unwrap_or x []) is) ∙ counted.past q h in
        absurd ((ok.pages q pairs is).0 none)

pub all_below : (db : Database) → IsDatabase db → (n : ℕ) → IsPageCount db n → pages_below db.pages n ≡ map.entries db.pages
all_below db ok n counted =
    same_entries nat_cmp nat_cmp_total nat_cmp-IsAntisymmetric (pages_below db.pages n) (map.entries db.pages) (rising db.pages n).sorted (map.entries_sorted db.pages)
    (λ q. at q (cases_lt q n))
  where
    at : (q : ℕ) → (q < n) ⊎ (n ≤ q) → map.find nat_cmp q (pages_below db.pages n) ≡ map.find nat_cmp q (map.entries db.pages)
    at q (inl l) = found_below db.pages n q l ∙ map.get-entries db.pages q
    at q (inr l) = absent_above db.pages n q l ∙ sym (none_past db ok n q counted l) ∙ map.get-entries db.pages q

-- one more number
pub below_next : (pages : Pages) (n : ℕ) (o : Option (List Pair)) → map.get pages n ≡ o → pages_below pages (n + 1) ≡ pages_below pages n ++ page_there n o
below_next pages n o is = ap (pages_below pages) (add-one n) ∙ ap (λ (x : Option (List Pair)). pages_below pages n ++ page_there n x) is

-- n numbers have at most n pages
pub few_below : (pages : Pages) (n : ℕ) → length (pages_below pages n) ≤ n
few_below pages zero = omega arith
few_below pages (suc n) = at (map.get pages n) (few_below pages n)
  where
    at : (o : Option (List Pair)) → length (pages_below pages n) ≤ n → length (pages_below pages n ++ page_there n o) ≤ suc n
    at None h = rw (append-nil (pages_below pages n)) (omega arith)
    at (Some pairs) h = rw (length-append (pages_below pages n) ((n, pairs) ∷ [])) (omega arith)
