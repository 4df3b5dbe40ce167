-- Databases within the longest `.pag`: they stay within it, a file that was read is within it, and the length of their file.
use Rattle.std.proofs.Common.{◌≡◌, ◌≢◌, ℕ, ◌-◌, ◌*◌, ◌<◌, ◌≤◌, ◌&&◌, ◌||◌, nat_lt, List, [], ◌∷◌, length, Bool, true, false, cond, unwrap_or, refl, sym, ap, ◌∙◌, subst, arith, eqb, inl, inr}
use Rattle.std.proofs.lemmas.Bool.{eqb-true, cases_lt}
use Rattle.std.specs.List.{list_all}
use Rattle.std.specs.Ordering.{nat_cmp}
use Rattle.std.specs.FinMap as map
use Rattle.std.specs.FinMap.{FinMap}
use Rattle.sdbm_addr.specs.declared.PageSize.{PageSize}
use Rattle.sdbm_addr.specs.declared.PageSize.TheVariants.{Small, Wide}
use Rattle.sdbm_addr.specs.Pairs.{Pair, Content, page_bytes}
use Rattle.sdbm_addr.specs.Database.{Database, IsDatabase, pairs_at, put_page}
use Rattle.sdbm_addr.specs.Files.{SpellsDatabase, ArePagBytes, IsPageCount}
use Rattle.sdbm_files.specs.Installed.{installed, put_all}
use Rattle.sdbm_files.specs.Limits.{pag_limit, most_pages, FitsFiles, is_bare, has_place}
use Rattle.sdbm_files.proofs.PutLemmas.{pairs-put_page}
use Rattle.sdbm_files.proofs.WriteLemmas.{length-first_pages}

-- a number is below another if the test says so
below : (n m : ℕ) → nat_lt n m ≡ true → n < m
below n m t = grind arith

-- ---- replaced pages

-- each page that has pairs has a number below the bound
abbrev AreBelow : ℕ → FinMap nat_cmp (List Pair) → Type 0
AreBelow most pages = (n : ℕ) → unwrap_or (map.get pages n) [] ≢ [] → n < most

placed : (most n : ℕ) (pairs : List Pair) → (is_bare pairs || nat_lt n most) ≡ true → pairs ≢ [] → n < most
placed most n [] t some = absurd (some refl)
placed most n (e ∷ es) t some = below n most t

put_below : (most : ℕ) (pages : FinMap nat_cmp (List Pair)) (k : ℕ) (pairs : List Pair) → (is_bare pairs || nat_lt k most) ≡ true → AreBelow most pages → AreBelow most (put_page pages k pairs)
put_below most pages k pairs place all n some = at (eqb n k) refl (subst (λ (ps : List Pair). ps ≢ []) (pairs-put_page pages k pairs n) some)
  where
    at : (b : Bool) → eqb n k ≡ b → cond b pairs (unwrap_or (map.get pages n) []) ≢ [] → n < most
    at true t here = subst (λ (i : ℕ). i < most) (sym (eqb-true n k t)) (placed most k pairs place here)
    at false t there = all n there

pub both : (p q : Bool) → (p && q) ≡ true → (p ≡ true) × (q ≡ true)
both true q t = (refl, t)
both false q t = let no : false ≡ true = t in absurd (cc)

all_below : (size : PageSize) (pages : FinMap nat_cmp (List Pair)) (es : List (ℕ × Content)) → list_all (has_place size) es ≡ true → AreBelow (most_pages size) pages → AreBelow (most_pages size) (put_all pages es)
all_below size pages [] t all = all
all_below size pages (e ∷ es) t all =
    let parts = both (has_place size e) (list_all (has_place size) es) t in
    all_below size (put_page pages e.0 e.1.pairs) es parts.1 (put_below (most_pages size) pages e.0 e.1.pairs parts.0 all)

-- a plan whose pages fit into the file
pub FitsFiles-installed : (db : Database) (number : ℕ) (leaf : Content) (twins : List (ℕ × Content)) (bits : List ℕ) → has_place db.size (number, leaf) ≡ true → list_all (has_place db.size) twins ≡ true
    → FitsFiles db → FitsFiles (installed db number leaf twins bits)
FitsFiles-installed db number leaf twins bits here there fits =
    all_below db.size (put_page db.pages number leaf.pairs) twins there (put_below (most_pages db.size) db.pages number leaf.pairs here fits)

-- a plan without splits for a page that has pairs adds no page
pub fills_none : (db : Database) (number : ℕ) (leaf : Content) → pairs_at db number ≢ [] → (n : ℕ) → pairs_at db n ≡ [] → pairs_at (installed db number leaf [] []) n ≡ []
fills_none db number leaf some n none = pairs-put_page db.pages number leaf.pairs n ∙ at (eqb n number) refl
  where
    at : (b : Bool) → eqb n number ≡ b → cond b leaf.pairs (pairs_at db n) ≡ []
    at true t = absurd (some (ap (pairs_at db) (sym (eqb-true n number t)) ∙ none))
    at false t = none

-- ---- files

few_pages : (size : PageSize) (count : ℕ) → count * page_bytes size ≤ pag_limit → count ≤ most_pages size
few_pages Small count h = omega arith
few_pages Wide count h = omega arith

pages_short : (size : PageSize) (count : ℕ) → count ≤ most_pages size → count * page_bytes size ≤ pag_limit
pages_short Small count h = omega arith
pages_short Wide count h = omega arith

-- a database whose `.pag` is within the limit fits
pub FitsFiles-spelled : (db : Database) (dir pag : List ℕ) → SpellsDatabase db dir pag → length pag ≤ pag_limit → FitsFiles db
FitsFiles-spelled db dir pag spells short n some = elim (cases_lt n spells.count) as (λ _. n < most_pages db.size) [
  | inl inside ↦
      let few : spells.count ≤ most_pages db.size = few_pages db.size spells.count (subst (λ (l : ℕ). l ≤ pag_limit) spells.pages.long short) in
      omega (arith, few, inside)
  | inr past ↦ absurd (some (spells.pages.past n past))
]

few_counted : (db : Database) (count : ℕ) → IsPageCount db count → FitsFiles db → count ≤ most_pages db.size
few_counted db count counted fits = elim (cases_lt 0 count) as (λ _. count ≤ most_pages db.size) [
  | inl some ↦ let last : count - 1 < most_pages db.size = fits (count - 1) (counted.last some) in omega (arith, last, some)
  | inr none ↦ omega (arith, none)
]

-- the `.pag` of a database that fits is within the limit
pub short_fitting : (db : Database) → IsDatabase db → (pag : List ℕ) → ArePagBytes db pag → FitsFiles db → length pag ≤ pag_limit
short_fitting db ok pag are fits =
    subst (λ (l : ℕ). l ≤ pag_limit) (sym (ap length are.is ∙ length-first_pages db ok are.count)) (pages_short db.size are.count (few_counted db are.count are.counted fits))
