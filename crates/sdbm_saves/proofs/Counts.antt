-- The number of pages of a file, from its length and the pages that may have changed.
use Rattle.std.proofs.Common.{◌≡◌, ◌≢◌, ℕ, ◌+◌, ◌*◌, ◌-◌, ◌<◌, ◌≤◌, List, [], ◌∷◌, length, get_or, refl, sym, ◌∙◌, subst, arith}
use Rattle.std.specs.Prelude.{Contains}
use Rattle.std.proofs.lemmas.List.{get_or_past}
use Rattle.sdbm_addr.specs.declared.PageSize.{PageSize}
use Rattle.sdbm_addr.specs.declared.PageSize.TheVariants.{Small, Wide}
use Rattle.sdbm_addr.specs.Pairs.{Pair, page_bytes}
use Rattle.sdbm_addr.specs.Database.{Database, IsDatabase, pairs_at}
use Rattle.sdbm_addr.specs.Files.{IsPageCount}
use Rattle.sdbm_files.proofs.SomePages.{zeros_alone}
use Rattle.sdbm_saves.specs.declared.marked.Marked.{Marked}
use Rattle.sdbm_saves.specs.Parts.{IsMarkedIn}

pub past_end : (size : PageSize) (long count n i : ℕ) → long ≡ count * page_bytes size → count ≤ n → long ≤ n * page_bytes size + i
past_end Small long count n i is le = omega (arith, is, le)
past_end Wide long count n i is le = omega (arith, is, le)

-- The old file has `pages` pages. All listed pages with pairs are below `count`, and the page before `count` has pairs.
pub counted_marked : (old : Marked) (db : Database) (pag : List ℕ) → IsDatabase db → IsMarkedIn old db pag → (pages count : ℕ) → old.len ≡ pages * page_bytes db.size → pages ≤ count → pairs_at db (count - 1) ≢ []
    → ((k d : ℕ) → k < length old.numbers.now → pairs_at db (get_or old.numbers.now k d) ≢ [] → get_or old.numbers.now k d < count) → IsPageCount db count
counted_marked old db pag ok marked pages count whole least last below = record { past = λ k le. past k le (pairs_at db k) refl; last = λ _. last }
  where
    past : (k : ℕ) → count ≤ k → (pairs : List Pair) → pairs_at db k ≡ pairs → pairs_at db k ≡ []
    past k le [] is = is
    past k le (pair ∷ pairs) is = zeros_alone db ok k (λ i inside.
        sym (marked.rest k unlisted i inside) ∙ get_or_past pag (k * page_bytes db.size + i) 0 (past_end db.size (length pag) pages k i (marked.long ∙ whole) (omega (arith, least, le))))
      where
        some : pairs_at db k ≢ []
        some none = let clash : pair ∷ pairs ≡ [] = sym is ∙ none in cc

        unlisted : Contains old.numbers.now k → ⊥
        unlisted one =
            let here : get_or old.numbers.now one.0 k ≡ k = one.2 in
            let low : get_or old.numbers.now one.0 k < count = below one.0 k one.1 (subst (λ (n : ℕ). pairs_at db n ≢ []) (sym here) some) in
            omega (arith, low, here, le)
