-- Pages that exist have pairs; pages that are missing and pages of zeros have none.
use Rattle.std.proofs.Common.{◌≡◌, ◌≢◌, ◌<◌, ℕ, List, [], length, get_or, replicate, Bor, true, false, Option, Some, None, is_some, unwrap_or, sym, ap, subst, ◌∙◌, refl, arith}
use Rattle.std.proofs.lemmas.List.{ext_get_or, get_or-replicate, length-replicate}
use Rattle.std.specs.Option.{option_map}
use Rattle.std.specs.FinMap as map
use Rattle.sdbm_addr.specs.declared.PageSize.{PageSize}
use Rattle.sdbm_addr.specs.declared.PageSize.TheVariants.{Small, Wide}
use Rattle.sdbm_addr.specs.Layout.{Spells, bytes_of_page, free_bytes}
use Rattle.sdbm_addr.specs.Pairs.{Pair, Content, page_bytes, IsPage}
use Rattle.sdbm_addr.specs.Database.{Database, IsDatabase, pairs_at}
use Rattle.sdbm_page.proofs.Spelled.{spelled_once}
use Rattle.sdbm_files.proofs.PutLemmas.{IsPage-pairs_at}
use Rattle.sdbm_files.proofs.WriteLemmas.{empty_page, long_page}

-- an existing page has pairs
pub pairs_there : (db : Database) → IsDatabase db → (n : ℕ) (page : Option (Bor Content)) → option_map (λ (p : Bor Content). p.now.pairs) page ≡ map.get db.pages n → is_some page ≡ true → pairs_at db n ≢ []
pairs_there db ok n None is there none = let clash : false ≡ true = there in cc
pairs_there db ok n (Some page) is there none =
    let same : pairs_at db n ≡ page.now.pairs = ap (λ (o : Option (List Pair)). unwrap_or o []) (sym is) in
    (ok.pages n page.now.pairs (sym is)).0 (sym same ∙ none)

-- a missing page has no pairs
pub pairs_nowhere : (db : Database) (n : ℕ) (page : Option (Bor Content)) → option_map (λ (p : Bor Content). p.now.pairs) page ≡ map.get db.pages n → is_some page ≡ false → pairs_at db n ≡ []
pairs_nowhere db n None is missing = ap (λ (o : Option (List Pair)). unwrap_or o []) (sym is)
pairs_nowhere db n (Some page) is missing = let clash : true ≡ false = missing in cc

bare_page : (size : PageSize) → IsPage size []
bare_page Small = record { distinct = tt; laid = record { fits = omega arith; small = tt } }
bare_page Wide = record { distinct = tt; laid = record { fits = omega arith; small = tt } }

-- zeros spell the page without pairs
pub zeros_spell : (size : PageSize) → Spells size (bytes_of_page size []) []
unfolding bytes_of_page
zeros_spell size = record {
  free = replicate (free_bytes size []) 0;
  is = refl;
  long = ap (λ (l : List ℕ). length l) (empty_page size) ∙ length-replicate (page_bytes size) 0;
  page = bare_page size;
}

own_spells : (db : Database) → IsDatabase db → (n : ℕ) → Spells db.size (bytes_of_page db.size (pairs_at db n)) (pairs_at db n)
unfolding bytes_of_page
own_spells db ok n = record { free = replicate (free_bytes db.size (pairs_at db n)) 0; is = refl; long = long_page db ok n; page = IsPage-pairs_at db ok n }

-- a page whose bytes are zeros has no pairs
pub zeros_alone : (db : Database) → IsDatabase db → (n : ℕ) → ((i : ℕ) → i < page_bytes db.size → get_or (bytes_of_page db.size (pairs_at db n)) i 0 ≡ 0) → pairs_at db n ≡ []
zeros_alone db ok n zeros =
    let own = bytes_of_page db.size (pairs_at db n) in
    let bare = bytes_of_page db.size [] in
    let same : own ≡ bare =
    ext_get_or 0 own bare (long_page db ok n ∙ sym (zeros_spell db.size).long) (λ i below.
    let inside : i < page_bytes db.size = omega (arith, below, long_page db ok n) in
    zeros i inside ∙ sym (ap (λ (l : List ℕ). get_or l i 0) (empty_page db.size) ∙ get_or-replicate (page_bytes db.size) i 0 0 inside)) in
    spelled_once db.size own (pairs_at db n) [] (own_spells db ok n) (subst (λ (l : List ℕ). Spells db.size l []) (sym same) (zeros_spell db.size))
