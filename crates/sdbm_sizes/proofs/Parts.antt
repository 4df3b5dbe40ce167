-- Wide pages that look small.
use Rattle.std.proofs.Common.{◌≡◌, ℕ, ◌+◌, ◌*◌, ◌-◌, ◌<◌, ◌≤◌, ◌↔◌, List, length, take, drop, Bool, false, IsTrue, Result, IfOk, inl, inr, sym, ap, ◌∙◌, subst, arith}
use Rattle.std.proofs.lemmas.Bool.{cases_lt, false≢true}
use Rattle.std.proofs.lemmas.Result.{IfOk-weaker}
use Rattle.std.proofs.lemmas.List.{take-take}
use Rattle.sdbm_addr.specs.declared.KeyBytes.{KeyBytes}
use Rattle.sdbm_addr.specs.declared.PageSize.{PageSize}
use Rattle.sdbm_addr.specs.declared.PageSize.TheVariants.{Small, Wide}
use Rattle.sdbm_addr.specs.Layout.{Spells}
use Rattle.sdbm_addr.specs.Pairs.{page_bytes}
use Rattle.sdbm_addr.specs.Database.{Database, pairs_at}
use Rattle.sdbm_addr.specs.Files.{page_at, SpellsDatabase}
use Rattle.sdbm_page.specs.Faults.{SpellsNone}
use Rattle.sdbm_files.specs.Limits.{most_pages, pag_limit}
use Rattle.sdbm_files.specs.Opened.{SpellsNoPart}
use Rattle.sdbm_sizes.specs.Sizes.{IsWritten, IsSmallPart, LooksSmall, IsFirstWritten, FileLooksSmall, SpellsNoSmall}

pub no_part : (kind : KeyBytes) (dir : List ℕ) (n : ℕ) (bytes : List ℕ) → SpellsNoPart kind Small dir n bytes → IsSmallPart kind dir n bytes → ⊥
no_part kind dir n bytes none part = none part.db part.kind_is part.size_is part.database part.directory part.page

pub no_page : (kind : KeyBytes) (dir : List ℕ) (n : ℕ) (bytes : List ℕ) → SpellsNone Small bytes → IsSmallPart kind dir n bytes → ⊥
no_page kind dir n bytes none part = none (pairs_at part.db n) part.page

-- small page 8 n is the start of wide page n
first_part : (pag : List ℕ) (n : ℕ) → page_at Small pag (8 * n) ≡ take 1024 (page_at Wide pag n)
first_part pag n =
    let rest = drop (n * 8192) pag in
    let first : (8 * n + 1) * 1024 - 8 * n * 1024 ≡ 1024 = omega arith in
    let start : 8 * n * 1024 ≡ n * 8192 = omega arith in
    let whole : (n + 1) * 8192 - n * 8192 ≡ 8192 = omega arith in
    ap (λ (k : ℕ). take k (drop (8 * n * 1024) pag)) first ∙ ap (λ (k : ℕ). take 1024 (drop k pag)) start
    ∙ sym (take-take 1024 8192 rest (omega arith)) ∙ sym (ap (λ (k : ℕ). take 1024 (take k rest)) whole)

-- a wide page of a database of small pages looks small, unless it is all zeros
pub small_looks : (kind : KeyBytes) (dir pag : List ℕ) (db : Database) → db.kind ≡ kind → db.size ≡ Small → SpellsDatabase db dir pag
    → (n : ℕ) → (n + 1) * 8192 ≤ length pag → IsWritten (page_at Wide pag n) → LooksSmall kind dir n (page_at Wide pag n)
small_looks kind dir pag db kind_is size_is spells n inside written =
    let long : length pag ≡ spells.count * 1024 = spells.pages.long ∙ ap (λ (size : PageSize). spells.count * page_bytes size) size_is in
    let below : 8 * n < spells.count = omega arith in
    record {
      written = written;
      part = record {
        db = db;
        kind_is = kind_is;
        size_is = size_is;
        database = spells.database;
        directory = spells.directory;
        page = subst (λ (bytes : List ℕ). Spells Small bytes (pairs_at db (8 * n))) (first_part pag n)
            (subst (λ (size : PageSize). Spells size (page_at size pag (8 * n)) (pairs_at db (8 * n))) size_is (spells.pages.pages (8 * n) below));
      };
    }

same_first : (pag : List ℕ) (n m : ℕ) → IsFirstWritten pag n → IsFirstWritten pag m → n ≡ m
same_first pag n m a b = elim (cases_lt n m) [
  | inl l ↦ absurd (b.below n l a.written)
  | inr l ↦ elim (cases_lt m n) [
    | inl k ↦ absurd (a.below m k b.written)
    | inr k ↦ omega arith
  ]
]

-- the first wide page that is not all zeros decides the result
pub decides : (kind : KeyBytes) (dir pag : List ℕ) (n : ℕ) → IsFirstWritten pag n → LooksSmall kind dir n (page_at Wide pag n) ↔ FileLooksSmall kind dir pag
decides kind dir pag n first = (
  λ looks. record { n = n; first = first; looks = looks },
  λ file. subst (λ (k : ℕ). LooksSmall kind dir k (page_at Wide pag k)) (same_first pag file.n n file.first first) file.looks,
)

pub none_small : (kind : KeyBytes) (dir pag : List ℕ) (n : ℕ) → IsFirstWritten pag n → (LooksSmall kind dir n (page_at Wide pag n) → ⊥) → SpellsNoSmall kind dir pag
none_small kind dir pag n first looks db kind_is size_is spells short k inside written =
    looks (small_looks kind dir pag db kind_is size_is spells n first.inside first.written)

-- if every page is all zeros, there is no first written page
pub none_first : (kind : KeyBytes) (dir pag : List ℕ) (count : ℕ) → ((k : ℕ) → k < count → IsWritten (page_at Wide pag k) → ⊥) → (length pag ≤ pag_limit → length pag < (count + 1) * 8192) → SpellsNoSmall kind dir pag
none_first kind dir pag count zeros all db kind_is size_is spells short k inside written =
    let past = all short in zeros k (omega arith) written

module _ {E : Type 0} (kind : KeyBytes) (dir pag : List ℕ) (n : ℕ) (first : IsFirstWritten pag n) (r : Result Bool E) where
  pub first_says : IfOk r (λ small. IsTrue small ↔ LooksSmall kind dir n (page_at Wide pag n)) → IfOk r (λ small. IsTrue small ↔ FileLooksSmall kind dir pag)
  first_says = IfOk-weaker r (λ small. IsTrue small ↔ LooksSmall kind dir n (page_at Wide pag n)) (λ small. IsTrue small ↔ FileLooksSmall kind dir pag)
      (λ small is. (λ t. (decides kind dir pag n first).0 (is.0 t), λ file. is.1 ((decides kind dir pag n first).1 file)))

  pub first_denies : IfOk r (λ small. IsTrue small ↔ LooksSmall kind dir n (page_at Wide pag n)) → IfOk r (λ small. small ≡ false → SpellsNoSmall kind dir pag)
  first_denies = IfOk-weaker r (λ small. IsTrue small ↔ LooksSmall kind dir n (page_at Wide pag n)) (λ small. small ≡ false → SpellsNoSmall kind dir pag)
      (λ small is no. none_small kind dir pag n first (λ looks. false≢true (sym no ∙ is.1 looks)))

-- if every page is all zeros, the file does not look small
pub none_looks : (kind : KeyBytes) (dir pag : List ℕ) (count : ℕ) → ((k : ℕ) → k < count → IsWritten (page_at Wide pag k) → ⊥) → (count < most_pages Wide → length pag < (count + 1) * 8192) → FileLooksSmall kind dir pag → ⊥
none_looks kind dir pag count zeros all file =
    elim (cases_lt file.n count) [
      | inl l ↦ zeros file.n l file.first.written
      | inr l ↦ (let low = file.first.low in let inside = file.first.inside in let most = all (omega arith) in omega arith)
    ]
