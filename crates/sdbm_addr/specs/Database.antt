-- A database (its key hashing, page size, split prefixes, and the pairs of each page), and the map that it represents.
use Rattle.std.specs.Prelude.{◌≡◌, ◌≢◌, ℕ, Bool, true, false, List, [], ◌∷◌, Some, None, unwrap_or, refl}
use Rattle.std.specs.List.{flat_map}
use Rattle.std.specs.Ordering.{nat_cmp}
use Rattle.std.specs.Coded.{Coded, code_by, coded×, coded_ℕ, coded_list, coded_bool}
use Rattle.std.specs.FinMap as map
use Rattle.std.specs.FinMap.{FinMap}
use Rattle.std.specs.FinSet as set
use Rattle.sdbm_addr.specs.declared.KeyBytes.{KeyBytes}
use Rattle.sdbm_addr.specs.declared.KeyBytes.TheVariants.{Signed, Unsigned}
use Rattle.sdbm_addr.specs.declared.PageSize.{PageSize}
use Rattle.sdbm_addr.specs.declared.PageSize.TheVariants.{Small, Wide}
use Rattle.sdbm_addr.specs.Hash.{hash_of}
use Rattle.sdbm_addr.specs.Directory.{Splits, IsDirectory, page_of}
use Rattle.sdbm_addr.specs.Pairs.{Pair, Map, value_of, IsPage}

pub record Database : Type 0 where
  pub kind : KeyBytes
  pub size : PageSize
  pub splits : Splits
  -- the pages that have pairs, by number
  pub pages : FinMap nat_cmp (List Pair)

-- the pairs of page n; a page that does not exist has no pairs
abbrev pub pairs_at : Database → ℕ → List Pair
pairs_at db n = unwrap_or (map.get db.pages n) []

-- A valid database: its directory is valid, each listed page is valid and has pairs, and each key is on the page that its hash leads to.
pub record IsDatabase (db : Database) : Type 0 where
  pub directory : IsDirectory db.splits
  pub pages : (n : ℕ) (pairs : List Pair) → map.get db.pages n ≡ Some pairs → (pairs ≢ []) × IsPage db.size pairs
  pub placed : (n : ℕ) (key : List ℕ) → value_of (pairs_at db n) key ≢ None → page_of db.splits (hash_of db.kind key) ≡ n

-- all pairs of a database, page by page
abbrev pub pairs_of : Database → List Pair
pairs_of db = flat_map (λ (e : ℕ × List Pair). e.1) (map.entries db.pages)

abbrev pub map_of : Database → Map
map_of db = map.from_entries (pairs_of db)

unfoldable pub empty_database : KeyBytes → PageSize → Database
empty_database kind size = record { kind = kind; size = size; splits = set.empty; pages = map.empty }

-- the result of replacing the pairs of page n; an empty list removes page n
abbrev pub put_page : FinMap nat_cmp (List Pair) → ℕ → List Pair → FinMap nat_cmp (List Pair)
put_page pages n [] = map.remove pages n
put_page pages n (e ∷ es) = map.insert pages n (e ∷ es)

abbrev pub with_page : Database → ℕ → List Pair → Database
with_page db n pairs = record { kind = db.kind; size = db.size; splits = db.splits; pages = put_page db.pages n pairs }

-- Encodings, which `Database` needs as the value type of a model.

abbrev pub is_signed : KeyBytes → Bool
is_signed Signed = true
is_signed Unsigned = false

abbrev pub from_signed : Bool → KeyBytes
from_signed true = Signed
from_signed false = Unsigned

pub from_signed-is_signed : (k : KeyBytes) → from_signed (is_signed k) ≡ k
from_signed-is_signed Signed = refl
from_signed-is_signed Unsigned = refl

abbrev pub is_wide : PageSize → Bool
is_wide Small = false
is_wide Wide = true

abbrev pub from_wide : Bool → PageSize
from_wide true = Wide
from_wide false = Small

pub from_wide-is_wide : (s : PageSize) → from_wide (is_wide s) ≡ s
from_wide-is_wide Small = refl
from_wide-is_wide Wide = refl

abbrev pub coded_kind : Coded KeyBytes
coded_kind = code_by Bool coded_bool is_signed from_signed from_signed-is_signed

abbrev pub coded_size : Coded PageSize
coded_size = code_by Bool coded_bool is_wide from_wide from_wide-is_wide

abbrev pub coded_bytes : Coded (List ℕ)
coded_bytes = coded_list coded_ℕ

abbrev pub coded_pairs : Coded (List Pair)
coded_pairs = coded_list (coded× coded_bytes coded_bytes)

abbrev pub coded_database : Coded Database
coded_database =
    code_by (KeyBytes × (PageSize × (Splits × FinMap nat_cmp (List Pair))))
    (coded× coded_kind (coded× coded_size (coded× (set.code (coded_list coded_bool)) (map.code coded_ℕ coded_pairs))))
    (λ d. (d.kind, (d.size, (d.splits, d.pages))))
    (λ p. record { kind = p.0; size = p.1.0; splits = p.1.1.0; pages = p.1.1.1 })
    (λ _. refl)
