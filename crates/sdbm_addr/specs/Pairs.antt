-- Pairs of a key and a value, and the lists of pairs that fit on a page (Yigit, sdbm 1990: pair.c).
use Rattle.std.specs.Prelude.{◌≡◌, ℕ, ◌+◌, ◌<◌, ◌≤◌, Bool, slice_index_or, List, [], ◌∷◌, ◌++◌, length, not, Option, Some, None}
use Rattle.std.specs.List.{sum_by, filter}
use Rattle.std.specs.Ordering.{nat_cmp, eq_by_cmp}
use Rattle.std.specs.declared.cmp.Ordering.{Ordering}
use Rattle.std.specs.Cmp.Lexicographic.{slice_cmp}
use Rattle.std.specs.FinMap.{FinMap, find}
use Rattle.sdbm_addr.specs.declared.PageSize.{PageSize}
use Rattle.sdbm_addr.specs.declared.PageSize.TheVariants.{Small, Wide}

-- a key and its value
abbrev pub Pair : Type 0
Pair = List ℕ × List ℕ

-- the order of keys by their bytes
abbrev pub key_cmp : List ℕ → List ℕ → Ordering
key_cmp = slice_cmp nat_cmp

-- a finite map from keys to values
abbrev pub Map : Type 0
Map = FinMap key_cmp (List ℕ)

abbrev pub same_key : List ℕ → List ℕ → Bool
same_key = eq_by_cmp key_cmp

-- the value of the first pair with the key
abbrev pub value_of : List Pair → List ℕ → Option (List ℕ)
value_of pairs key = find key_cmp key pairs

-- the keys are pairwise distinct
abbrev pub HasDistinctKeys : List Pair → Type 0
HasDistinctKeys [] = Unit {0}
HasDistinctKeys (e ∷ es) = (value_of es e.0 ≡ None) × HasDistinctKeys es

-- the space of a pair on a page: its bytes, and two offsets of two bytes
abbrev pub footprint : Pair → ℕ
footprint e = length e.0 + length e.1 + 4

-- the page size in bytes: the original's 1,024 (`PBLKSIZ`), or 8,192
abbrev pub page_bytes : PageSize → ℕ
page_bytes Small = 1024
page_bytes Wide = 8192

-- the greatest length of a pair in bytes: the original's 1,008 (`PAIRMAX`), or 8,008
abbrev pub pair_limit : PageSize → ℕ
pair_limit Small = 1008
pair_limit Wide = 8008

-- the greatest number of offsets on a page, two for each pair
abbrev pub offset_limit : PageSize → ℕ
offset_limit Small = 510
offset_limit Wide = 4094

-- the pairs and the number of offsets fit on a page (pair.c, `fitpair`); no free byte has to be left
abbrev pub Fits : PageSize → List Pair → Type 0
Fits size pairs = sum_by footprint pairs + 2 ≤ page_bytes size

-- every pair is at most `pair_limit` bytes long
abbrev pub AreSmall : PageSize → List Pair → Type 0
AreSmall size [] = Unit {0}
AreSmall size (e ∷ es) = (length e.0 + length e.1 ≤ pair_limit size) × AreSmall size es

-- pairs that fit on a page, each within the length limit; their keys may be equal
pub record IsLaid (size : PageSize) (pairs : List Pair) : Type 0 where
  pub fits : Fits size pairs
  pub small : AreSmall size pairs

-- valid contents of a page: the pairs fit and have distinct keys
pub record IsPage (size : PageSize) (pairs : List Pair) : Type 0 where
  pub distinct : HasDistinctKeys pairs
  pub laid : IsLaid size pairs

-- the model of a page
pub record Content : Type 0 where
  pub size : PageSize
  pub pairs : List Pair

-- a page's content with a pair added at the end
abbrev pub with_pair : Content → List ℕ → List ℕ → Content
with_pair content key value = record { size = content.size; pairs = content.pairs ++ (key, value) ∷ [] }

-- the pairs except those with the key, in the same order
abbrev pub without : List ℕ → List Pair → List Pair
without key = filter (λ e. not (same_key key e.0))

-- the pairs with other keys, followed by the new pair
abbrev pub stored : List Pair → List ℕ → List ℕ → List Pair
stored pairs key value = without key pairs ++ (key, value) ∷ []

abbrev pub key_at : List Pair → ℕ → List ℕ
key_at pairs i = (slice_index_or pairs i ([], [])).0

abbrev pub value_at : List Pair → ℕ → List ℕ
value_at pairs i = (slice_index_or pairs i ([], [])).1

-- pair i has the key, and also the value that a lookup of the key returns
pub record IsPlace (pairs : List Pair) (key : List ℕ) (i : ℕ) : Type 0 where
  pub in_range : i < length pairs
  pub has_key : key_at pairs i ≡ key
  pub has_value : value_of pairs key ≡ Some (value_at pairs i)
