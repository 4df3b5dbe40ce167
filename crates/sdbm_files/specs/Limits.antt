-- The greatest length of a `.pag` that is read or written (our own rule), and the databases whose `.pag` is within this length.
use Rattle.std.specs.Prelude.{◌≢◌, ◌<◌, ◌||◌, ℕ, Bool, true, false, nat_lt, List, [], ◌∷◌}
use Rattle.sdbm_addr.specs.declared.PageSize.{PageSize}
use Rattle.sdbm_addr.specs.declared.PageSize.TheVariants.{Small, Wide}
use Rattle.sdbm_addr.specs.Pairs.{Pair, Content}
use Rattle.sdbm_addr.specs.Database.{Database, pairs_at}

-- the greatest length of a `.pag` in bytes: 1 GiB
abbrev pub pag_limit : ℕ
pag_limit = 1073741824

-- the number of pages in the longest `.pag`
abbrev pub most_pages : PageSize → ℕ
most_pages Small = 1048576
most_pages Wide = 131072

-- each page that has pairs ends within the longest `.pag`
abbrev pub FitsFiles : Database → Type 0
FitsFiles db = (n : ℕ) → pairs_at db n ≢ [] → n < most_pages db.size

abbrev pub is_bare : List Pair → Bool
is_bare [] = true
is_bare (e ∷ es) = false

-- page e.0 ends within the longest `.pag`, or it has no pairs and needs no space in the file
abbrev pub has_place : PageSize → ℕ × Content → Bool
has_place size e = is_bare e.1.pairs || nat_lt e.0 (most_pages size)
