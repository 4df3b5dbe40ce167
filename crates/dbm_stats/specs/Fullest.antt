-- The fullest pages.
use Rattle.std.specs.Prelude.{◌≡◌, ℕ, ◌+◌, ◌-◌, ◌<◌, ◌≤◌, List, length, slice_index_or, take}
use Rattle.std.specs.List.Sorted.{IsPermutation, IsNonDecreasingBy}
use Rattle.sdbm_addr.specs.declared.PageSize.{PageSize}
use Rattle.sdbm_addr.specs.Pairs.{page_bytes}
use Rattle.dbm_stats.specs.declared.fullest.PageRoom.{PageRoom}
use Rattle.dbm_stats.specs.declared.totals.PageShape.{PageShape}

-- a page and its free bytes
abbrev pub room_on : PageSize → PageShape → PageRoom
room_on size s = record { number = s.number; free = page_bytes size - s.filled }

-- The first five pages in ascending order of free bytes. Of two pages with equally many free bytes, the lower page number comes first.
pub record AreFullest (rooms fullest : List PageRoom) : Type 0 where
  pub sorted : List PageRoom
  pub same : IsPermutation rooms sorted
  pub rising : IsNonDecreasingBy (λ (r : PageRoom). r.free) sorted
  pub ties : (k : ℕ) (d : PageRoom) → k + 1 < length sorted → (slice_index_or sorted k d).free ≡ (slice_index_or sorted (k + 1) d).free
      → (slice_index_or sorted k d).number ≤ (slice_index_or sorted (k + 1) d).number
  pub first : fullest ≡ take 5 sorted
