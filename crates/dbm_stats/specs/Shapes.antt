-- Measures of pages.
use Rattle.std.specs.Prelude.{ℕ, ◌+◌, ◌*◌, ◌/◌, min, List}
use Rattle.std.specs.List.{sum_by}
use Rattle.sdbm_addr.specs.declared.PageSize.{PageSize}
use Rattle.sdbm_addr.specs.Directory.{depth_of}
use Rattle.sdbm_addr.specs.Pairs.{Pair, footprint, page_bytes}
use Rattle.sdbm_addr.specs.Database.{Database}
use Rattle.dbm_stats.specs.Totals.{totals_of}
use Rattle.dbm_stats.specs.declared.totals.PageShape.{PageShape}

-- the number of bytes of a page that are not free: those of the pairs, of their offsets, and of the count of offsets
abbrev pub filled : List Pair → ℕ
filled pairs = sum_by footprint pairs + 2

-- the tenth, from 0 to 9, to which a page is filled; a full page is in the last one
abbrev pub tenth : PageSize → ℕ → ℕ
tenth size bytes = min (10 * bytes / page_bytes size) 9

-- The number of hash bits that lead to page n, if the page has pairs. The number n is itself a hash that leads to page n.
abbrev pub page_depth : Database → ℕ → ℕ
page_depth db n = depth_of db.splits n

abbrev pub shape_of : Database → ℕ × List Pair → PageShape
shape_of db e = record { number = e.0; depth = page_depth db e.0; filled = filled e.1; totals = totals_of e.1 }
