-- Statistics of a database.
use Rattle.std.specs.Prelude.{◌≡◌, ℕ, ◌+◌, ◌==◌, List, length, map as map_list}
use Rattle.std.specs.List.{count_by, range_with_len}
use Rattle.std.specs.FinMap as map
use Rattle.std.specs.FinSet as set
use Rattle.sdbm_addr.specs.Pairs.{Pair}
use Rattle.sdbm_addr.specs.Database.{Database, pairs_of}
use Rattle.sdbm_addr.specs.DirectoryFile.{AreDirectoryBytes}
use Rattle.sdbm_addr.specs.Files.{IsPageCount, ArePagBytes}
use Rattle.sdbm_files.specs.Widened.{widened}
use Rattle.dbm_stats.specs.Totals.{totals_of}
use Rattle.dbm_stats.specs.Shapes.{filled, tenth, page_depth, shape_of}
use Rattle.dbm_stats.specs.Depths.{depths_of}
use Rattle.dbm_stats.specs.Fullest.{AreFullest, room_on}
use Rattle.dbm_stats.specs.declared.stats.Stats.{Stats}

-- the pages that have pairs, each with its number, in the order of their numbers
abbrev pub used_pages : Database → List (ℕ × List Pair)
used_pages db = map.entries db.pages

-- the number of pages that are filled to each tenth
abbrev pub fill_bars : Database → List ℕ
fill_bars db = map_list (λ i. count_by (λ (e : ℕ × List Pair). tenth db.size (filled e.1) == i) (used_pages db)) (range_with_len 0 10)

pub record AreStats {A : Type 0} (db : Database) (s : Stats A) : Type 0 where
  pub pairs : s.pairs ≡ totals_of (pairs_of db)
  pub used : s.used ≡ map.len db.pages
  -- the pages with pairs and the holes are all pages of `.pag`
  pub holes : IsPageCount db (s.used + s.holes)
  pub dir_bytes : (dir : List ℕ) → AreDirectoryBytes db.splits dir → s.dir_bytes ≡ length dir
  pub pag_bytes : (pag : List ℕ) → ArePagBytes db pag → s.pag_bytes ≡ length pag
  pub wide_bytes : (pag : List ℕ) → ArePagBytes (widened db) pag → s.wide_bytes ≡ length pag
  pub bars : s.bars.items ≡ fill_bars db
  pub fullest : AreFullest (map_list (λ (e : ℕ × List Pair). room_on db.size (shape_of db e)) (used_pages db)) s.fullest.items
  pub splits : s.splits ≡ set.len db.splits
  pub depths : s.depths ≡ depths_of (map_list (λ (e : ℕ × List Pair). page_depth db e.0) (used_pages db))
