-- The limit up to which `.pag` may grow (own): the greatest length that can be written, or a lower one.
use Rattle.std.specs.Prelude.{◌≡◌, ◌≢◌, ◌<◌, ◌&&◌, ◌||◌, ℕ, nat_lt, Bool, true, false, cond, List, [], length, Option, Some, None}
use Rattle.std.specs.List.{list_all}
use Rattle.std.specs.declared.alloc.Global.{Global}
use Rattle.sdbm_addr.specs.declared.PageSize.{PageSize}
use Rattle.sdbm_addr.specs.Pairs.{Pair, Content}
use Rattle.sdbm_addr.specs.Database.{Database, pairs_at}
use Rattle.sdbm_dir.specs.declared.Place.{Place}
use Rattle.sdbm_split.specs.Planned.{PageChange}
use Rattle.sdbm_files.specs.Limits.{most_pages, is_bare}
use Rattle.store_cmd.specs.declared.Command.{Command}
use Rattle.store_moves.specs.Leads.{IsPlaceOf}
use Rattle.store_moves.specs.Works.{works, key_of}

-- true if the list of pairs is not empty
abbrev pub has_pairs : List Pair → Bool
has_pairs pairs = nat_lt 0 (length pairs)

-- the maximum number of pages of a `.pag`: a limit, or the format's maximum if that is less
abbrev pub most_in : PageSize → ℕ → ℕ
most_in size limit = cond (nat_lt limit (most_pages size)) limit (most_pages size)

-- true if the page has no pairs, or its number is below `most`
abbrev pub has_room : ℕ → ℕ × Content → Bool
has_room most e = is_bare e.1.pairs || nat_lt e.0 most

-- each page that has pairs is one of the first `most`
abbrev pub FitsWithin : ℕ → Database → Type 0
FitsWithin most db = (n : ℕ) → pairs_at db n ≢ [] → n < most

-- True if a change puts pairs only on the first `most` pages. The page with this number may also be past these if it had pairs
-- before (`there`).
abbrev pub may_grow : ℕ → Bool → ℕ → Option PageChange → Bool
may_grow most there number None = true
may_grow most there number (Some change) = (there || has_room most (number, change.leaf)) && list_all (has_room most) change.twins

-- the command would put pairs on a page that had none and that is past the limit or past the longest `.pag`
pub record Outgrows (limit : ℕ) (db : Database) (command : Command Global) : Type 0 where
  pub place : Place
  pub leads : IsPlaceOf db (key_of command) place
  pub out : may_grow (most_in db.size limit) (has_pairs (pairs_at db place.page)) place.page (works place db.kind db.size (pairs_at db place.page) 0 command).change ≡ false
