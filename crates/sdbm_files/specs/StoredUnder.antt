-- Store commands that change one of several numbered pages in place.
use Rattle.std.specs.Prelude.{◌≡◌, ℕ, List, Some, nat_eq as eqb}
use Rattle.std.specs.Map.{lookup}
use Rattle.sdbm_addr.specs.declared.Mode.{Mode}
use Rattle.sdbm_addr.specs.Database.{put_page}
use Rattle.sdbm_addr.specs.Pairs.{Content, stored}
use Rattle.sdbm_split.specs.InPlace.{MayStore}
use Rattle.sdbm_files.specs.Kept.{pages_of}

-- `content` is page `number`
abbrev pub IsUnder : List (ℕ × Content) → ℕ → Content → Type 0
IsUnder entries number content = lookup (eqb number) entries ≡ Some content

-- a pair was stored on page `number` without a split
pub record IsStoredUnder (mode : Mode) (old : List (ℕ × Content)) (number : ℕ) (key value : List ℕ) (new : List (ℕ × Content)) : Type 0 where
  pub page : Content
  pub under : IsUnder old number page
  pub may : MayStore mode page key value
  pub pages : pages_of new ≡ put_page (pages_of old) number (stored page.pairs key value)
