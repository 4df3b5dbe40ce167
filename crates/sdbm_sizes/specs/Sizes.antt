-- The detection of a `.pag` file with small pages (1,024 bytes) that is opened with wide pages (8,192 bytes).
use Rattle.std.specs.Prelude.{◌≡◌, ◌≢◌, ℕ, ◌+◌, ◌*◌, ◌<◌, ◌≤◌, List, length, take, get_or}
use Rattle.sdbm_addr.specs.declared.KeyBytes.{KeyBytes}
use Rattle.sdbm_addr.specs.declared.PageSize.TheVariants.{Small, Wide}
use Rattle.sdbm_addr.specs.DirectoryFile.{SpellsDirectory}
use Rattle.sdbm_addr.specs.Layout.{Spells}
use Rattle.sdbm_addr.specs.Database.{Database, IsDatabase, pairs_at}
use Rattle.sdbm_addr.specs.Files.{page_at, SpellsDatabase}
use Rattle.sdbm_files.specs.Limits.{most_pages, pag_limit}

-- some byte is nonzero
pub record IsWritten (bytes : List ℕ) : Type 0 where
  pub at : ℕ
  pub is : get_or bytes at 0 ≢ 0

-- some database with small pages has this directory and this page n
pub record IsSmallPart (kind : KeyBytes) (dir : List ℕ) (n : ℕ) (bytes : List ℕ) : Type 0 where
  pub db : Database
  pub kind_is : db.kind ≡ kind
  pub size_is : db.size ≡ Small
  pub database : IsDatabase db
  pub directory : SpellsDirectory dir db.splits
  pub page : Spells Small bytes (pairs_at db n)

-- Wide page n looks small: it is not all zeros, and its first 1,024 bytes are page 8 * n of some database with small pages.
pub record LooksSmall (kind : KeyBytes) (dir : List ℕ) (n : ℕ) (page : List ℕ) : Type 0 where
  pub written : IsWritten page
  pub part : IsSmallPart kind dir (8 * n) (take 1024 page)

-- wide page n is the first wide page that is not all zeros
pub record IsFirstWritten (pag : List ℕ) (n : ℕ) : Type 0 where
  pub low : n < most_pages Wide
  pub inside : (n + 1) * 8192 ≤ length pag
  pub written : IsWritten (page_at Wide pag n)
  pub below : (k : ℕ) → k < n → IsWritten (page_at Wide pag k) → ⊥

-- the first wide page that is not all zeros looks small
pub record FileLooksSmall (kind : KeyBytes) (dir pag : List ℕ) : Type 0 where
  pub n : ℕ
  pub first : IsFirstWritten pag n
  pub looks : LooksSmall kind dir n (page_at Wide pag n)

-- The files are not those of a database with small pages and at most 1 GiB, unless all whole wide pages of `.pag` are zeros.
abbrev pub SpellsNoSmall : KeyBytes → List ℕ → List ℕ → Type 0
SpellsNoSmall kind dir pag =
    (db : Database) → db.kind ≡ kind → db.size ≡ Small → SpellsDatabase db dir pag → length pag ≤ pag_limit
    → (k : ℕ) → (k + 1) * 8192 ≤ length pag → IsWritten (page_at Wide pag k) → ⊥
