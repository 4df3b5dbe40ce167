-- The two files of a database (Yigit, sdbm 1990: the `.dir` and the `.pag` file): the valid bytes, and the bytes that are written.
use Rattle.std.specs.Prelude.{◌≡◌, ◌≢◌, ℕ, zero, suc, ◌+◌, ◌*◌, ◌-◌, ◌<◌, ◌≤◌, List, [], ◌++◌, length, slice_range}
use Rattle.sdbm_addr.specs.declared.PageSize.{PageSize}
use Rattle.sdbm_addr.specs.Pairs.{page_bytes}
use Rattle.sdbm_addr.specs.Layout.{Spells, bytes_of_page}
use Rattle.sdbm_addr.specs.DirectoryFile.{SpellsDirectory, AreDirectoryBytes}
use Rattle.sdbm_addr.specs.Database.{Database, IsDatabase, pairs_at}

-- the bytes of page n in a `.pag` file; pages are in the order of their numbers
abbrev pub page_at : PageSize → List ℕ → ℕ → List ℕ
page_at size bytes n = slice_range bytes (n * page_bytes size) ((n + 1) * page_bytes size)

-- The bytes spell the first `count` pages of a database, and no later page has pairs. Pages without pairs are allowed anywhere, even at the
-- end.
pub record SpellsPages (db : Database) (bytes : List ℕ) (count : ℕ) : Type 0 where
  pub long : length bytes ≡ count * page_bytes db.size
  pub pages : (n : ℕ) → n < count → Spells db.size (page_at db.size bytes n) (pairs_at db n)
  pub past : (n : ℕ) → count ≤ n → pairs_at db n ≡ []

-- the bytes of both files spell a database
pub record SpellsDatabase (db : Database) (dir pag : List ℕ) : Type 0 where
  pub database : IsDatabase db
  pub directory : SpellsDirectory dir db.splits
  pub count : ℕ
  pub pages : SpellsPages db pag count

-- n is the number of pages that are written: page n - 1, if there is one, has pairs, and no later page has pairs (our own rule).
pub record IsPageCount (db : Database) (n : ℕ) : Type 0 where
  pub past : (k : ℕ) → n ≤ k → pairs_at db k ≡ []
  pub last : 0 < n → pairs_at db (n - 1) ≢ []

-- the bytes of the first n pages
abbrev pub first_pages : Database → ℕ → List ℕ
first_pages db zero = []
first_pages db (suc n) = first_pages db n ++ bytes_of_page db.size (pairs_at db n)

-- the bytes that are written to the `.pag` file
pub record ArePagBytes (db : Database) (bytes : List ℕ) : Type 0 where
  pub count : ℕ
  pub counted : IsPageCount db count
  pub is : bytes ≡ first_pages db count

-- the bytes that are written to both files
pub record AreFiles (db : Database) (dir pag : List ℕ) : Type 0 where
  pub directory : AreDirectoryBytes db.splits dir
  pub pages : ArePagBytes db pag
