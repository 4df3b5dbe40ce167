-- The bytes that a save knows of a database's files if it did not read all pages.
use Rattle.std.specs.Prelude.{◌≡◌, ◌≢◌, ℕ, ◌+◌, ◌-◌, ◌*◌, ◌/◌, ◌<◌, ◌≤◌, List, [], length, get_or, Contains}
use Rattle.sdbm_addr.specs.declared.PageSize.{PageSize}
use Rattle.sdbm_addr.specs.Pairs.{page_bytes}
use Rattle.sdbm_addr.specs.Layout.{bytes_of_page}
use Rattle.sdbm_addr.specs.Database.{Database, IsDatabase, pairs_at}
use Rattle.sdbm_saves.specs.declared.part.Part.{Part}
use Rattle.sdbm_saves.specs.declared.marked.Marked.{Marked}
use Rattle.sdbm_saves.specs.declared.disk.DiskFile.{DiskFile}
use Rattle.sdbm_saves.specs.declared.disk.DiskFile.TheVariants.{Pages}
use Rattle.sdbm_saves.specs.Disk.{resized}
use Rattle.sdbm_saves.specs.Redo.{replayed}
use Rattle.sdbm_saves.specs.Drafts.{AreChanges}

-- page n of a file has these bytes; bytes past the end of the file or of `page` count as zeros
abbrev pub ReadsPage : PageSize → List ℕ → ℕ → List ℕ → Type 0
ReadsPage size pag n page = (i : ℕ) → i < page_bytes size → get_or pag (n * page_bytes size + i) 0 ≡ get_or page i 0

-- page n is the same in two files
abbrev pub SamePage : PageSize → ℕ → List ℕ → List ℕ → Type 0
SamePage size n old new = (i : ℕ) → i < page_bytes size → get_or new (n * page_bytes size + i) 0 ≡ get_or old (n * page_bytes size + i) 0

-- the file has the page that was read, and zeros on all other listed pages
pub record ReadsSo (old : Part) (numbers : List ℕ) (size : PageSize) (pag : List ℕ) : Type 0 where
  pub page : ReadsPage size pag old.number old.page.now
  pub others : (n : ℕ) → Contains numbers n → n ≢ old.number → ReadsPage size pag n []

-- the file has the length and the page that were read, and zeros on all other listed pages
pub record IsReadSo (old : Part) (numbers : List ℕ) (size : PageSize) (pag : List ℕ) : Type 0 where
  pub long : length pag ≡ old.len
  pub reads : ReadsSo old numbers size pag

-- The database has the known pairs on the listed pages. On all other pages, the file has the bytes that are written for the database.
pub record IsPartOf (old : Part) (numbers : List ℕ) (known db : Database) (pag : List ℕ) : Type 0 where
  pub database : IsDatabase db
  pub size : db.size ≡ known.size
  pub splits : db.splits ≡ known.splits
  pub read : IsReadSo old numbers known.size pag
  pub named : (n : ℕ) → Contains numbers n → pairs_at db n ≡ pairs_at known n
  pub rest : (n : ℕ) → (Contains numbers n → ⊥) → ReadsPage known.size pag n (bytes_of_page known.size (pairs_at db n))
  pub past : (n : ℕ) → (Contains numbers n → ⊥) → old.len ≤ n * page_bytes known.size → pairs_at db n ≡ []
  pub last : 0 < old.len → pairs_at db (old.len / page_bytes known.size - 1) ≢ []

-- The new file has `whole` bytes. Its listed pages are those of the database, and all other pages are those of the old file.
pub record HasPages (db : Database) (numbers : List ℕ) (whole : ℕ) (old new : List ℕ) : Type 0 where
  pub long : length new ≡ whole
  pub named : (n : ℕ) → Contains numbers n → (n + 1) * page_bytes db.size ≤ whole → ReadsPage db.size new n (bytes_of_page db.size (pairs_at db n))
  pub others : (n : ℕ) → (Contains numbers n → ⊥) → (n + 1) * page_bytes db.size ≤ whole → SamePage db.size n old new

-- `pages` are the bytes of the listed pages of a file, concatenated
abbrev pub ReadPages : PageSize → List ℕ → List ℕ → List ℕ → Type 0
ReadPages size numbers pages pag = (j i : ℕ) → j < length numbers → i < page_bytes size → get_or pages (j * page_bytes size + i) 0 ≡ get_or pag (get_or numbers j 0 * page_bytes size + i) 0

-- `after` is `before` and more changes; these write the listed pages of the database, and contain the old bytes of the pages; no change in
-- `before` writes to `.pag`
pub record HasPutPages (db : Database) (numbers : List ℕ) (pages directory : ℕ) (both : List ℕ × List ℕ) (few : ℕ) (before : List ℕ) (many : ℕ) (after : List ℕ) : Type 0 where
  pub changes : AreChanges pages directory both many after
  pub file : HasPages db numbers pages both.0 (replayed Pages many after (resized pages both.0))
  pub others : (g : DiskFile) → g ≢ Pages → (x : List ℕ) → replayed g many after x ≡ replayed g few before x

-- The file has the length that was read and, on the listed pages, the bytes that were read. All other pages are as written for the
-- database.
pub record IsMarkedIn (old : Marked) (db : Database) (pag : List ℕ) : Type 0 where
  pub long : length pag ≡ old.len
  pub reads : ReadPages db.size old.numbers.now old.pages.now pag
  pub rest : (n : ℕ) → (Contains old.numbers.now n → ⊥) → ReadsPage db.size pag n (bytes_of_page db.size (pairs_at db n))
