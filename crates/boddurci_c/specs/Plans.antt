-- The plan of a save (own).
use Rattle.std.specs.Prelude.{◌≡◌, ◌≢◌, ◌⊎◌, ◌≤◌, ◌<◌, ◌*◌, ◌^◌, ℕ, List, [], ◌∷◌, length, Option, Contains}
use Rattle.sdbm_addr.specs.Pairs.{page_bytes}
use Rattle.sdbm_addr.specs.Layout.{bytes_of_page}
use Rattle.sdbm_addr.specs.Database.{Database, pairs_at}
use Rattle.sdbm_saves.specs.Parts.{ReadsPage, ReadPages}
use Rattle.sdbm_files.specs.Limits.{pag_limit, FitsFiles}
use Rattle.sdbm_saves.specs.declared.disk.DiskFile.TheVariants.{Pages}
use Rattle.sdbm_saves.specs.Redo.{renewed}
use Rattle.sdbm_saves.specs.Saves.{AreFilesFor, IsSaving, IsTooLong}
use Rattle.boddurci_handles.specs.declared.opened.Db.{Db}
use Rattle.boddurci_handles.specs.declared.status.Status.{Status}
use Rattle.boddurci_handles.specs.declared.status.Status.TheVariants.{Done, ShortRoom, Stale, TooLong, NoMemory}
use Rattle.boddurci_handles.specs.Statuses.{status_code}
use Rattle.boddurci_c.specs.Calls.{At, IsCopied}
use Rattle.store_marks.specs.Marks.{AreAmong}

-- the `.pag` after a plan; an empty plan leaves it unchanged
abbrev pub pages_left : List ℕ → List ℕ → List ℕ
pages_left [] pag = pag
pages_left (b ∷ bs) pag = renewed Pages (b ∷ bs) pag

-- A plan saves the database over the old files; or the plan is empty, and the old files are already those of the database. If
-- the database fits, the new `.pag` has at most `pag_limit` bytes.
pub record IsPlanFor (db : Database) (plan dir pag : List ℕ) : Type 0 where
  pub makes : IsSaving db plan pag dir ⊎ ((plan ≡ []) × AreFilesFor db pag dir)
  pub short : FitsFiles db → length (pages_left plan pag) ≤ pag_limit

-- A `.pag` of this length has the given bytes on the pages with these numbers, page after page. Every other page has the bytes
-- that a save of the base would write. Bytes past the end of the file count as zeros.
pub record IsReadBeside (base : Database) (pag_length : ℕ) (numbers pages pag : List ℕ) : Type 0 where
  pub long : length pag ≡ pag_length
  pub reads : ReadPages base.size numbers pages pag
  pub rest : (n : ℕ) → (Contains numbers n → ⊥) → ReadsPage base.size pag n (bytes_of_page base.size (pairs_at base n))

-- the plan is valid for every `.pag` of which these pages were read
abbrev pub PlansFor : List ℕ → ℕ → List ℕ → List ℕ → Db → List ℕ → Type 0
PlansFor dir pag_length numbers pages d plan = (pag : List ℕ) → IsReadBeside d.base.database pag_length numbers pages pag → IsPlanFor d.image plan dir pag

-- the database is its own base, and everything else stays
pub record IsOwnBase (d d' : Db) : Type 0 where
  pub image : d'.image ≡ d.image
  pub registry : d'.registry ≡ d.registry
  pub limit : d'.limit ≡ d.limit
  pub base : d'.base.database ≡ d.image
  pub marks : d'.marks ≡ []

-- all marked pages are among the numbers, and the number of bytes is that of these pages
abbrev pub HasRead : Db → List ℕ → List ℕ → Type 0
HasRead d numbers pages = AreAmong d.marks numbers × (length pages ≡ length numbers * page_bytes d.image.size)

-- the plan is written to a buffer, and the database is its own base; or the buffer is too short, and the database is unchanged
pub record PlansOn (dir : List ℕ) (pag_length : ℕ) (numbers pages : List ℕ) (d : Db) (room_old room_new : List ℕ) (len : ℕ) (status : Status) (d' : Db) : Type 0 where
  pub plan : List ℕ
  pub read : HasRead d numbers pages
  pub is : PlansFor dir pag_length numbers pages d plan
  pub copied : IsCopied plan room_old room_new len status
  pub planned : status ≡ Done → IsOwnBase d d'
  pub stays : status ≡ ShortRoom → d' ≡ d

-- The reason why there is no plan: a marked page is not among the numbers, or the number of bytes is not that of these pages;
-- or a file is or would be too long, or there are more numbers than the longest `.pag` has pages; or memory ran out.
abbrev pub DeniesPlan : List ℕ → ℕ → List ℕ → List ℕ → Db → Status → Type 0
DeniesPlan dir pag_length numbers pages d status =
    ((status ≡ Stale) × ((AreAmong d.marks numbers → ⊥) ⊎ (length pages ≢ length numbers * page_bytes d.image.size)))
    ⊎ (((status ≡ TooLong) × ((2 ^ 22 < length numbers) ⊎ ((pag : List ℕ) → IsReadBeside d.base.database pag_length numbers pages pag → IsTooLong d.image pag dir)))
    ⊎ (status ≡ NoMemory))

-- a plan of an open handle's database
pub record Plans (old : Option Db) (code : ℕ) (new : Option Db) (dir : List ℕ) (pag_length : ℕ) (numbers pages room_old room_new : List ℕ) (len : ℕ) : Type 0 where
  pub status : Status
  pub code_is : code ≡ status_code status
  pub is : At old new (λ d d'. PlansOn dir pag_length numbers pages d room_old room_new len status d')
