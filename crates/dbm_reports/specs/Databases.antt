-- Opening a database from its files, and its size limit.
use Rattle.std.specs.Prelude.{◌≡◌, ℕ, ◌≤◌, ◌<◌, Bool, cond, List, length, Option, Some, None, ⊤}
use Rattle.sdbm_addr.specs.declared.KeyBytes.{KeyBytes}
use Rattle.sdbm_addr.specs.declared.KeyBytes.TheVariants.{Signed, Unsigned}
use Rattle.sdbm_addr.specs.declared.PageSize.{PageSize}
use Rattle.sdbm_addr.specs.declared.PageSize.TheVariants.{Small, Wide}
use Rattle.sdbm_addr.specs.Database.{Database}
use Rattle.sdbm_addr.specs.Files.{ArePagBytes, SpellsDatabase}
use Rattle.sdbm_files.specs.Limits.{pag_limit}
use Rattle.sdbm_files.specs.Opened.{IsOpenFault}
use Rattle.sdbm_files.specs.declared.opening.OpenFault.{OpenFault}
use Rattle.sdbm_files.specs.declared.opening.OpenFault.TheVariants as opening
use Rattle.dbm_args.specs.declared.options.Form.{Form}
use Rattle.dbm_reports.specs.declared.databases.Given.{Given}

-- the hash function that the options select
abbrev pub key_bytes_of : Bool → KeyBytes
key_bytes_of unsigned = cond unsigned Unsigned Signed

-- the page size that the options select
abbrev pub page_size_of : Bool → PageSize
page_size_of wide = cond wide Wide Small

-- with this hash function and page size, the files represent this database and no other
pub record IsOpened (form : Form) (given : Given) (db : Database) : Type 0 where
  pub spells : SpellsDatabase db given.dir.items given.pag.bytes
  pub kind : db.kind ≡ key_bytes_of form.unsigned
  pub size : db.size ≡ page_size_of form.wide
  pub only : (other : Database) → other.kind ≡ key_bytes_of form.unsigned → other.size ≡ page_size_of form.wide
      → SpellsDatabase other given.dir.items given.pag.bytes → other ≡ db

-- the files can be opened
abbrev pub CanBeOpened : Form → Given → Type 0
CanBeOpened form given = (db : Database) × IsOpened form given db

-- the reason why the files cannot be opened, other than lack of memory
abbrev pub IsShut : Form → Given → OpenFault → Type 0
IsShut form given opening.NoMemory = ⊥
IsShut form given reason = IsOpenFault (key_bytes_of form.unsigned) (page_size_of form.wide) given.dir.items given.pag.bytes reason

-- the `.pag` of the database would be longer than the limit of the program
abbrev pub IsPagTooLong : Database → Type 0
IsPagTooLong db = (pag : List ℕ) → ArePagBytes db pag → pag_limit < length pag

-- the `.pag` of the database would be within the limit of the program
abbrev pub IsPagShort : Database → Type 0
IsPagShort db = (pag : List ℕ) → ArePagBytes db pag → length pag ≤ pag_limit

-- if there is a database to save, its `.pag` is within the limit
abbrev pub MayBeWritten : Option Database → Type 0
MayBeWritten None = ⊤
MayBeWritten (Some db) = IsPagShort db
