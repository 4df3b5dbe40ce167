-- Databases of which only one page was read: the opened database, the plan of its save, and the whole database.
use Rattle.std.specs.Prelude.{◌≡◌, ◌≢◌, ◌+◌, ◌/◌, ℕ, List, [], Option, Some, None, Contains, IfSome, IsNone}
use Rattle.std.specs.Global.{Vec}
use Rattle.std.specs.declared.alloc.Global.{Global}
use Rattle.sdbm_addr.specs.declared.KeyBytes.{KeyBytes}
use Rattle.sdbm_addr.specs.declared.PageSize.{PageSize}
use Rattle.sdbm_addr.specs.DirectoryFile.{SpellsDirectory}
use Rattle.sdbm_addr.specs.Files.{SpellsDatabase}
use Rattle.sdbm_addr.specs.Layout.{Spells}
use Rattle.sdbm_addr.specs.Pairs.{page_bytes}
use Rattle.sdbm_addr.specs.Database.{Database, IsDatabase, pairs_at}
use Rattle.sdbm_dir.specs.declared.Place.{Place}
use Rattle.sdbm_saves.specs.Redo.{IsPlan, Knows}
use Rattle.sdbm_saves.specs.Saves.{AreFilesFor, IsSaving}
use Rattle.sdbm_saves.specs.Parts.{IsPartOf, IsReadSo}
use Rattle.sdbm_saves.specs.declared.part.Part.{Part}
use Rattle.store_cmd.specs.declared.Entry.{Entry}
use Rattle.store_moves.specs.Acts.{Acts}
use Rattle.store_moves.specs.Leads.{IsPlaceOf}
use Rattle.store_moves.specs.Works.{key_of, HasKey}

-- a database whose only page with pairs is the page that was read
pub record IsOpenedPage (part : Part) (kind : KeyBytes) (size : PageSize) (db : Database) : Type 0 where
  pub kind_is : db.kind ≡ kind
  pub size_is : db.size ≡ size
  pub directory : SpellsDirectory part.directory.now db.splits
  pub page : Spells size part.page.now (pairs_at db part.number)
  pub others : (n : ℕ) → n ≢ part.number → pairs_at db n ≡ []

-- `IsOpenedPage`, and the page that was read is the key's
pub record IsOpenedPart (key : List ℕ) (part : Part) (kind : KeyBytes) (size : PageSize) (db : Database) : Type 0 where
  pub database : IsDatabase db
  pub known : IsOpenedPage part kind size db
  pub place : Place
  pub leads : IsPlaceOf db key place
  pub here : place.page ≡ part.number

-- if the page that was read is the last of the file, it has pairs
abbrev pub EndsWithPairs : Part → Database → Type 0
EndsWithPairs part db = part.len / page_bytes db.size ≡ part.number + 1 → pairs_at db part.number ≢ []

-- The plan that saves a database of which only one page was read, or `None` if nothing has to be written. `numbers` are the
-- numbers of the pages that the plan may write.
pub record IsPlannedPart (part : Part) (db : Database) (numbers : List ℕ) (plan : Option (Vec ℕ)) : Type 0 where
  pub named : Contains numbers part.number
  pub covers : (n : ℕ) → pairs_at db n ≢ [] → Contains numbers n
  pub ends : EndsWithPairs part db
  pub saves : IfSome plan (λ p. (whole : Database) (pag : List ℕ) → IsPartOf part numbers db whole pag → IsSaving whole p.items pag part.directory.now)
  pub none : IsNone plan → (whole : Database) (pag : List ℕ) → IsPartOf part numbers db whole pag → AreFilesFor whole pag part.directory.now
  pub knows : IfSome plan (λ p. IsPlan p.items × ((pag : List ℕ) → IsReadSo part numbers db.size pag → Knows p.items (pag, part.directory.now)))

-- the whole files of a database, of which a part was read
pub record AreWhole (part : Part) (numbers : List ℕ) (db : Database) (pag : List ℕ) : Type 0 where
  pub spells : SpellsDatabase db part.directory.now pag
  pub read : IsReadSo part numbers db.size pag

-- The plan turns the files into those of the database to save; without a plan, they already are these files. If there is no
-- database to save, there is no plan.
abbrev pub SavesAs : Option Database → Option (Vec ℕ) → List ℕ → List ℕ → Type 0
SavesAs None plan pag dir = plan ≡ None
SavesAs (Some after) None pag dir = AreFilesFor after pag dir
SavesAs (Some after) (Some plan) pag dir = IsSaving after plan.items pag dir

-- A command about a key was answered on the database of the page that was read, and the save of that database was planned.
pub record IsServed (part : Part) (kind : KeyBytes) (size : PageSize) (entry : Entry Global) (before after : Database) (numbers : List ℕ) (plan : Option (Vec ℕ)) : Type 0 where
  pub keyed : HasKey entry.command
  pub opened : IsOpenedPart (key_of entry.command) part kind size before
  pub acts : Acts before entry after
  pub planned : IsPlannedPart part after numbers plan

-- On the whole database the command has the same reply. If the files are as a save leaves them, the plan turns them into
-- those of the whole database after the command.
pub record IsSameOnWhole (part : Part) (entry : Entry Global) (plan : Option (Vec ℕ)) (db : Database) (pag : List ℕ) : Type 0 where
  pub after : Database
  pub acts : Acts db entry after
  pub saves : AreFilesFor db pag part.directory.now → SavesAs (Some after) plan pag part.directory.now
