-- The result of a save in the files of a database.
use Rattle.std.specs.Prelude.{◌≡◌, ◌⊎◌, ◌≤◌, ◌^◌, ℕ, List, length}
use Rattle.sdbm_addr.specs.Database.{Database}
use Rattle.sdbm_addr.specs.Files.{AreFiles, SpellsDatabase}
use Rattle.sdbm_saves.specs.declared.disk.DiskFile.TheVariants.{Pages, Directory}
use Rattle.sdbm_saves.specs.Redo.{renewed, IsPlan, Knows}

-- `pages` and `directory` are the bytes of `.pag` and `.dir` that are written for a database, and they spell the database
pub record AreFilesFor (db : Database) (pages directory : List ℕ) : Type 0 where
  pub written : AreFiles db directory pages
  pub spelled : SpellsDatabase db directory pages

-- the plan knows the old files and turns them into the files of a database
pub record IsSaving (db : Database) (plan old_pages old_directory : List ℕ) : Type 0 where
  pub whole : IsPlan plan
  pub knows : Knows plan (old_pages, old_directory)
  pub files : AreFilesFor db (renewed Pages plan old_pages) (renewed Directory plan old_directory)

-- the plan knows these files and changes neither
pub record ChangesNothing (plan pages directory : List ℕ) : Type 0 where
  pub whole : IsPlan plan
  pub knows : Knows plan (pages, directory)
  pub same_pages : renewed Pages plan pages ≡ pages
  pub same_directory : renewed Directory plan directory ≡ directory

-- a file that is written for the database has 2^32 bytes or more
pub record HasLongFile (db : Database) : Type 0 where
  pub pages : List ℕ
  pub directory : List ℕ
  pub written : AreFiles db directory pages
  pub long : (2 ^ 32 ≤ length pages) ⊎ (2 ^ 32 ≤ length directory)

-- a file that is written for the database, or an old file, has 2^32 bytes or more
abbrev pub IsTooLong : Database → List ℕ → List ℕ → Type 0
IsTooLong db old_pages old_directory = HasLongFile db ⊎ ((2 ^ 32 ≤ length old_pages) ⊎ (2 ^ 32 ≤ length old_directory))
