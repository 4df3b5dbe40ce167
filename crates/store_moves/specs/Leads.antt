-- The effect on the whole database of a command's result on one page.
use Rattle.std.specs.Prelude.{◌≡◌, ◌≢◌, ℕ, ◌%◌, ◌^◌, ◌≤◌, ◌||◌, ◌&&◌, Bool, true, false, is_some, List, [], Option, None, Some}
use Rattle.std.specs.FinMap as map
use Rattle.sdbm_addr.specs.Hash.{hash_of}
use Rattle.sdbm_addr.specs.Directory.{IsDepth, hash_prefix, word_number}
use Rattle.sdbm_addr.specs.Database.{Database, pairs_at, map_of}
use Rattle.sdbm_dir.specs.declared.Place.{Place}
use Rattle.sdbm_split.specs.Planned.{PageChange}
use Rattle.sdbm_files.specs.Installed.{installed, IsInstallable}
use Rattle.store_cmd.specs.declared.Command.{Command}
use Rattle.store_cmd.specs.declared.Reply.{Reply}
use Rattle.store_cmd.specs.declared.Reply.TheVariants.{Found, Missing, Stored, Exists, Crowded, Deleted, Ran, Count}
use Rattle.store_cmd.specs.Answers.{saves, removes}
use Rattle.store_cmd.specs.Moves.{State, Moves}
use Rattle.store_moves.specs.Works.{PageResult, key_of, HasEnd}

-- the state of a database: its map, splits, hash kind and page size
abbrev pub state_of : Database → State
state_of db = record { map = map_of db; splits = db.splits; kind = db.kind; size = db.size }

-- the database after the change of a page, if there is a change
abbrev pub changed_by : Database → ℕ → Option PageChange → Database
changed_by db number None = db
changed_by db number (Some change) = installed db number change.leaf change.twins change.bits

-- a change that may be installed
abbrev pub MayChange : Database → ℕ → Option PageChange → Type 0
MayChange db number None = Unit {0}
MayChange db number (Some change) = IsInstallable db number change.leaf change.twins change.bits

-- True if a reply says that the database has changed. The first argument is true if the key existed; if not, a run that
-- removes the pair changes nothing.
abbrev pub does_change : {A : Type 0} → Bool → Reply A → Bool
does_change there Stored = true
does_change there Deleted = true
does_change there (Ran code word) = saves code || (removes code && there)
does_change there (Found value) = false
does_change there Missing = false
does_change there Exists = false
does_change there Crowded = false
does_change there (Count n) = false

-- true if a command's key exists in the database
abbrev pub is_there : {A : Type 0} → Database → Command A → Bool
is_there db command = map.contains_key (map_of db) (key_of command)

-- the place of a key
pub record IsPlaceOf (db : Database) (key : List ℕ) (place : Place) : Type 0 where
  pub depth : IsDepth db.splits (hash_of db.kind key) place.depth
  pub shallow : place.depth ≤ 31
  pub low_bits : place.page ≡ hash_of db.kind key % 2 ^ place.depth
  pub bit : place.bit ≡ word_number (hash_prefix place.depth (hash_of db.kind key))

-- every place except that of one page is still a place, with the same page
abbrev pub IsSameBeside : Database → ℕ → Database → Type 0
IsSameBeside old number new = (key : List ℕ) (place : Place) → IsPlaceOf old key place → place.page ≢ number → IsPlaceOf new key place × (pairs_at new place.page ≡ pairs_at old place.page)

-- a page without pairs stays without pairs
abbrev pub FillsNone : Database → Database → Type 0
FillsNone old new = (n : ℕ) → pairs_at old n ≡ [] → pairs_at new n ≡ []

-- A command's result on a page may be installed and leaves the other places unchanged. The result has a change if and only if
-- its reply says so. Installing it is one move, provided that a run ends.
pub record LeadsTo {A : Type 0} (db : Database) (session : ℕ) (command : Command A) (number : ℕ) (result : PageResult A) : Type 0 where
  pub may : MayChange db number result.change
  pub move : HasEnd (pairs_at db number) session command → Moves (state_of db) (record { session = session; command = command; reply = result.reply }) (state_of (changed_by db number result.change))
  pub beside : IsSameBeside db number (changed_by db number result.change)
  pub changes : does_change (is_there db command) result.reply ≡ is_some result.change
