-- The effect of one command of a session on a database, page by page.
use Rattle.std.specs.Prelude.{◌≡◌, ℕ, List, [], ◌∷◌}
use Rattle.std.specs.FinMap as map
use Rattle.sdbm_addr.specs.Database.{Database, pairs_at, map_of}
use Rattle.sdbm_dir.specs.declared.Place.{Place}
use Rattle.store_cmd.specs.declared.Command.{Command}
use Rattle.store_cmd.specs.declared.Command.TheVariants.{Fetch, Store, Delete, Run, Count}
use Rattle.store_cmd.specs.declared.Entry.{Entry}
use Rattle.store_cmd.specs.declared.Reply.{Reply}
use Rattle.store_cmd.specs.declared.Reply.TheVariants as reply
use Rattle.store_cmd.specs.Command.{IsSmall}
use Rattle.store_cmd.specs.Moves.{Moves}
use Rattle.store_moves.specs.Works.{works, key_of, HasEnd}
use Rattle.store_moves.specs.Leads.{IsPlaceOf, changed_by, state_of}

-- A command about a key; if it is a run, the run ends. The reply is the command's result on the page of its place, and the
-- change is installed.
pub record IsOnPage {A : Type 0} (db : Database) (e : Entry A) (db' : Database) : Type 0 where
  pub place : Place
  pub leads : IsPlaceOf db (key_of e.command) place
  pub ends : HasEnd (pairs_at db place.page) e.session e.command
  pub answer_is : e.reply ≡ (works place db.kind db.size (pairs_at db place.page) e.session e.command).reply
  pub database : db' ≡ changed_by db place.page (works place db.kind db.size (pairs_at db place.page) e.session e.command).change

-- A session's command is executed on the page of its place: the reply is the result on that page, and the change is installed.
pub record IsPutIn {A : Type 0} (db : Database) (place : Place) (session : ℕ) (command : Command A) (reply : Reply A) (db' : Database) : Type 0 where
  pub leads : IsPlaceOf db (key_of command) place
  pub ends : HasEnd (pairs_at db place.page) session command
  pub reply_is : reply ≡ (works place db.kind db.size (pairs_at db place.page) session command).reply
  pub database : db' ≡ changed_by db place.page (works place db.kind db.size (pairs_at db place.page) session command).change

-- the exact effect of a command, by cases: a count changes nothing, and any other command acts on the page of its key
abbrev pub IsExactFor : {A : Type 0} → Command A → Database → Entry A → Database → Type 0
IsExactFor (Fetch key) db e db' = IsOnPage db e db'
IsExactFor (Store key value mode) db e db' = IsOnPage db e db'
IsExactFor (Delete key) db e db' = IsOnPage db e db'
IsExactFor (Run key program argument blank now) db e db' = IsOnPage db e db'
IsExactFor Count db e db' = (e.reply ≡ reply.Count (map.len (map_of db))) × (db' ≡ db)

-- An entry whose command has valid sizes. Its effect is exactly that of `IsExactFor`, and is one move.
pub record Acts {A : Type 0} (db : Database) (e : Entry A) (db' : Database) : Type 0 where
  pub small : IsSmall db.size e.command
  pub exact : IsExactFor e.command db e db'
  pub move : Moves (state_of db) e (state_of db')

-- the commands of the entries are executed in order, with these replies
abbrev pub ActsInTurn : {A : Type 0} → Database → List (Entry A) → Database → Type 0
ActsInTurn db [] db' = db' ≡ db
ActsInTurn {A} db (e ∷ es) db' = (mid : Database) × (Acts db e mid × ActsInTurn mid es db')
