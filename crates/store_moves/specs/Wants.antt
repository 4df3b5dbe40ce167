-- The commands that may need memory.
use Rattle.std.specs.Prelude.{◌≡◌, ℕ, true}
use Rattle.sdbm_addr.specs.Database.{Database, pairs_at}
use Rattle.sdbm_dir.specs.declared.Place.{Place}
use Rattle.store_cmd.specs.declared.Command.{Command}
use Rattle.store_moves.specs.Works.{works, key_of, HasKey}
use Rattle.store_moves.specs.Worked.{takes_memory}
use Rattle.store_moves.specs.Leads.{IsPlaceOf}

-- a command about a key whose reply may need memory
pub record WantsMemory {A : Type 0} (db : Database) (session : ℕ) (command : Command A) : Type 0 where
  pub keyed : HasKey command
  pub place : Place
  pub leads : IsPlaceOf db (key_of command) place
  pub takes : takes_memory (works place db.kind db.size (pairs_at db place.page) session command).reply ≡ true
