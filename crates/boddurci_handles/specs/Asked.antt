-- A requested run, and a snapshot of the page of its key (own).
use Rattle.std.specs.Prelude.{◌≡◌, ◌⊎◌, ℕ, Bool, true, false, Option, IfSome}
use Rattle.std.specs.declared.alloc.Global.{Global}
use Rattle.sdbm_addr.specs.declared.KeyBytes.{KeyBytes}
use Rattle.sdbm_addr.specs.Pairs.{Content}
use Rattle.sdbm_addr.specs.Database.{Database, pairs_at}
use Rattle.sdbm_dir.specs.declared.Place.{Place}
use Rattle.store_cmd.specs.declared.Command.{Command}
use Rattle.store_moves.specs.declared.worked.Worked.{Worked}
use Rattle.store_moves.specs.Leads.{IsPlaceOf}
use Rattle.store_moves.specs.Works.{PageResult, works, key_of, HasEnd, IsWorkable}
use Rattle.store_moves.specs.Worked.{IsWorked}
use Rattle.boddurci_handles.specs.Growth.{Outgrows}
use Rattle.boddurci_handles.specs.declared.status.Status.{Status}
use Rattle.boddurci_handles.specs.declared.status.Status.TheVariants.{Changed, NoMemory, NoTicket, TooLong}

-- A command, the place of its key, the hash kind of its database, a snapshot of the page, and whether the result was computed.
pub record Asked : Type 0 where
  pub command : Command Global
  pub place : Place
  pub kind : KeyBytes
  pub page : Content
  pub is_worked : Bool

-- the result of the command on the snapshot
abbrev pub asked_result : Asked → PageResult Global
asked_result a = works a.place a.kind a.page.size a.page.pairs 0 a.command

-- w is the result of the command, whose program ends on the snapshot
pub record IsWorkedOut (a : Asked) (w : Worked Global) : Type 0 where
  pub is : IsWorked (asked_result a) w
  pub ends : HasEnd a.page.pairs 0 a.command

-- the command can be computed on the snapshot, and `worked`, if there is one, is its result
pub record IsAskedJob (a : Asked) (worked : Option (Worked Global)) : Type 0 where
  pub workable : IsWorkable a.place a.kind a.page.size a.page.pairs a.command
  pub done : IfSome worked (IsWorkedOut a)

-- the snapshot equals the page of the key in a database with the same page size and hash kind
pub record IsCurrent (db : Database) (a : Asked) : Type 0 where
  pub place : IsPlaceOf db (key_of a.command) a.place
  pub kind : a.kind ≡ db.kind
  pub size : a.page.size ≡ db.size
  pub pairs : a.page.pairs ≡ pairs_at db a.place.page

-- a requested command with the current page of its key in a database, not computed yet
pub record IsAskedOf (db : Database) (command : Command Global) (a : Asked) : Type 0 where
  pub command_is : a.command ≡ command
  pub current : IsCurrent db a
  pub waits : a.is_worked ≡ false

-- the requested command after its result was computed
abbrev pub worked_out : Asked → Asked
worked_out a = record { command = a.command; place = a.place; kind = a.kind; page = a.page; is_worked = true }

-- The reason why a requested command is not finished on a database: it was not computed; or its page has changed; or its page
-- is unchanged, and `.pag` would be too long or memory ran out.
abbrev pub DeniesFinish : ℕ → Database → Asked → Status → Type 0
DeniesFinish limit db a status =
    ((status ≡ NoTicket) × (a.is_worked ≡ false))
    ⊎ (((status ≡ Changed) × ((a.is_worked ≡ true) × (¬ IsCurrent db a)))
    ⊎ (((status ≡ TooLong) × ((a.is_worked ≡ true) × (IsCurrent db a × Outgrows limit db a.command))) ⊎ ((status ≡ NoMemory) × ((a.is_worked ≡ true) × IsCurrent db a))))
