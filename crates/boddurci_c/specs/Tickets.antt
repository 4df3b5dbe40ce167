-- Runs in three steps: ask, work, finish (own).
use Rattle.std.specs.Prelude.{◌≡◌, ◌⊎◌, ℕ, true, List, Option, Some, None, IsSome, slice_get}
use Rattle.std.specs.declared.alloc.Global.{Global}
use Rattle.store_cmd.specs.declared.Command.TheVariants as commands
use Rattle.store_cmd.specs.declared.Reply.{Reply}
use Rattle.bpf_verify.specs.Verified.{Accepted}
use Rattle.boddurci_handles.specs.declared.opened.Db.{Db}
use Rattle.boddurci_handles.specs.declared.status.Status.{Status}
use Rattle.boddurci_handles.specs.declared.status.Status.TheVariants.{Done, NoMemory, NoTicket}
use Rattle.boddurci_handles.specs.Statuses.{status_code, status_of_reply}
use Rattle.boddurci_c.specs.Calls.{At, HandleShows, CallDenies, DeniesAsk, DoesCommand, IsRunEnd}
use Rattle.boddurci_handles.specs.Asked.{Asked, IsAskedOf, DeniesFinish, worked_out}

-- a requested run of the program with a number, with the page of its key in the database
pub record IsRunAsked (number : ℕ) (key arg : List ℕ) (blank : Option ℕ) (now : ℕ) (d : Db) (a : Asked) : Type 0 where
  pub program : Accepted
  pub there : slice_get d.registry.programs number ≡ Some program
  pub asked : IsAskedOf d.image (commands.Run key program.code arg blank now) a

-- the requested run is put under the ticket
pub record AsksRun (number : ℕ) (key arg : List ℕ) (blank : Option ℕ) (now : ℕ) (old : Option Db) (code : ℕ) (new : Option Db) (ticket : Option Asked) : Type 0 where
  pub code_is : code ≡ status_code Done
  pub asked : Asked
  pub ticket_is : ticket ≡ Some asked
  pub is : HandleShows old new (λ d. IsRunAsked number key arg blank now d asked)

-- the run is not requested, and the ticket is unchanged
pub record AsksNot (number : ℕ) (key arg : List ℕ) (blank : Option ℕ) (now : ℕ) (old : Option Db) (code : ℕ) (new : Option Db) (ticket_old ticket_new : Option Asked) : Type 0 where
  pub same : ticket_new ≡ ticket_old
  pub denied : CallDenies (DeniesAsk number key arg blank now) old code new

-- the run under the ticket is computed
pub record Works (old : Option Asked) (code : ℕ) (new : Option Asked) : Type 0 where
  pub asked : Asked
  pub code_is : code ≡ status_code Done
  pub old_is : old ≡ Some asked
  pub new_is : new ≡ Some (worked_out asked)

pub record WorksNot (old : Option Asked) (code : ℕ) (new : Option Asked) : Type 0 where
  pub same : new ≡ old
  pub why : ((code ≡ status_code NoTicket) × (old ≡ None)) ⊎ ((code ≡ status_code NoMemory) × IsSome old)

-- The computed run of a ticket is executed as one command on the current database. The ticket is then free.
pub record FinishesOn (d : Db) (old : Option Asked) (reply : Reply Global) (d' : Db) (new : Option Asked) : Type 0 where
  pub asked : Asked
  pub old_is : old ≡ Some asked
  pub worked : asked.is_worked ≡ true
  pub does : DoesCommand d asked.command reply d'
  pub free : new ≡ None

-- the reason why the run of a ticket is not finished
abbrev pub WhyNot : Option Asked → Db → Status → Type 0
WhyNot None d status = status ≡ NoTicket
WhyNot (Some a) d status = DeniesFinish d.limit d.image a status

pub record FinishesTicket (old : Option Db) (code : ℕ) (new : Option Db) (ticket_old ticket_new : Option Asked) (end word : ℕ) : Type 0 where
  pub reply : Reply Global
  pub code_is : code ≡ status_code (status_of_reply reply)
  pub does : At old new (λ d d'. FinishesOn d ticket_old reply d' ticket_new)
  pub told : IsRunEnd reply end word

-- no run is finished, and the ticket is unchanged
pub record FinishesNot (old : Option Db) (code : ℕ) (new : Option Db) (ticket_old ticket_new : Option Asked) : Type 0 where
  pub same : ticket_new ≡ ticket_old
  pub denied : CallDenies (WhyNot ticket_old) old code new
