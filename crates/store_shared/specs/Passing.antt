-- The outcomes of calls that take no ticket.
use Rattle.std.specs.Prelude.{◌≡◌, ◌<◌, ℕ, Ok, Err}
use Rattle.bpf_insn.specs.Code.{unit_count}
use Rattle.store_cmd.specs.declared.Command.{Command}
use Rattle.store_cmd.specs.declared.Command.TheVariants.{Fetch, Store, Delete, Run, Count}
use Rattle.desk_core.specs.declared.step.ReplyPair.{ReplyPair}
use Rattle.store_shared.specs.declared.passing.TriedStep.{TriedStep}
use Rattle.store_shared.specs.declared.passing.TriedStep.TheVariants.{Ended, Busy}
use Rattle.store_shared.specs.declared.passing.Looking.{Looking}
use Rattle.store_shared.specs.declared.passing.Looking.TheVariants as looking
use Rattle.store_shared.specs.declared.passing.Passing.{Passing}
use Rattle.store_shared.specs.declared.passing.Passing.TheVariants as passing
use Rattle.store_shared.specs.Shared.{IsReplyTo, IsNotForSize}

-- the longest program, in units, that runs under the lock
abbrev pub short_limit : ℕ
short_limit = 256

-- a run of a program of more than `short_limit` units
abbrev pub IsLong : {A : Type 0} → Command A → Type 0
IsLong (Fetch key) = ⊥
IsLong (Store key value mode) = ⊥
IsLong (Delete key) = ⊥
IsLong (Run key program argument blank now) = short_limit < unit_count program
IsLong Count = ⊥

-- a reply to this command of this session, and a copy of the reply
pub record IsStepped {A : Type 0} (session : ℕ) (command : Command A) (stepped : ReplyPair A) : Type 0 where
  pub reply : IsReplyTo session command stepped.reply
  pub copy : stepped.copy ≡ stepped.reply

-- the outcome of a step: a reply, a refusal for a reason other than size, or the command itself
abbrev pub IsTriedStep : {A : Type 0} → ℕ → Command A → TriedStep A → Type 0
IsTriedStep session command (Ended (Ok stepped)) = IsStepped session command stepped
IsTriedStep session command (Ended (Err refusal)) = IsNotForSize refusal
IsTriedStep session command (Busy refused) = refused ≡ command

-- the outcome of taking a `Look`: a look for this command of this session, a refusal for a reason other than size, or the
-- command itself
abbrev pub IsLooked : {A : Type 0} → ℕ → Command A → Looking A → Type 0
IsLooked session command (looking.Looked look) = (look.session ≡ session) × (look.command ≡ command)
IsLooked session command (looking.Refused refusal) = IsNotForSize refusal
IsLooked session command (looking.Barred refused) = refused ≡ command

-- the outcome of a call without a ticket: a reply, or the command itself
abbrev pub IsPassed : {A : Type 0} → ℕ → Command A → Passing A → Type 0
IsPassed session command (passing.Passed stepped) = IsStepped session command stepped
IsPassed session command (passing.Barred refused) = refused ≡ command
