-- The opening of a store, and the sessions that share it.
use Rattle.std.specs.Prelude.{◌≡◌, ℕ, ◌++◌, ◌⊎◌, List, [], ◌∷◌, Option, Some, None, Ok, Err}
use Rattle.std.specs.FinMap as map
use Rattle.sdbm_addr.specs.declared.KeyBytes.{KeyBytes}
use Rattle.sdbm_addr.specs.declared.PageSize.{PageSize}
use Rattle.sdbm_addr.specs.Pairs.{Pair}
use Rattle.sdbm_addr.specs.Database.{Database, map_of}
use Rattle.store_cmd.specs.declared.Command.{Command}
use Rattle.store_cmd.specs.declared.Command.TheVariants.{Count}
use Rattle.store_cmd.specs.declared.Reply.{Reply}
use Rattle.store_cmd.specs.declared.Reply.TheVariants as replies
use Rattle.store_cmd.specs.declared.Entry.{Entry}
use Rattle.store_cmd.specs.declared.Refusal.{Refusal}
use Rattle.store_cmd.specs.declared.Refusal.TheVariants.{PairTooLarge, ArgTooLong, TrailFull, NoMemory, Strayed}
use Rattle.store_cmd.specs.Command.{IsSmall, FitsPair, FitsArgument}
use Rattle.desk_core.specs.declared.Asked.{Asked}
use Rattle.desk_core.specs.declared.Asked.TheVariants as asked
use Rattle.desk_core.specs.declared.job.Open.{Open}
use Rattle.store_shared.specs.declared.serving.Closing.{Closing}
use Rattle.store_shared.specs.declared.serving.Closing.TheVariants.{Commit, GiveUp}
use Rattle.store_shared.specs.declared.serving.Attempt.{Attempt}
use Rattle.store_shared.specs.declared.serving.Attempt.TheVariants.{Ended, Busy}
use Rattle.store_moves.specs.Works.{HasKey, HasEnd}
use Rattle.desk_core.specs.Jobs.{worked}
use Rattle.desk_core.specs.Desk.{DeskState, ticket_of}
use Rattle.desk_core.specs.Calls.{Abandons, Finishes}

-- the hash kind and page size of a store, and the pairs with which it was opened
pub record Opened : Type 0 where
  pub kind : KeyBytes
  pub size : PageSize
  pub opening : List Pair

abbrev pub opened_by : Database → Opened
opened_by db = record { kind = db.kind; size = db.size; opening = map.entries (map_of db) }

-- a session: its number, the page size of its store, and its answered calls
pub record SessionState (A : Type 0) : Type 0 where
  pub number : ℕ
  pub size : PageSize
  pub calls : List (Entry A)

-- the calls of an ended session, with its number
pub record CallsState (A : Type 0) : Type 0 where
  pub number : ℕ
  pub calls : List (Entry A)

abbrev pub calls_left : {A : Type 0} → SessionState A → CallsState A
calls_left s = record { number = s.number; calls = s.calls }

-- the session with this number, page size and list of calls
abbrev pub session_of : {A : Type 0} → ℕ → PageSize → List (Entry A) → SessionState A
session_of number size calls = record { number = number; size = size; calls = calls }

-- the entry of a session's answered call, as in a trail
abbrev pub entry_of : {A : Type 0} → ℕ → Command A → Reply A → Entry A
entry_of session command reply = record { session = session; command = command; reply = reply }

-- the session after one more answered call
abbrev pub with_call : {A : Type 0} → SessionState A → Command A → Reply A → SessionState A
with_call s command reply = record { number = s.number; size = s.size; calls = s.calls ++ entry_of s.number command reply ∷ [] }

-- the reply is the result of a session's command on some page; if the command is a run, it ends
pub record IsWorkedFor {A : Type 0} (session : ℕ) (command : Command A) (reply : Reply A) : Type 0 where
  pub keyed : HasKey command
  pub asked : Open A
  pub session_is : asked.session ≡ session
  pub command_is : asked.command ≡ command
  pub reply_is : reply ≡ (worked asked).reply
  pub ends : HasEnd asked.page.pairs asked.session asked.command

-- the command is a count, and the reply is a number
pub record IsCounted {A : Type 0} (command : Command A) (reply : Reply A) : Type 0 where
  pub counts : command ≡ Count
  pub count : ℕ
  pub reply_is : reply ≡ replies.Count count

-- a reply to this command of this session
abbrev pub IsReplyTo : {A : Type 0} → ℕ → Command A → Reply A → Type 0
IsReplyTo session command reply = IsWorkedFor session command reply ⊎ IsCounted command reply

-- the desk returned a job for this command of this session, or the reply to a count
abbrev pub IsAskedFor : {A : Type 0} → ℕ → Command A → Asked A → Type 0
IsAskedFor session command (asked.Job job) = HasKey command × ((job.asked.session ≡ session) × (job.asked.command ≡ command))
IsAskedFor session command (asked.Answered reply) = IsCounted command reply

-- a refusal for a reason other than size
abbrev pub IsNotForSize : Refusal → Type 0
IsNotForSize PairTooLarge = ⊥
IsNotForSize ArgTooLong = ⊥
IsNotForSize TrailFull = Unit {0}
IsNotForSize NoMemory = Unit {0}
IsNotForSize Strayed = Unit {0}

-- The outcome of a request: a job or a reply for this command, a refusal for a reason other than size, or the command itself.
abbrev pub IsTried : {A : Type 0} → ℕ → Command A → Attempt A → Type 0
IsTried session command (Ended (Ok asked)) = IsAskedFor session command asked
IsTried session command (Ended (Err refusal)) = IsNotForSize refusal
IsTried session command (Busy refused) = refused ≡ command

-- The effect on a desk of closing a ticket. Its computed command is committed; or the ticket is abandoned if it is still open.
abbrev pub ClosesTicket : {A : Type 0} → Closing A → DeskState A → Option (Reply A) → DeskState A → Type 0
ClosesTicket (Commit done) s None s' = ⊥
ClosesTicket (Commit done) s (Some reply) s' = Finishes s done reply s'
ClosesTicket (GiveUp ticket) s reply s' = Abandons s ticket.0 s' ⊎ ((ticket_of s ticket.0 ≡ None) × (s' ≡ s))

-- The refusals of a command: `PairTooLarge` if its pair is too large, otherwise `ArgTooLong` if its argument is. Any other
-- refusal requires that its sizes are valid.
abbrev pub IsRefusal : {A : Type 0} → PageSize → Command A → Refusal → Type 0
IsRefusal size command PairTooLarge = ¬ (FitsPair size command)
IsRefusal size command ArgTooLong = FitsPair size command × ¬ (FitsArgument command)
IsRefusal size command TrailFull = IsSmall size command
IsRefusal size command NoMemory = IsSmall size command
IsRefusal size command Strayed = IsSmall size command
