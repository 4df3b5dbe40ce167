-- The effects of a desk's calls.
use Rattle.std.specs.Prelude.{◌≡◌, ◌≢◌, ◌⊎◌, ℕ, ◌+◌, ◌<◌, ◌≤◌, Bool, true, false, List, [], ◌∷◌, ◌++◌, length, Option, Some, None, IsSome, is_some, slice_index_or, ◌&&◌}
use Rattle.std.specs.List.{list_any}
use Rattle.std.specs.FinMap as map
use Rattle.sdbm_addr.specs.Hash.{hash_of}
use Rattle.sdbm_addr.specs.Directory.{page_of}
use Rattle.sdbm_addr.specs.Database.{Database, pairs_at, map_of}
use Rattle.sdbm_dir.specs.declared.Place.{Place}
use Rattle.hold_modes.specs.declared.modes.Hold.{Hold}
use Rattle.hold_modes.specs.declared.modes.Hold.TheVariants.{Exclusive}
use Rattle.hold_modes.specs.Held.{bars, held_by, without, made_exclusive, exclusive_in, is_updating, is_shared}
use Rattle.store_cmd.specs.declared.Command.{Command}
use Rattle.store_cmd.specs.declared.Command.TheVariants.{Count}
use Rattle.store_cmd.specs.declared.Reply.{Reply}
use Rattle.store_cmd.specs.declared.Reply.TheVariants as replies
use Rattle.store_cmd.specs.declared.SizeFault.{SizeFault}
use Rattle.store_cmd.specs.declared.SizeFault.TheVariants.{PairTooLarge, ArgTooLong}
use Rattle.store_cmd.specs.Command.{FitsPair, FitsArgument, IsSmall}
use Rattle.desk_core.specs.declared.job.Open.{Open}
use Rattle.desk_core.specs.declared.PageNeed.{PageNeed}
use Rattle.desk_core.specs.declared.Asked.{Asked}
use Rattle.desk_core.specs.declared.Asked.TheVariants as asked
use Rattle.desk_core.specs.declared.AskFault.{AskFault}
use Rattle.desk_core.specs.declared.AskFault.TheVariants as af
use Rattle.desk_core.specs.declared.ConvertFault.{ConvertFault}
use Rattle.desk_core.specs.declared.ConvertFault.TheVariants as cf
use Rattle.desk_core.specs.declared.look.PutFault.{PutFault}
use Rattle.desk_core.specs.declared.look.PutFault.TheVariants as pf
use Rattle.desk_core.specs.declared.FinishFault.{FinishFault}
use Rattle.desk_core.specs.declared.FinishFault.TheVariants as ff
use Rattle.store_moves.specs.Works.{PageResult, works, key_of, IsRun}
use Rattle.desk_core.specs.Jobs.{Ticketed, worked}
use Rattle.store_moves.specs.Acts.{Acts}
use Rattle.store_moves.specs.Leads.{changed_by, does_change, is_there, IsPlaceOf}
use Rattle.desk_core.specs.Desk.{DeskState, open_count, ticket_of, the_ticket, first_hold}

-- a newly opened desk
pub record StartsWith {A : Type 0} (db : Database) (limit : ℕ) (s : DeskState A) : Type 0 where
  pub database : s.database ≡ db
  pub opening : s.opening ≡ map.entries (map_of db)
  pub entries : s.entries ≡ []
  pub tickets : s.tickets ≡ []
  pub next : s.next ≡ 0
  pub holds : s.holds ≡ []
  pub limit_is : s.limit ≡ limit

-- the page of a command's key
abbrev pub page_led : {A : Type 0} → DeskState A → Command A → ℕ
page_led s command = page_of s.database.splits (hash_of s.database.kind (key_of command))

-- true if a hold on a page conflicts with this mode
abbrev pub is_barred_in : {A : Type 0} → DeskState A → ℕ → Option Hold → Bool
is_barred_in s page None = false
is_barred_in s page (Some mode) = list_any (bars page mode) s.holds

abbrev pub is_barred : {A : Type 0} → DeskState A → Command A → Bool
is_barred s command = is_barred_in s (page_led s command) (first_hold command)

-- a command that may be requested
pub record MayAsk {A : Type 0} (s : DeskState A) (command : Command A) : Type 0 where
  pub small : IsSmall s.database.size command
  pub room : length s.entries + open_count s < s.limit
  pub free : is_barred s command ≡ false

-- a refusal for size
abbrev pub refusal_of : SizeFault → AskFault
refusal_of PairTooLarge = af.PairTooLarge
refusal_of ArgTooLong = af.ArgTooLong

-- the condition of each refusal
abbrev pub IsAskFault : {A : Type 0} → DeskState A → Command A → AskFault → Type 0
IsAskFault s command af.PairTooLarge = ¬ (FitsPair s.database.size command)
IsAskFault s command af.ArgTooLong = FitsPair s.database.size command × ¬ (FitsArgument command)
IsAskFault s command af.TrailFull = IsSmall s.database.size command × (s.limit ≤ length s.entries + open_count s)
IsAskFault s command af.Busy = IsSmall s.database.size command × ((length s.entries + open_count s < s.limit) × (is_barred s command ≡ true))
IsAskFault s command af.NoMemory = MayAsk s command

-- The place of a command's key, and the mode of its first hold on the page there; `None` for a count.
abbrev pub IsWanted : {A : Type 0} → DeskState A → Command A → Option PageNeed → Type 0
IsWanted s command None = command ≡ Count
IsWanted s command (Some wanted) = (first_hold command ≡ Some wanted.mode) × IsPlaceOf s.database (key_of command) wanted.place

-- the open command under ticket t became `to`, and no other ticket changed
pub record Changes {A : Type 0} (old new : List (Option (Open A))) (t : ℕ) (to : Option (Open A)) : Type 0 where
  pub here : slice_index_or new t None ≡ to
  pub others : (u : ℕ) → u ≢ t → slice_index_or new u None ≡ slice_index_or old u None

-- the open command of a new ticket
pub record IsAsked {A : Type 0} (s : DeskState A) (session : ℕ) (command : Command A) (o : Open A) : Type 0 where
  pub session_is : o.session ≡ session
  pub command_is : o.command ≡ command
  pub kind : o.kind ≡ s.database.kind
  pub place : IsPlaceOf s.database (key_of command) o.place
  pub size : o.page.size ≡ s.database.size
  pub pairs : o.page.pairs ≡ pairs_at s.database o.place.page

-- the next ticket, which was not open, is opened
pub record Opens {A : Type 0} (s : DeskState A) (command : Command A) (j : Ticketed A) (s' : DeskState A) : Type 0 where
  pub mode : Hold
  pub mode_is : first_hold command ≡ Some mode
  pub next : j.ticket ≡ s.next
  pub fresh : ticket_of s j.ticket ≡ None
  pub tickets : Changes s.tickets s'.tickets j.ticket (Some j.asked)
  pub holds : s'.holds ≡ s.holds ++ record { page = j.asked.place.page; mode = mode; ticket = the_ticket j.ticket } ∷ []
  pub database : s'.database ≡ s.database
  pub opening : s'.opening ≡ s.opening
  pub entries : s'.entries ≡ s.entries
  pub limit_is : s'.limit ≡ s.limit
  pub count : open_count s' ≡ open_count s + 1

-- a count is answered: its reply is added to the trail, and nothing else changes
pub record Counts {A : Type 0} (s : DeskState A) (session : ℕ) (reply : Reply A) (s' : DeskState A) : Type 0 where
  pub reply_is : reply ≡ replies.Count (map.len (map_of s.database))
  pub entries : s'.entries ≡ s.entries ++ record { session = session; command = Count; reply = reply } ∷ []
  pub database : s'.database ≡ s.database
  pub opening : s'.opening ≡ s.opening
  pub tickets : s'.tickets ≡ s.tickets
  pub next : s'.next ≡ s.next
  pub holds : s'.holds ≡ s.holds
  pub limit_is : s'.limit ≡ s.limit

-- the result of a request
abbrev pub Asks : {A : Type 0} → DeskState A → ℕ → Command A → Asked A → DeskState A → Type 0
Asks s session command (asked.Job j) s' = MayAsk s command × (IsAsked s session command j.asked × Opens s command j s')
Asks s session command (asked.Answered reply) s' = MayAsk s command × ((command ≡ Count) × Counts s session reply s')

-- the ticket is closed and its hold is released; the next request opens it again
pub record Closes {A : Type 0} (s : DeskState A) (t : ℕ) (s' : DeskState A) : Type 0 where
  pub tickets : Changes s.tickets s'.tickets t None
  pub next : s'.next ≡ t
  pub holds : s'.holds ≡ without (the_ticket t) s.holds
  pub opening : s'.opening ≡ s.opening
  pub limit_is : s'.limit ≡ s.limit
  pub count : open_count s' + 1 ≡ open_count s

-- an update hold is made exclusive, and nothing else changes
pub record Converts {A : Type 0} (s : DeskState A) (t : ℕ) (s' : DeskState A) : Type 0 where
  pub there : IsSome (ticket_of s t)
  pub updating : is_updating (the_ticket t) s.holds ≡ true
  pub alone : is_shared (the_ticket t) s.holds ≡ false
  pub is : s' ≡ record s { holds = made_exclusive (the_ticket t) s.holds }

abbrev pub IsConvertFault : {A : Type 0} → DeskState A → ℕ → ConvertFault → Type 0
IsConvertFault s t cf.NoTicket = ticket_of s t ≡ None
IsConvertFault s t cf.NotUpdating = IsSome (ticket_of s t) × (is_updating (the_ticket t) s.holds ≡ false)
IsConvertFault s t cf.Busy = IsSome (ticket_of s t) × ((is_updating (the_ticket t) s.holds ≡ true) × (is_shared (the_ticket t) s.holds ≡ true))

-- true if a ticket's hold is exclusive
abbrev pub is_exclusive : {A : Type 0} → DeskState A → ℕ → Bool
is_exclusive s t = exclusive_in (held_by (the_ticket t) s.holds)

-- the ticket of a computed command is open with the same command, and its hold is exclusive if the page changes
pub record MayFinish {A : Type 0} (s : DeskState A) (d : Ticketed A) : Type 0 where
  pub own : ticket_of s d.ticket ≡ Some d.asked
  pub alone : is_some (worked d.asked).change ≡ true → is_exclusive s d.ticket ≡ true

-- A computed command is committed: its change is installed, its entry is added, and its ticket is closed.
pub record Finishes {A : Type 0} (s : DeskState A) (d : Ticketed A) (reply : Reply A) (s' : DeskState A) : Type 0 where
  pub may : MayFinish s d
  pub reply_is : reply ≡ (worked d.asked).reply
  pub database : s'.database ≡ changed_by s.database d.asked.place.page (worked d.asked).change
  pub acts : Acts s.database (record { session = d.asked.session; command = d.asked.command; reply = reply }) s'.database
  pub entries : s'.entries ≡ s.entries ++ record { session = d.asked.session; command = d.asked.command; reply = reply } ∷ []
  pub closes : Closes s d.ticket s'

abbrev pub IsFinishFault : {A : Type 0} → DeskState A → Ticketed A → FinishFault → Type 0
IsFinishFault s d ff.NoTicket = ticket_of s d.ticket ≡ None
IsFinishFault {A} s d ff.Foreign = (own : Open A) × ((ticket_of s d.ticket ≡ Some own) × (own ≢ d.asked))
IsFinishFault s d ff.NotExclusive = (ticket_of s d.ticket ≡ Some d.asked) × ((is_some (worked d.asked).change ≡ true) × (is_exclusive s d.ticket ≡ false))
IsFinishFault s d ff.NoMemory = (ticket_of s d.ticket ≡ Some d.asked) × ((is_some (worked d.asked).change ≡ true) × (is_exclusive s d.ticket ≡ true))

-- the ticket is closed and nothing is committed
pub record Abandons {A : Type 0} (s : DeskState A) (t : ℕ) (s' : DeskState A) : Type 0 where
  pub there : IsSome (ticket_of s t)
  pub database : s'.database ≡ s.database
  pub entries : s'.entries ≡ s.entries
  pub closes : Closes s t s'

-- true if a hold bars a change of the command's page
abbrev pub is_held : {A : Type 0} → DeskState A → Command A → Bool
is_held s command = list_any (bars (page_led s command) Exclusive) s.holds

-- the result of a command on the current page of a place
abbrev pub works_there : {A : Type 0} → DeskState A → ℕ → Command A → Place → PageResult A
works_there s session command place = works place s.database.kind s.database.size (pairs_at s.database place.page) session command

-- a command that would change the page of its place
pub record WouldChange {A : Type 0} (s : DeskState A) (session : ℕ) (command : Command A) : Type 0 where
  pub place : Place
  pub leads : IsPlaceOf s.database (key_of command) place
  pub change : is_some (works_there s session command place).change ≡ true

-- A command is executed on the database and adds one entry. Tickets and holds are unchanged. A page that a ticket holds is not
-- changed.
pub record Steps {A : Type 0} (s : DeskState A) (session : ℕ) (command : Command A) (reply : Reply A) (s' : DeskState A) : Type 0 where
  pub may : MayAsk s command
  pub alone : does_change (is_there s.database command) reply ≡ true → is_held s command ≡ false
  pub quiet : does_change (is_there s.database command) reply ≡ false → s'.database ≡ s.database
  pub acts : Acts s.database (record { session = session; command = command; reply = reply }) s'.database
  pub entries : s'.entries ≡ s.entries ++ record { session = session; command = command; reply = reply } ∷ []
  pub opening : s'.opening ≡ s.opening
  pub tickets : s'.tickets ≡ s.tickets
  pub next : s'.next ≡ s.next
  pub holds : s'.holds ≡ s.holds
  pub limit_is : s'.limit ≡ s.limit

-- The condition of each refusal of a step: that of a request; in addition, `Busy` applies if a ticket holds a page that would
-- change. `NoMemory` applies only if no other refusal does. A run is an exception: it allocates before it is known whether its
-- page changes, so it may get `NoMemory` instead of this `Busy`.
abbrev pub IsStepFault : {A : Type 0} → DeskState A → ℕ → Command A → AskFault → Type 0
IsStepFault s session command af.PairTooLarge = IsAskFault s command af.PairTooLarge
IsStepFault s session command af.ArgTooLong = IsAskFault s command af.ArgTooLong
IsStepFault s session command af.TrailFull = IsAskFault s command af.TrailFull
IsStepFault s session command af.Busy = IsAskFault s command af.Busy ⊎ (MayAsk s command × ((is_held s command ≡ true) × WouldChange s session command))
IsStepFault s session command af.NoMemory = MayAsk s command × (IsRun command ⊎ (is_held s command ≡ true → WouldChange s session command → ⊥))

-- ---- commands that are computed on a copy of their page, without a ticket (`look` and `put`)

-- the page of an open command is still the current page of its key, and the database has the same page size and hash kind
abbrev pub IsStill : {A : Type 0} → DeskState A → Open A → Type 0
IsStill s o = IsAsked s o.session o.command o

-- the result of an open command may be installed: its page is unchanged, and if the command changes the page, no ticket
-- holds it
pub record MayPut {A : Type 0} (s : DeskState A) (o : Open A) : Type 0 where
  pub may : MayAsk s o.command
  pub still : IsStill s o
  pub free : (is_some (worked o).change && list_any (bars o.place.page Exclusive) s.holds) ≡ false

-- the result of an open command changes a page that a ticket holds
abbrev pub IsInTheWay : {A : Type 0} → DeskState A → Open A → Type 0
IsInTheWay s o = (is_some (worked o).change && list_any (bars o.place.page Exclusive) s.holds) ≡ true

-- The condition of each refusal of `put`: a request is refused; or the page has changed; or the page is unchanged, and a
-- ticket holds it or memory runs out.
abbrev pub IsPutFault : {A : Type 0} → DeskState A → Open A → PutFault → Type 0
IsPutFault s o (pf.Refused af.PairTooLarge) = IsAskFault s o.command af.PairTooLarge
IsPutFault s o (pf.Refused af.ArgTooLong) = IsAskFault s o.command af.ArgTooLong
IsPutFault s o (pf.Refused af.TrailFull) = IsAskFault s o.command af.TrailFull
IsPutFault s o (pf.Refused af.Busy) = IsAskFault s o.command af.Busy ⊎ (MayAsk s o.command × (IsStill s o × IsInTheWay s o))
IsPutFault s o (pf.Refused af.NoMemory) = MayPut s o
IsPutFault s o pf.Changed = MayAsk s o.command × ¬ (IsStill s o)
