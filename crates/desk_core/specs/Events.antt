-- Lists of events on a desk: the effect and the outcome of each.
use Rattle.std.specs.Prelude.{◌≡◌, ℕ, Bool, true, false, cond, nat_eq, List, [], ◌∷◌, ◌++◌, Option, Some, None}
use Rattle.store_cmd.specs.declared.Command.{Command}
use Rattle.sdbm_addr.specs.Database.{map_of}
use Rattle.store_cmd.specs.declared.Entry.{Entry}
use Rattle.store_cmd.specs.History.{History}
use Rattle.desk_core.specs.declared.events.Event.{Event}
use Rattle.desk_core.specs.declared.events.Event.TheVariants as event
use Rattle.desk_core.specs.declared.events.EventOutcome.{EventOutcome}
use Rattle.desk_core.specs.declared.events.EventOutcome.TheVariants as outcome
use Rattle.desk_core.specs.declared.events.InHand.{InHand}
use Rattle.desk_core.specs.declared.events.InHand.TheVariants as hand
use Rattle.desk_core.specs.declared.Asked.TheVariants as asked
use Rattle.store_moves.specs.Acts.{ActsInTurn}
use Rattle.desk_core.specs.Jobs.{Ticketed}
use Rattle.desk_core.specs.Desk.{DeskState, IsSound, ticket_of}
use Rattle.desk_core.specs.Calls.{Asks, IsAskFault, Converts, IsConvertFault, Finishes, IsFinishFault, Abandons}

-- the command in hand under each ticket
abbrev pub Hands : Type 0 → Type 0
Hands A = ℕ → Option (InHand A)

-- nothing is in hand
abbrev pub no_hands : {A : Type 0} → Hands A
no_hands t = None

-- nothing changes in hand
abbrev pub Stay : {A : Type 0} → Hands A → Hands A → Type 0
Stay h h' = (u : ℕ) → h' u ≡ h u

-- `x` is now in hand under ticket t, and nothing changes under other tickets
abbrev pub Put : {A : Type 0} → Hands A → ℕ → Option (InHand A) → Hands A → Type 0
Put h t x h' = (u : ℕ) → h' u ≡ cond (nat_eq t u) x (h u)

abbrev pub is_job : {A : Type 0} → Option (InHand A) → Bool
is_job None = false
is_job (Some (hand.Job j)) = true
is_job (Some (hand.Done d)) = false

abbrev pub is_done : {A : Type 0} → Option (InHand A) → Bool
is_done None = false
is_done (Some (hand.Job j)) = false
is_done (Some (hand.Done d)) = true

-- A requested job is in hand under its ticket and replaces any earlier command there.
abbrev pub OnAsk : {A : Type 0} → DeskState A → Hands A → ℕ → Command A → EventOutcome A → DeskState A → Hands A → Type 0
OnAsk {A} s h session command (outcome.Asked t) s' h' = (j : Ticketed A) × ((j.ticket ≡ t.0) × (Asks s session command (asked.Job j) s' × Put h t.0 (Some (hand.Job j)) h'))
OnAsk s h session command (outcome.Answered reply) s' h' = Asks s session command (asked.Answered reply) s' × Stay h h'
OnAsk s h session command (outcome.AskRefused fault) s' h' = IsAskFault s command fault × ((s' ≡ s) × Stay h h')
OnAsk s h session command outcome.Worked s' h' = ⊥
OnAsk s h session command outcome.WorkRefused s' h' = ⊥
OnAsk s h session command outcome.Converted s' h' = ⊥
OnAsk s h session command (outcome.ConvertRefused fault) s' h' = ⊥
OnAsk s h session command (outcome.Finished reply) s' h' = ⊥
OnAsk s h session command (outcome.FinishRefused fault) s' h' = ⊥
OnAsk s h session command outcome.Abandoned s' h' = ⊥
OnAsk s h session command outcome.AbandonRefused s' h' = ⊥
OnAsk s h session command outcome.NoHand s' h' = ⊥

-- A job in hand becomes a computed command, which is modelled as the same value.
abbrev pub OnWork : {A : Type 0} → Hands A → ℕ → EventOutcome A → Hands A → Type 0
OnWork {A} h t outcome.Worked h' = (j : Ticketed A) × ((h t ≡ Some (hand.Job j)) × Put h t (Some (hand.Done j)) h')
OnWork {A} h t outcome.WorkRefused h' = (j : Ticketed A) × ((h t ≡ Some (hand.Job j)) × Stay h h')
OnWork h t outcome.NoHand h' = (is_job (h t) ≡ false) × Stay h h'
OnWork h t (outcome.Asked u) h' = ⊥
OnWork h t (outcome.Answered reply) h' = ⊥
OnWork h t (outcome.AskRefused fault) h' = ⊥
OnWork h t outcome.Converted h' = ⊥
OnWork h t (outcome.ConvertRefused fault) h' = ⊥
OnWork h t (outcome.Finished reply) h' = ⊥
OnWork h t (outcome.FinishRefused fault) h' = ⊥
OnWork h t outcome.Abandoned h' = ⊥
OnWork h t outcome.AbandonRefused h' = ⊥

abbrev pub OnConvert : {A : Type 0} → DeskState A → ℕ → EventOutcome A → DeskState A → Type 0
OnConvert s t outcome.Converted s' = Converts s t s'
OnConvert s t (outcome.ConvertRefused fault) s' = IsConvertFault s t fault × (s' ≡ s)
OnConvert s t (outcome.Asked u) s' = ⊥
OnConvert s t (outcome.Answered reply) s' = ⊥
OnConvert s t (outcome.AskRefused fault) s' = ⊥
OnConvert s t outcome.Worked s' = ⊥
OnConvert s t outcome.WorkRefused s' = ⊥
OnConvert s t (outcome.Finished reply) s' = ⊥
OnConvert s t (outcome.FinishRefused fault) s' = ⊥
OnConvert s t outcome.Abandoned s' = ⊥
OnConvert s t outcome.AbandonRefused s' = ⊥
OnConvert s t outcome.NoHand s' = ⊥

-- A computed command in hand is finished and removed. If `finish` refuses it, it stays in hand.
abbrev pub OnFinish : {A : Type 0} → DeskState A → Hands A → ℕ → EventOutcome A → DeskState A → Hands A → Type 0
OnFinish {A} s h t (outcome.Finished reply) s' h' = (d : Ticketed A) × ((h t ≡ Some (hand.Done d)) × (Finishes s d reply s' × Put h t None h'))
OnFinish {A} s h t (outcome.FinishRefused fault) s' h' = (d : Ticketed A) × ((h t ≡ Some (hand.Done d)) × (IsFinishFault s d fault × ((s' ≡ s) × Stay h h')))
OnFinish s h t outcome.NoHand s' h' = (is_done (h t) ≡ false) × ((s' ≡ s) × Stay h h')
OnFinish s h t (outcome.Asked u) s' h' = ⊥
OnFinish s h t (outcome.Answered reply) s' h' = ⊥
OnFinish s h t (outcome.AskRefused fault) s' h' = ⊥
OnFinish s h t outcome.Worked s' h' = ⊥
OnFinish s h t outcome.WorkRefused s' h' = ⊥
OnFinish s h t outcome.Converted s' h' = ⊥
OnFinish s h t (outcome.ConvertRefused fault) s' h' = ⊥
OnFinish s h t outcome.Abandoned s' h' = ⊥
OnFinish s h t outcome.AbandonRefused s' h' = ⊥

abbrev pub OnAbandon : {A : Type 0} → DeskState A → ℕ → EventOutcome A → DeskState A → Type 0
OnAbandon s t outcome.Abandoned s' = Abandons s t s'
OnAbandon s t outcome.AbandonRefused s' = (ticket_of s t ≡ None) × (s' ≡ s)
OnAbandon s t (outcome.Asked u) s' = ⊥
OnAbandon s t (outcome.Answered reply) s' = ⊥
OnAbandon s t (outcome.AskRefused fault) s' = ⊥
OnAbandon s t outcome.Worked s' = ⊥
OnAbandon s t outcome.WorkRefused s' = ⊥
OnAbandon s t outcome.Converted s' = ⊥
OnAbandon s t (outcome.ConvertRefused fault) s' = ⊥
OnAbandon s t (outcome.Finished reply) s' = ⊥
OnAbandon s t (outcome.FinishRefused fault) s' = ⊥
OnAbandon s t outcome.NoHand s' = ⊥

-- the effect and the outcome of an event, in a given state and with the given commands in hand
abbrev pub Does : {A : Type 0} → DeskState A → Hands A → Event A → EventOutcome A → DeskState A → Hands A → Type 0
Does s h (event.Ask session command) out s' h' = OnAsk s h session command out s' h'
Does s h (event.Work t) out s' h' = OnWork h t.0 out h' × (s' ≡ s)
Does s h (event.Convert t) out s' h' = OnConvert s t.0 out s' × Stay h h'
Does s h (event.Finish t) out s' h' = OnFinish s h t.0 out s' h'
Does s h (event.Abandon t) out s' h' = OnAbandon s t.0 out s' × Stay h h'

-- events in order, each with its outcome; the desk is sound after each event
abbrev pub Plays : {A : Type 0} → DeskState A → Hands A → List (Event A) → List (EventOutcome A) → DeskState A → Hands A → Type 0
Plays s h [] [] s' h' = (s' ≡ s) × Stay h h'
Plays s h [] (out ∷ outs) s' h' = ⊥
Plays s h (e ∷ es) [] s' h' = ⊥
Plays {A} s h (e ∷ es) (out ∷ outs) s' h' = (mid : DeskState A) × ((held : Hands A) × (Does s h e out mid held × (IsSound mid × Plays mid held es outs s' h')))

-- Entries were added. They lead from the database before to the database after, and are a legal history between the maps of
-- both.
pub record GoesOn {A : Type 0} (s s' : DeskState A) : Type 0 where
  pub added : List (Entry A)
  pub entries : s'.entries ≡ s.entries ++ added
  pub acts : ActsInTurn s.database added s'.database
  pub legal : History s.database.size s.database.kind (map_of s.database) added (map_of s'.database)
