-- Events played in order.
use Rattle.std.proofs.Common.{◌≡◌, ℕ, List, [], ◌∷◌, ◌++◌, refl, sym, ap, ◌∙◌, subst, append_assoc}
use Rattle.std.proofs.lemmas.List.{append-nil}
use Rattle.sdbm_addr.specs.declared.KeyBytes.{KeyBytes}
use Rattle.sdbm_addr.specs.declared.PageSize.{PageSize}
use Rattle.sdbm_addr.specs.Database.{Database, map_of}
use Rattle.store_cmd.specs.declared.Command.{Command}
use Rattle.store_cmd.specs.declared.Command.TheVariants.{Count}
use Rattle.store_cmd.specs.declared.Entry.{Entry}
use Rattle.store_cmd.specs.History.{History}
use Rattle.store_cmd.proofs.MovesLemmas.{Replies-from_Moves}
use Rattle.desk_core.specs.declared.events.Event.{Event}
use Rattle.desk_core.specs.declared.events.Event.TheVariants as event
use Rattle.desk_core.specs.declared.events.EventOutcome.TheVariants as outcome
use Rattle.desk_core.specs.declared.events.EventOutcome.{EventOutcome}
use Rattle.store_moves.specs.Leads.{state_of}
use Rattle.desk_core.specs.Desk.{DeskState, IsSound}
use Rattle.store_moves.specs.Acts.{Acts, ActsInTurn}
use Rattle.desk_core.specs.Events.{Hands, Does, Plays, GoesOn, OnAsk, OnConvert, OnFinish, OnAbandon}
use Rattle.store_moves.proofs.Acting.{Acts-count}

-- one more event
pub Plays-push : {A : Type 0} (s mid s' : DeskState A) (h held h' : Hands A) (es : List (Event A)) (outs : List (EventOutcome A)) (e : Event A) (out : EventOutcome A)
    → Plays s h es outs mid held → Does mid held e out s' h' → IsSound s' → Plays s h (es ++ e ∷ []) (outs ++ out ∷ []) s' h'
Plays-push {A} s mid s' h held h' [] [] e out p d ok =
    let same : held ≡ h = λ i u. p.1 u i in
    (s', (h', (subst (λ (k : Hands A). Does s k e out s' h') same (subst (λ (m : DeskState A). Does m held e out s' h') p.0 d), (ok, (refl, λ u. refl)))))
Plays-push s mid s' h held h' [] (o ∷ outs) e out p d ok = absurd p
Plays-push s mid s' h held h' (f ∷ es) [] e out p d ok = absurd p
Plays-push s mid s' h held h' (f ∷ es) (o ∷ outs) e out p d ok =
    (p.0, (p.1.0, (p.1.1.0, (p.1.1.1.0, Plays-push p.0 mid s' p.1.0 held h' es outs e out p.1.1.1.1 d ok))))

-- ---- added entries

ActsInTurn-append : {A : Type 0} (db mid db' : Database) (es more : List (Entry A)) → ActsInTurn db es mid → ActsInTurn mid more db' → ActsInTurn db (es ++ more) db'
ActsInTurn-append {A} db mid db' [] more p q = subst (λ (d : Database). ActsInTurn d more db') p q
ActsInTurn-append db mid db' (e ∷ es) more p q = (p.0, (p.1.0, ActsInTurn-append p.0 mid db' es more p.1.1 q))

-- entries executed in order are a legal history
pub History-acts_in_turn : {A : Type 0} (db db' : Database) (es : List (Entry A)) → ActsInTurn db es db' → History db.size db.kind (map_of db) es (map_of db')
History-acts_in_turn db db' [] p = ap map_of p
History-acts_in_turn {A} db db' (e ∷ es) p =
    let mid : Database = p.0 in
    let acts = p.1.0 in
    let rest : History mid.size mid.kind (map_of mid) es (map_of db') = History-acts_in_turn mid db' es p.1.1 in (
      map_of mid,
      (
        (acts.small, Replies-from_Moves (state_of db) e (state_of mid) acts.move),
        subst (λ (size : PageSize). History size db.kind (map_of mid) es (map_of db')) acts.move.size
            (subst (λ (kind : KeyBytes). History mid.size kind (map_of mid) es (map_of db')) acts.move.kind rest),
      ),
    )

goes_on : {A : Type 0} (s s' : DeskState A) (added : List (Entry A)) → s'.entries ≡ s.entries ++ added → ActsInTurn s.database added s'.database → GoesOn s s'
goes_on s s' added entries acts = record { added = added; entries = entries; acts = acts; legal = History-acts_in_turn s.database s'.database added acts }

-- nothing is added
unchanged : {A : Type 0} (s s' : DeskState A) → s'.entries ≡ s.entries → s'.database ≡ s.database → GoesOn s s'
unchanged s s' e d = goes_on s s' [] (e ∙ sym (append-nil s.entries)) d

same : {A : Type 0} (s s' : DeskState A) → s' ≡ s → GoesOn s s'
same {A} s s' e = unchanged s s' (ap (λ (x : DeskState A). x.entries) e) (ap (λ (x : DeskState A). x.database) e)

-- one entry is added
one_more : {A : Type 0} (s s' : DeskState A) (e : Entry A) → s'.entries ≡ s.entries ++ e ∷ [] → Acts s.database e s'.database → GoesOn s s'
one_more s s' e more acts = goes_on s s' (e ∷ []) more (s'.database, (acts, refl))

GoesOn-trans : {A : Type 0} (s mid s' : DeskState A) → GoesOn s mid → GoesOn mid s' → GoesOn s s'
GoesOn-trans {A} s mid s' p q =
    goes_on s s' (p.added ++ q.added) (q.entries ∙ ap (λ (es : List (Entry A)). es ++ q.added) p.entries ∙ append_assoc s.entries p.added q.added)
    (ActsInTurn-append s.database mid.database s'.database p.added q.added p.acts q.acts)

on_ask : {A : Type 0} (s s' : DeskState A) (h h' : Hands A) (session : ℕ) (command : Command A) (out : EventOutcome A) → OnAsk s h session command out s' h' → GoesOn s s'
on_ask s s' h h' session command (outcome.Asked u) p = unchanged s s' p.1.1.0.1.1.entries p.1.1.0.1.1.database
on_ask s s' h h' session command (outcome.Answered reply) p = one_more s s' (record { session = session; command = Count; reply = reply }) p.0.1.1.entries (Acts-count s.database s'.database session reply p.0.1.1.reply_is p.0.1.1.database)
on_ask s s' h h' session command (outcome.AskRefused fault) p = same s s' p.1.0
on_ask s s' h h' session command outcome.Worked p = absurd p
on_ask s s' h h' session command outcome.WorkRefused p = absurd p
on_ask s s' h h' session command outcome.Converted p = absurd p
on_ask s s' h h' session command (outcome.ConvertRefused fault) p = absurd p
on_ask s s' h h' session command (outcome.Finished reply) p = absurd p
on_ask s s' h h' session command (outcome.FinishRefused fault) p = absurd p
on_ask s s' h h' session command outcome.Abandoned p = absurd p
on_ask s s' h h' session command outcome.AbandonRefused p = absurd p
on_ask s s' h h' session command outcome.NoHand p = absurd p

on_convert : {A : Type 0} (s s' : DeskState A) (t : ℕ) (out : EventOutcome A) → OnConvert s t out s' → GoesOn s s'
on_convert s s' t (outcome.Asked u) p = absurd p
on_convert s s' t (outcome.Answered reply) p = absurd p
on_convert s s' t (outcome.AskRefused fault) p = absurd p
on_convert s s' t outcome.Worked p = absurd p
on_convert s s' t outcome.WorkRefused p = absurd p
on_convert s s' t outcome.Converted p = unchanged s s' (ap (λ (x : DeskState _). x.entries) p.is) (ap (λ (x : DeskState _). x.database) p.is)
on_convert s s' t (outcome.ConvertRefused fault) p = same s s' p.1
on_convert s s' t (outcome.Finished reply) p = absurd p
on_convert s s' t (outcome.FinishRefused fault) p = absurd p
on_convert s s' t outcome.Abandoned p = absurd p
on_convert s s' t outcome.AbandonRefused p = absurd p
on_convert s s' t outcome.NoHand p = absurd p

on_finish : {A : Type 0} (s s' : DeskState A) (h h' : Hands A) (t : ℕ) (out : EventOutcome A) → OnFinish s h t out s' h' → GoesOn s s'
on_finish s s' h h' t (outcome.Asked u) p = absurd p
on_finish s s' h h' t (outcome.Answered reply) p = absurd p
on_finish s s' h h' t (outcome.AskRefused fault) p = absurd p
on_finish s s' h h' t outcome.Worked p = absurd p
on_finish s s' h h' t outcome.WorkRefused p = absurd p
on_finish s s' h h' t outcome.Converted p = absurd p
on_finish s s' h h' t (outcome.ConvertRefused fault) p = absurd p
on_finish s s' h h' t (outcome.Finished reply) p = one_more s s' (record { session = p.0.asked.session; command = p.0.asked.command; reply = reply }) p.1.1.0.entries p.1.1.0.acts
on_finish s s' h h' t (outcome.FinishRefused fault) p = same s s' p.1.1.1.0
on_finish s s' h h' t outcome.Abandoned p = absurd p
on_finish s s' h h' t outcome.AbandonRefused p = absurd p
on_finish s s' h h' t outcome.NoHand p = same s s' p.1.0

on_abandon : {A : Type 0} (s s' : DeskState A) (t : ℕ) (out : EventOutcome A) → OnAbandon s t out s' → GoesOn s s'
on_abandon s s' t (outcome.Asked u) p = absurd p
on_abandon s s' t (outcome.Answered reply) p = absurd p
on_abandon s s' t (outcome.AskRefused fault) p = absurd p
on_abandon s s' t outcome.Worked p = absurd p
on_abandon s s' t outcome.WorkRefused p = absurd p
on_abandon s s' t outcome.Converted p = absurd p
on_abandon s s' t (outcome.ConvertRefused fault) p = absurd p
on_abandon s s' t (outcome.Finished reply) p = absurd p
on_abandon s s' t (outcome.FinishRefused fault) p = absurd p
on_abandon s s' t outcome.Abandoned p = unchanged s s' p.entries p.database
on_abandon s s' t outcome.AbandonRefused p = same s s' p.1
on_abandon s s' t outcome.NoHand p = absurd p

does : {A : Type 0} (s s' : DeskState A) (h h' : Hands A) (e : Event A) (out : EventOutcome A) → Does s h e out s' h' → GoesOn s s'
does s s' h h' (event.Ask session command) out p = on_ask s s' h h' session command out p
does s s' h h' (event.Work t) out p = same s s' p.1
does s s' h h' (event.Convert t) out p = on_convert s s' t.0 out p.0
does s s' h h' (event.Finish t) out p = on_finish s s' h h' t.0 out p
does s s' h h' (event.Abandon t) out p = on_abandon s s' t.0 out p.0

-- playing events adds entries in order
pub GoesOn-from_Plays : {A : Type 0} (s s' : DeskState A) (h h' : Hands A) (es : List (Event A)) (outs : List (EventOutcome A)) → Plays s h es outs s' h' → GoesOn s s'
GoesOn-from_Plays s s' h h' [] [] p = same s s' p.0
GoesOn-from_Plays s s' h h' [] (o ∷ outs) p = absurd p
GoesOn-from_Plays s s' h h' (e ∷ es) [] p = absurd p
GoesOn-from_Plays s s' h h' (e ∷ es) (o ∷ outs) p = GoesOn-trans s p.0 s' (does s p.0 h p.1.0 e o p.1.1.0) (GoesOn-from_Plays p.0 s' p.1.0 h' es outs p.1.1.1.1)
