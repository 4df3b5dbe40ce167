-- Every call leaves a desk sound.
use Rattle.std.proofs.Common.{◌≡◌, ◌≢◌, ℕ, ◌+◌, true, false, List, [], ◌∷◌, ◌++◌, refl, sym, ap, subst, ◌∙◌, arith, length-append, Option, Some, None, is_some, length}
use Rattle.std.proofs.lemmas.Bool.{eq-eqb}
use Rattle.std.specs.Prelude.{◌==◌}
use Rattle.std.specs.List.{list_any}
use Rattle.std.specs.FinMap as map
use Rattle.sdbm_addr.specs.declared.KeyBytes.{KeyBytes}
use Rattle.sdbm_addr.specs.declared.PageSize.{PageSize}
use Rattle.sdbm_addr.specs.Pairs.{Pair, Map, key_cmp}
use Rattle.sdbm_addr.specs.Database.{Database, IsDatabase, pairs_at, map_of}
use Rattle.sdbm_addr.proofs.MapLemmas.{from_entries-entries}
use Rattle.hold_modes.specs.declared.modes.Hold.TheVariants.{Update, Exclusive}
use Rattle.hold_modes.specs.declared.modes.Held.{Held}
use Rattle.hold_modes.specs.Held.{held_by, obeys_rule, made_exclusive, update_in, bars}
use Rattle.hold_modes.proofs.HeldLemmas.{held_by-without_self, held_by-without_other, held_by-made_self, held_by-made_other, eq_comm}
use Rattle.sdbm_split.specs.Planned.{PageChange}
use Rattle.store_cmd.specs.declared.Command.{Command}
use Rattle.store_cmd.specs.declared.Command.TheVariants.{Fetch, Store, Delete, Run, Count}
use Rattle.store_cmd.specs.declared.Reply.{Reply}
use Rattle.store_cmd.specs.declared.Entry.{Entry}
use Rattle.store_cmd.specs.Command.{IsSmall}
use Rattle.store_cmd.specs.Answers.{Replies}
use Rattle.store_cmd.specs.History.{History}
use Rattle.store_cmd.proofs.HistoryLemmas.{History-push}
use Rattle.store_cmd.proofs.MovesLemmas.{Replies-from_Moves}
use Rattle.desk_core.specs.declared.job.Open.{Open}
use Rattle.store_moves.specs.Works.{PageResult, works, HasKey, key_of}
use Rattle.desk_core.specs.Jobs.{Ticketed, worked}
use Rattle.store_moves.specs.Leads.{state_of, changed_by, MayChange, LeadsTo, IsPlaceOf, does_change, is_there}
use Rattle.desk_core.specs.Desk.{DeskState, IsSound, IsTied, Ties, MayHold, the_ticket, ticket_of, open_count}
use Rattle.store_moves.specs.Acts.{Acts, IsOnPage}
use Rattle.desk_core.specs.Calls.{StartsWith, MayAsk, IsAsked, Opens, Counts, Closes, Converts, Finishes, Abandons, Steps}
use Rattle.store_moves.proofs.Acting.{Acts-count}
use Rattle.store_moves.proofs.Lifting.{works_lead}
use Rattle.desk_core.proofs.Ties.{either_way, Ties-same, held_by-push_here, held_by-push_other, may_first, may_exclusive, update_is, free_ticket, tied_leads, tied_still, held_apart, not_held, led_there}

-- ---- histories

-- one more entry on a legal history
pub History-acts : {A : Type 0} (db db' : Database) (start : Map) (es es' : List (Entry A)) (e : Entry A) → History db.size db.kind start es (map_of db) → Acts db e db' → es' ≡ es ++ e ∷ []
    → History db'.size db'.kind start es' (map_of db')
History-acts {A} db db' start es es' e legal acts more =
    let replies : Replies db.size db.kind (map_of db) e.session e.command e.reply (map_of db') = Replies-from_Moves (state_of db) e (state_of db') acts.move in
    let pushed = History-push db.size db.kind start (map_of db) (map_of db') es e legal (acts.small, replies) in
    subst (λ (xs : List (Entry A)). History db'.size db'.kind start xs (map_of db')) (sym more)
    (subst (λ (size : PageSize). History size db'.kind start (es ++ e ∷ []) (map_of db')) (sym acts.move.size)
    (subst (λ (kind : KeyBytes). History db.size kind start (es ++ e ∷ []) (map_of db')) (sym acts.move.kind) pushed))

-- the opening of a desk, as a map
abbrev start_of : {A : Type 0} → DeskState A → Map
start_of s = map.from_entries {R = key_cmp} s.opening

-- the desk's history with one more entry
legal_more : {A : Type 0} (s s' : DeskState A) (e : Entry A) → IsSound s → Acts s.database e s'.database → s'.entries ≡ s.entries ++ e ∷ [] → s'.opening ≡ s.opening
    → History s'.database.size s'.database.kind (start_of s') s'.entries (map_of s'.database)
legal_more s s' e sound acts more same =
    subst (λ (op : List Pair). History s'.database.size s'.database.kind (map.from_entries {R = key_cmp} op) s'.entries (map_of s'.database)) (sym same)
    (History-acts s.database s'.database (start_of s) s.entries s'.entries e sound.legal acts more)

-- the history if neither database nor trail has changed
legal_same : {A : Type 0} (s s' : DeskState A) → IsSound s → s'.database ≡ s.database → s'.entries ≡ s.entries → s'.opening ≡ s.opening
    → History s'.database.size s'.database.kind (start_of s') s'.entries (map_of s'.database)
legal_same {A} s s' sound db es op =
    subst (λ (d : Database). History d.size d.kind (start_of s') s'.entries (map_of d)) (sym db)
    (subst (λ (xs : List (Entry A)). History s.database.size s.database.kind (start_of s') xs (map_of s.database)) (sym es)
    (subst (λ (ps : List Pair). History s.database.size s.database.kind (map.from_entries {R = key_cmp} ps) s.entries (map_of s.database)) (sym op) sound.legal))

-- the number of entries with one more
longer : {A : Type 0} (es es' : List (Entry A)) (e : Entry A) → es' ≡ es ++ e ∷ [] → length es' ≡ length es + 1
longer es es' e more = ap length more ∙ length-append es (e ∷ [])

-- a database with an installable change is a valid database
pub changed_database : (db : Database) (n : ℕ) (change : Option PageChange) → IsDatabase db → MayChange db n change → IsDatabase (changed_by db n change)
changed_database db n None ok may = ok
changed_database db n (Some change) ok may = may.database

-- ---- open

pub StartsWith-sound : {A : Type 0} (db : Database) (limit : ℕ) (s : DeskState A) → IsDatabase db → StartsWith db limit s → IsSound s
StartsWith-sound {A} db limit s ok starts = record {
  database = subst IsDatabase (sym starts.database) ok;
  legal = subst (λ (d : Database). History d.size d.kind (start_of s) s.entries (map_of d)) (sym starts.database)
      (subst (λ (xs : List (Entry A)). History db.size db.kind (start_of s) xs (map_of db)) (sym starts.entries)
      (from_entries-entries (map_of db) ∙ ap (λ (ps : List Pair). map.from_entries {R = key_cmp} ps) (sym starts.opening)));
  within = let empty : length s.entries ≡ 0 = ap length starts.entries in let closed : open_count s ≡ 0 = ap (λ (ts : List (Option (Open A))). open_count (record s { tickets = ts })) starts.tickets in omega arith;
  obeys = ap obeys_rule starts.holds;
  tied = λ t. subst (λ (o : Option (Open A)). Ties s.database s.holds t o) (sym (ap (λ (ts : List (Option (Open A))). ticket_of (record s { tickets = ts }) t) starts.tickets)) (ap (held_by (the_ticket t)) starts.holds);
}

-- ---- ask

-- the tie of a newly opened ticket
opened_tie : {A : Type 0} (s s' : DeskState A) (session : ℕ) (command : Command A) (j : Ticketed A) → IsSound s → MayAsk s command → IsAsked s session command j.asked → Opens s command j s' → IsTied s.database s'.holds j.ticket j.asked
opened_tie {A} s s' session command j sound may asked opens =
    let same : Command A = j.asked.command in
    let hold : Held = record { page = j.asked.place.page; mode = opens.mode; ticket = the_ticket j.ticket } in
    record {
      mode = opens.mode;
      held = ap (held_by (the_ticket j.ticket)) opens.holds ∙ held_by-push_here (the_ticket j.ticket) s.holds hold (free_ticket s j.ticket sound opens.fresh) (eq-eqb j.ticket j.ticket refl);
      may = subst (λ (c : Command A). MayHold c opens.mode) (sym asked.command_is) (may_first command opens.mode opens.mode_is);
      small = subst (λ (c : Command A). IsSmall s.database.size c) (sym asked.command_is) may.small;
      kind = asked.kind;
      place = subst (λ (c : Command A). IsPlaceOf s.database (key_of c) j.asked.place) (sym asked.command_is) asked.place;
      size = asked.size;
      pairs = asked.pairs;
    }

pub Opens-sound : {A : Type 0} (s s' : DeskState A) (session : ℕ) (command : Command A) (j : Ticketed A) → IsSound s → MayAsk s command → IsAsked s session command j.asked → Opens s command j s'
    → obeys_rule s'.holds ≡ true → IsSound s'
Opens-sound {A} s s' session command j sound may asked opens obeys = record {
  database = subst IsDatabase (sym opens.database) sound.database;
  legal = legal_same s s' sound opens.database opens.entries opens.opening;
  within = let long : length s'.entries ≡ length s.entries = ap length opens.entries in let room = may.room in let limit = opens.limit_is in let counted = opens.count in omega arith;
  obeys = obeys;
  tied = λ u. subst (λ (d : Database). Ties d s'.holds u (ticket_of s' u)) (sym opens.database) (either_way u j.ticket (Ties s.database s'.holds u (ticket_of s' u))
      (λ is.
      let there : Ties s.database s'.holds j.ticket (ticket_of s' j.ticket) = subst (λ (x : Option (Open A)). Ties s.database s'.holds j.ticket x) (sym opens.tickets.here) (opened_tie s s' session command j sound may asked opens) in
      subst (λ (v : ℕ). Ties s.database s'.holds v (ticket_of s' v)) (sym is) there)
      (λ differ is.
      let hold : Held = record { page = j.asked.place.page; mode = opens.mode; ticket = the_ticket j.ticket } in
      let old = Ties-same s.database s.holds s'.holds u (ticket_of s u) (ap (held_by (the_ticket u)) opens.holds ∙ held_by-push_other (the_ticket u) s.holds hold is) (sound.tied u) in
      subst (λ (x : Option (Open A)). Ties s.database s'.holds u x) (sym (opens.tickets.others u differ)) old));
}

-- ---- convert

pub Converts-sound : {A : Type 0} (s s' : DeskState A) (t : ℕ) → IsSound s → Converts s t s' → obeys_rule s'.holds ≡ true → IsSound s'
Converts-sound {A} s s' t sound converts obeys =
    subst (λ (x : DeskState A). IsSound x) (sym converts.is) (record {
      database = sound.database;
      legal = sound.legal;
      within = sound.within;
      obeys = ap (λ (x : DeskState A). obeys_rule x.holds) (sym converts.is) ∙ obeys;
      tied = λ u. either_way u t (Ties s.database hs u (ticket_of s u))
          (λ is. subst (λ (v : ℕ). Ties s.database hs v (ticket_of s v)) (sym is) (at (ticket_of s t) (sound.tied t)))
          (λ differ is.
          let d : (u == t) ≡ false = eq_comm u t ∙ is in
          Ties-same s.database s.holds hs u (ticket_of s u) (held_by-made_other (the_ticket t) (the_ticket u) d s.holds) (sound.tied u));
    })
  where
    hs : List Held
    hs = made_exclusive (the_ticket t) s.holds

    at : (o : Option (Open A)) → Ties s.database s.holds t o → Ties s.database hs t o
    at None h = absurd (let z : update_in None ≡ true = ap update_in (sym h) ∙ converts.updating in cc)
    at (Some o) h =
        let m : h.mode ≡ Update = update_is (held_by (the_ticket t) s.holds) o.place.page h.mode h.held converts.updating in
        record {
          mode = Exclusive;
          held = held_by-made_self (the_ticket t) s.holds o.place.page h.mode h.held;
          may = may_exclusive o.command (subst (MayHold o.command) m h.may);
          small = h.small;
          kind = h.kind;
          place = h.place;
          size = h.size;
          pairs = h.pairs;
        }

-- ---- closing

-- the ties of the remaining tickets stay if they stay in the database
closed_ties : {A : Type 0} (s s' : DeskState A) (t : ℕ) → IsSound s → Closes s t s' → ((u : ℕ) → u ≢ t → (q : Open A) → IsTied s.database s.holds u q → IsTied s'.database s.holds u q)
    → (u : ℕ) → Ties s'.database s'.holds u (ticket_of s' u)
closed_ties {A} s s' t sound closes beside u = either_way u t (Ties s'.database s'.holds u (ticket_of s' u))
    (λ is.
    let here : held_by (the_ticket t) s'.holds ≡ None = ap (held_by (the_ticket t)) closes.holds ∙ held_by-without_self (the_ticket t) s.holds sound.obeys in
    let there : Ties s'.database s'.holds t (ticket_of s' t) = subst (λ (x : Option (Open A)). Ties s'.database s'.holds t x) (sym closes.tickets.here) here in
    subst (λ (v : ℕ). Ties s'.database s'.holds v (ticket_of s' v)) (sym is) there)
    (λ differ is.
    let d : (u == t) ≡ false = eq_comm u t ∙ is in
    let same = Ties-same s'.database s.holds s'.holds u (ticket_of s u) (ap (held_by (the_ticket u)) closes.holds ∙ held_by-without_other (the_ticket t) (the_ticket u) d s.holds) (at differ (ticket_of s u) (sound.tied u)) in
    subst (λ (x : Option (Open A)). Ties s'.database s'.holds u x) (sym (closes.tickets.others u differ)) same)
  where
    at : u ≢ t → (o : Option (Open A)) → Ties s.database s.holds u o → Ties s'.database s.holds u o
    at differ None h = h
    at differ (Some q) h = beside u differ q h

pub Abandons-sound : {A : Type 0} (s s' : DeskState A) (t : ℕ) → IsSound s → Abandons s t s' → obeys_rule s'.holds ≡ true → IsSound s'
Abandons-sound {A} s s' t sound abandons obeys = record {
  database = subst IsDatabase (sym abandons.database) sound.database;
  legal = legal_same s s' sound abandons.database abandons.entries abandons.closes.opening;
  within = let before = sound.within in let long : length s'.entries ≡ length s.entries = ap length abandons.entries in let limit = abandons.closes.limit_is in let counted = abandons.closes.count in omega arith;
  obeys = obeys;
  tied = closed_ties s s' t sound abandons.closes (λ u differ q tie. subst (λ (d : Database). IsTied d s.holds u q) (sym abandons.database) tie);
}

pub Finishes-sound : {A : Type 0} (s s' : DeskState A) (d : Ticketed A) (reply : Reply A) → IsSound s → Finishes s d reply s' → obeys_rule s'.holds ≡ true → IsSound s'
Finishes-sound {A} s s' d reply sound finishes obeys =
    let entry : Entry A = record { session = d.asked.session; command = d.asked.command; reply = reply } in
    record {
      database = subst IsDatabase (sym finishes.database) (changed_database s.database d.asked.place.page (worked d.asked).change sound.database leads.may);
      legal = legal_more s s' entry sound finishes.acts finishes.entries finishes.closes.opening;
      within = let before = sound.within in let long = longer s.entries s'.entries entry finishes.entries in let limit = finishes.closes.limit_is in let counted = finishes.closes.count in omega arith;
      obeys = obeys;
      tied = closed_ties s s' d.ticket sound finishes.closes (λ u differ q other. subst (λ (x : Database). IsTied x s.holds u q) (sym finishes.database)
          (tied_still s.database d.asked.place.page (worked d.asked).change s.holds u q leads.beside (λ some. held_apart s.database s.holds d.ticket u d.asked q sound.obeys differ (finishes.may.alone some) tie other) other));
    }
  where
    tie : IsTied s.database s.holds d.ticket d.asked
    tie = subst (λ (x : Option (Open A)). Ties s.database s.holds d.ticket x) finishes.may.own (sound.tied d.ticket)

    leads : LeadsTo s.database d.asked.session d.asked.command d.asked.place.page (worked d.asked)
    leads = tied_leads s.database sound.database s.holds d.ticket d.asked tie

-- ---- one call

-- ties stay if tickets and holds stay, and ties stay in the database
kept_ties : {A : Type 0} (s s' : DeskState A) → IsSound s → s'.tickets ≡ s.tickets → s'.holds ≡ s.holds → ((u : ℕ) (q : Open A) → IsTied s.database s.holds u q → IsTied s'.database s.holds u q)
    → (u : ℕ) → Ties s'.database s'.holds u (ticket_of s' u)
kept_ties {A} s s' sound tickets holds beside u =
    subst (λ (hs : List Held). Ties s'.database hs u (ticket_of s' u)) (sym holds)
    (subst (λ (x : Option (Open A)). Ties s'.database s.holds u x) (sym (ap (λ (ts : List (Option (Open A))). ticket_of (record s { tickets = ts }) u) tickets)) (at (ticket_of s u) (sound.tied u)))
  where
    at : (o : Option (Open A)) → Ties s.database s.holds u o → Ties s'.database s.holds u o
    at None h = h
    at (Some q) h = beside u q h

-- soundness after one more entry, if tickets and holds stay
more_sound : {A : Type 0} (s s' : DeskState A) (e : Entry A) → IsSound s → MayAsk s e.command → Acts s.database e s'.database → s'.entries ≡ s.entries ++ e ∷ [] → s'.opening ≡ s.opening
    → s'.tickets ≡ s.tickets → s'.holds ≡ s.holds → s'.limit ≡ s.limit → IsDatabase s'.database → ((u : ℕ) (q : Open A) → IsTied s.database s.holds u q → IsTied s'.database s.holds u q) → IsSound s'
more_sound {A} s s' e sound may acts entries opening tickets holds limit ok beside = record {
  database = ok;
  legal = legal_more s s' e sound acts entries opening;
  within =
      let room = may.room in let long = longer s.entries s'.entries e entries in let count : open_count s' ≡ open_count s = ap (λ (ts : List (Option (Open A))). open_count (record s { tickets = ts })) tickets in omega arith;
  obeys = ap obeys_rule holds ∙ sound.obeys;
  tied = kept_ties s s' sound tickets holds beside;
}

-- a step on a page
on_page_sound : {A : Type 0} (s s' : DeskState A) (session : ℕ) (command : Command A) (reply : Reply A) → HasKey command → IsSound s → Steps s session command reply s'
    → IsOnPage s.database (record { session = session; command = command; reply = reply }) s'.database → IsSound s'
on_page_sound {A} s s' session command reply keyed sound steps on =
    more_sound s s' (record { session = session; command = command; reply = reply }) sound steps.may steps.acts steps.entries steps.opening steps.tickets steps.holds steps.limit_is
    (subst IsDatabase (sym on.database) (changed_database s.database on.place.page result.change sound.database leads.may))
    (λ u q tie. subst (λ (d : Database). IsTied d s.holds u q) (sym on.database)
    (tied_still s.database on.place.page result.change s.holds u q leads.beside (λ some. not_held s.database s.holds on.place.page u q (free some) tie) tie))
  where
    result : PageResult A
    result = works on.place s.database.kind s.database.size (pairs_at s.database on.place.page) session command

    leads : LeadsTo s.database session command on.place.page result
    leads = works_lead s.database sound.database on.place session command keyed steps.may.small on.leads

    free : is_some result.change ≡ true → list_any (bars on.place.page Exclusive) s.holds ≡ false
    free some =
        ap (λ (n : ℕ). list_any (bars n Exclusive) s.holds) (led_there s command on.place sound.database on.leads)
        ∙ steps.alone (ap (λ (r : Reply A). does_change (is_there s.database command) r) on.answer_is ∙ leads.changes ∙ some)

pub Counts-sound : {A : Type 0} (s s' : DeskState A) (session : ℕ) (reply : Reply A) → IsSound s → MayAsk s Count → Counts s session reply s' → IsSound s'
Counts-sound {A} s s' session reply sound may counts =
    more_sound s s' (record { session = session; command = Count; reply = reply }) sound may (Acts-count s.database s'.database session reply counts.reply_is counts.database) counts.entries counts.opening counts.tickets counts.holds
    counts.limit_is (subst IsDatabase (sym counts.database) sound.database) (λ u q tie. subst (λ (d : Database). IsTied d s.holds u q) (sym counts.database) tie)

pub Steps-sound : {A : Type 0} (s s' : DeskState A) (session : ℕ) (command : Command A) (reply : Reply A) → IsSound s → Steps s session command reply s' → IsSound s'
Steps-sound s s' session (Fetch key) reply sound steps = on_page_sound s s' session (Fetch key) reply tt sound steps steps.acts.exact
Steps-sound s s' session (Store key value mode) reply sound steps = on_page_sound s s' session (Store key value mode) reply tt sound steps steps.acts.exact
Steps-sound s s' session (Delete key) reply sound steps = on_page_sound s s' session (Delete key) reply tt sound steps steps.acts.exact
Steps-sound s s' session (Run key program argument blank now) reply sound steps = on_page_sound s s' session (Run key program argument blank now) reply tt sound steps steps.acts.exact
Steps-sound s s' session Count reply sound steps =
    more_sound s s' (record { session = session; command = Count; reply = reply }) sound steps.may steps.acts steps.entries steps.opening steps.tickets steps.holds steps.limit_is
    (subst IsDatabase (sym steps.acts.exact.1) sound.database)
    (λ u q tie. subst (λ (d : Database). IsTied d s.holds u q) (sym steps.acts.exact.1) tie)
