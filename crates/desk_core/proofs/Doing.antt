-- The effect of a call, from the changes of the parts of a desk.
use Rattle.std.proofs.Common.{◌≡◌, ◌+◌, ℕ, Bool, true, false, cond, ◌&&◌, List, [], ◌∷◌, ◌++◌, refl, sym, ap, subst, ◌∙◌, Option, Some, None, is_some, inl, inr, ◌⊎◌}
use Rattle.std.specs.Prelude.{IsSome, slice_index_or, count_by}
use Rattle.slab.specs.Slab.{Slab, Updates}
use Rattle.std.specs.List.{list_any}
use Rattle.sdbm_addr.specs.Database.{Database, pairs_at}
use Rattle.hold_modes.specs.declared.modes.Hold.{Hold}
use Rattle.hold_modes.specs.declared.modes.Hold.TheVariants.{Exclusive}
use Rattle.hold_modes.specs.declared.modes.Held.{Held}
use Rattle.hold_modes.specs.Held.{bars, without}
use Rattle.sdbm_dir.specs.declared.Place.{Place}
use Rattle.store_cmd.specs.declared.Command.{Command}
use Rattle.store_cmd.specs.declared.Entry.{Entry}
use Rattle.store_cmd.specs.declared.Reply.{Reply}
use Rattle.desk_core.specs.declared.job.Open.{Open}
use Rattle.desk_core.specs.declared.AskFault.TheVariants.{Busy, NoMemory}
use Rattle.store_moves.specs.Works.{PageResult, key_of, HasKey, HasEnd, IsRun}
use Rattle.store_moves.specs.Worked.{is_change}
use Rattle.desk_core.specs.Jobs.{Ticketed, worked}
use Rattle.store_moves.specs.Leads.{IsPlaceOf, LeadsTo, MayChange, changed_by, does_change, is_there}
use Rattle.store_moves.specs.Acts.{IsPutIn}
use Rattle.desk_core.specs.Desk.{DeskState, IsSound, IsTied, Ties, first_hold, the_ticket, ticket_of, open_count}
use Rattle.desk_core.specs.Calls.{MayAsk, IsAsked, Opens, Changes, MayFinish, Finishes, Abandons, Steps, IsStepFault, WouldChange, works_there, is_held, is_barred_in, page_led}
use Rattle.store_moves.proofs.Acting.{Acts-on_page, IsPlaceOf-unique}
use Rattle.store_moves.proofs.Lifting.{works_lead}
use Rattle.desk_core.proofs.Ties.{led_there, tied_leads, tied_acts, unchanged_by}

-- ---- finish

-- a command that may be finished, in an equal state
pub MayFinish-at : {A : Type 0} (s s' : DeskState A) (d d' : Ticketed A) → s ≡ s' → d ≡ d' → MayFinish s' d' → MayFinish s d
MayFinish-at {A} s s' d d' state done may = subst (λ (x : DeskState A). MayFinish x d) (sym state) (subst (λ (x : Ticketed A). MayFinish s' x) (sym done) may)

module _ {A : Type 0} (s : DeskState A) (d : Ticketed A) (sound : IsSound s) (may : MayFinish s d) where
  tie : IsTied s.database s.holds d.ticket d.asked
  tie = subst (λ (x : Option (Open A)). Ties s.database s.holds d.ticket x) may.own (sound.tied d.ticket)

  -- the result may be installed
  pub may_finish_in : MayChange s.database d.asked.place.page (worked d.asked).change
  may_finish_in = (tied_leads s.database sound.database s.holds d.ticket d.asked tie).may

  -- the result was installed, its entry added, and the ticket closed
  pub finished : HasEnd d.asked.page.pairs d.asked.session d.asked.command → (reply copy : Reply A) (db : Database) (entries : List (Entry A)) (tickets : List (Option (Open A))) (next : ℕ) (holds : List Held) → reply ≡ (worked d.asked).reply → copy ≡ (worked d.asked).reply
      → db ≡ changed_by s.database d.asked.place.page (worked d.asked).change → entries ≡ s.entries ++ record { session = d.asked.session; command = d.asked.command; reply = copy } ∷ []
      → Changes s.tickets tickets d.ticket None → next ≡ d.ticket → count_by is_some tickets + 1 ≡ open_count s → holds ≡ without (the_ticket d.ticket) s.holds
      → Finishes s d reply (record s { database = db; entries = entries; tickets = tickets; next = next; holds = holds })
  finished ends reply copy db entries tickets next holds reply_is copy_is installed more changes is_next counted released = record {
    may = may;
    reply_is = reply_is;
    database = installed;
    acts = tied_acts s.database db sound.database s.holds d.ticket d.asked tie ends reply reply_is installed;
    entries = more ∙ ap (λ (r : Reply A). s.entries ++ record { session = d.asked.session; command = d.asked.command; reply = r } ∷ []) (copy_is ∙ sym reply_is);
    closes = record { tickets = changes; next = is_next; holds = released; opening = refl; limit_is = refl; count = counted };
  }

-- ---- step

both_so : (a b : Bool) → (a && b) ≡ true → (a ≡ true) × (b ≡ true)
both_so true b e = (refl, e)
both_so false b e = absurd (cc)

not_both : (a b : Bool) → (a && b) ≡ false → a ≡ true → b ≡ false
not_both true b e h = e
not_both false b e h = absurd (cc)

module _ {A : Type 0} (s : DeskState A) (session : ℕ) (command : Command A) (place : Place) (sound : IsSound s) (may : MayAsk s command) (keyed : HasKey command) (leads : IsPlaceOf s.database (key_of command) place) where
  abbrev result : PageResult A
  result = works_there s session command place

  -- another ticket holds the page
  abbrev taken : Bool
  taken = list_any (bars place.page Exclusive) s.holds

  lead : LeadsTo s.database session command place.page result
  lead = works_lead s.database sound.database place session command keyed may.small leads

  held_so : is_held s command ≡ taken
  held_so = ap (λ (n : ℕ). list_any (bars n Exclusive) s.holds) (sym (led_there s command place sound.database leads))

  -- the result of a step may be installed
  pub may_step_in : MayChange s.database place.page result.change
  may_step_in = lead.may

  -- the reason for a refusal if memory is needed or the page is held
  pub step_refused : (changes : Bool) → changes ≡ is_some result.change → (b : Bool) → (changes && taken) ≡ b → IsStepFault s session command (cond b Busy NoMemory)
  step_refused changes is true e =
      let both = both_so changes taken e in
      inr (may, (held_so ∙ both.1, record { place = place; leads = leads; change = sym is ∙ both.0 }))
  step_refused changes is false e = (may, inr (λ held would. no_change would (sym held_so ∙ held)))
    where
      no_change : WouldChange s session command → taken ≡ true → ⊥
      no_change would there =
          let same : place ≡ would.place = IsPlaceOf-unique s.database (key_of command) place would.place leads would.leads in
          let so : changes ≡ true = is ∙ ap (λ (p : Place). is_some (works_there s session command p).change) same ∙ would.change in
          let clash : true ≡ false = sym there ∙ not_both changes taken e so in
          cc

  -- the reason for a refusal if there is no memory to compute the result
  pub memory_refused : (IsRun command × (is_change command ≡ false)) ⊎ (is_change command ≡ is_some result.change) → (b : Bool) → (is_change command && taken) ≡ b → IsStepFault s session command (cond b Busy NoMemory)
  memory_refused (inr is) b e = step_refused (is_change command) is b e
  memory_refused (inl run) true e = let clash : true ≡ false = sym (both_so (is_change command) taken e).0 ∙ run.1 in absurd cc
  memory_refused (inl run) false e = (may, inl run.0)

  -- the result was installed, and its entry added
  pub stepped : HasEnd (pairs_at s.database place.page) session command → (reply copy : Reply A) (db : Database) (mid entries : List (Entry A)) → reply ≡ result.reply → copy ≡ reply → (is_some result.change && taken) ≡ false
      → db ≡ changed_by s.database place.page result.change → mid ≡ s.entries → entries ≡ mid ++ record { session = session; command = command; reply = copy } ∷ []
      → Steps s session command reply (record s { database = db; entries = entries })
  stepped ends reply copy db mid entries reply_is copy_is free installed same more =
      let changes : does_change (is_there s.database command) reply ≡ is_some result.change = ap (λ (r : Reply A). does_change (is_there s.database command) r) reply_is ∙ lead.changes in
      record {
        may = may;
        alone = λ d. held_so ∙ not_both (is_some result.change) taken free (sym changes ∙ d);
        quiet = λ d. installed ∙ unchanged_by s.database place.page result.change (sym changes ∙ d);
        acts = Acts-on_page s.database db sound.database place session command reply keyed may.small leads ends reply_is installed;
        entries = more ∙ ap (λ (es : List (Entry A)). es ++ record { session = session; command = command; reply = copy } ∷ []) same
            ∙ ap (λ (r : Reply A). s.entries ++ record { session = session; command = command; reply = r } ∷ []) copy_is;
        opening = refl;
        tickets = refl;
        next = refl;
        holds = refl;
        limit_is = refl;
      }

  -- the step was executed in place, on a page without other holds
  pub stepped_at_once : (reply copy : Reply A) (db : Database) (mid entries : List (Entry A)) → IsPutIn s.database place session command reply db → copy ≡ reply → taken ≡ false → mid ≡ s.entries
      → entries ≡ mid ++ record { session = session; command = command; reply = copy } ∷ [] → Steps s session command reply (record s { database = db; entries = entries })
  stepped_at_once reply copy db mid entries done copy_is free same more = stepped done.ends reply copy db mid entries done.reply_is copy_is (at (is_some result.change) taken free) done.database same more
    where
      at : (b t : Bool) → t ≡ false → (b && t) ≡ false
      at true t e = e
      at false t e = refl

-- ---- abandon

-- the ticket was closed
pub abandoned : {A : Type 0} (s : DeskState A) (t : ℕ) (tickets : List (Option (Open A))) (next : ℕ) (holds : List Held) → IsSome (ticket_of s t) → Changes s.tickets tickets t None → next ≡ t → count_by is_some tickets + 1 ≡ open_count s → holds ≡ without (the_ticket t) s.holds
    → Abandons s t (record s { tickets = tickets; next = next; holds = holds })
abandoned s t tickets next holds there changes is_next counted released =
    record { there = there; database = refl; entries = refl; closes = record { tickets = changes; next = is_next; holds = released; opening = refl; limit_is = refl; count = counted } }

-- ---- ask

-- the page of a command that may be requested can be held
pub free_for : {A : Type 0} (s : DeskState A) (command : Command A) (place : Place) (mode : Hold) → IsSound s → MayAsk s command → first_hold command ≡ Some mode → IsPlaceOf s.database (key_of command) place → list_any (bars place.page mode) s.holds ≡ false
free_for s command place mode sound may first leads =
    ap (λ (n : ℕ). list_any (bars n mode) s.holds) (led_there s command place sound.database leads) ∙ sym (ap (λ (m : Option Hold). is_barred_in s (page_led s command) m) first) ∙ may.free

pub changes_after : {A : Type 0} (s r n : Slab (Open A)) (key at : ℕ) (o : Open A) → r.slots ≡ s.slots → at ≡ key → Updates r n at (Some o) → Changes s.slots n.slots key (Some o)
changes_after {A} s r n key at o same e u = record {
  here = subst (λ (k : ℕ). slice_index_or n.slots k None ≡ Some o) e u.changed;
  others = λ k differ. u.others k (λ h. differ (h ∙ e)) ∙ ap (λ (xs : List (Option (Open A))). slice_index_or xs k None) same;
}

-- the next ticket was opened
pub opened : {A : Type 0} (s : DeskState A) (t : ℕ) (own : Open A) (mode : Hold) (entries : List (Entry A)) (tickets : List (Option (Open A))) (next : ℕ) (holds : List Held) → first_hold own.command ≡ Some mode → t ≡ s.next → ticket_of s t ≡ None
    → entries ≡ s.entries → Changes s.tickets tickets t (Some own) → count_by is_some tickets ≡ open_count s + 1 → holds ≡ s.holds ++ record { page = own.place.page; mode = mode; ticket = the_ticket t } ∷ []
    → Opens s own.command (record { ticket = t; asked = own }) (record s { entries = entries; tickets = tickets; next = next; holds = holds })
opened s t own mode entries tickets next holds first is_next fresh same changes counted held = record {
  mode = mode;
  mode_is = first;
  next = is_next;
  fresh = fresh;
  tickets = changes;
  holds = held;
  database = refl;
  opening = refl;
  entries = same;
  limit_is = refl;
  count = counted;
}

-- the open command of the ticket is that of its job
pub asked_so : {A : Type 0} (s s' : DeskState A) (session t : ℕ) (command : Command A) (own o : Open A) → MayAsk s command → IsAsked s session command own → Opens s own.command (record { ticket = t; asked = own }) s' → own ≡ o
    → MayAsk s command × (IsAsked s session command o × Opens s command (record { ticket = t; asked = o }) s')
asked_so {A} s s' session t command own o may asked opens same = (
  may,
  (
    subst (λ (x : Open A). IsAsked s session command x) same asked,
    subst (λ (x : Open A). Opens s command (record { ticket = t; asked = x }) s') same (subst (λ (c : Command A). Opens s c (record { ticket = t; asked = own }) s') asked.command_is opens),
  ),
)
