-- Open tickets and their holds.
use Rattle.std.proofs.Common.{◌≡◌, ◌≢◌, ℕ, true, false, List, [], ◌∷◌, ◌++◌, refl, sym, ap, subst, ◌∙◌, Option, Some, None, is_some}
use Rattle.std.proofs.lemmas.Bool.{eqb-true, eq-eqb, false≢true}
use Rattle.std.specs.Prelude.{◌==◌, ◌||◌, if◌then◌else◌, IsSome}
use Rattle.std.specs.List.{list_any}
use Rattle.std.specs.Option.{option_map}
use Rattle.sdbm_addr.specs.declared.KeyBytes.{KeyBytes}
use Rattle.sdbm_addr.specs.declared.PageSize.{PageSize}
use Rattle.sdbm_addr.specs.Hash.{hash_of}
use Rattle.sdbm_addr.specs.Pairs.{Pair}
use Rattle.sdbm_addr.specs.Database.{Database, IsDatabase, pairs_at}
use Rattle.sdbm_addr.proofs.DirectoryLemmas.{page_of_depth}
use Rattle.hold_modes.specs.declared.modes.Hold.{Hold}
use Rattle.hold_modes.specs.declared.modes.Hold.TheVariants.{Read, Update, Exclusive}
use Rattle.hold_modes.specs.declared.modes.Ticket.{Ticket}
use Rattle.hold_modes.specs.declared.modes.Held.{Held}
use Rattle.hold_modes.specs.Held.{are_compatible, bars, is_of, held_by, obeys_rule, update_in, is_update, exclusive_in, is_exclusive}
use Rattle.hold_modes.proofs.HeldLemmas.{apart_pages, barred_by, no_two}
use Rattle.sdbm_dir.specs.declared.Place.{Place}
use Rattle.sdbm_split.specs.Planned.{PageChange}
use Rattle.store_cmd.specs.declared.Command.{Command}
use Rattle.store_cmd.specs.declared.Command.TheVariants.{Fetch, Store, Delete, Run, Count}
use Rattle.store_cmd.specs.declared.Reply.{Reply}
use Rattle.store_cmd.specs.declared.Entry.{Entry}
use Rattle.desk_core.specs.declared.job.Open.{Open}
use Rattle.store_moves.specs.Works.{PageResult, works, HasKey, key_of, HasEnd}
use Rattle.desk_core.specs.Jobs.{worked}
use Rattle.store_moves.specs.Leads.{changed_by, LeadsTo, IsPlaceOf, IsSameBeside}
use Rattle.desk_core.specs.Desk.{DeskState, IsSound, IsTied, Ties, MayHold, first_hold, the_ticket, ticket_of}
use Rattle.store_moves.specs.Acts.{Acts}
use Rattle.desk_core.specs.Calls.{page_led}
use Rattle.store_moves.proofs.Acting.{Acts-on_page}
use Rattle.store_moves.proofs.Lifting.{works_lead}

-- ---- holds

pub none_held : (t : Ticket) (hs : List Held) → held_by t hs ≡ None → list_any (is_of t) hs ≡ false
none_held t [] = λ h. refl
none_held t (x ∷ xs) =
    elim (is_of t x) as (λ b. (if b then Some (x.page, x.mode) else held_by t xs) ≡ None → (b || list_any (is_of t) xs) ≡ false) [
      | true ↦ λ h. absurd cc
      | false ↦ λ h. none_held t xs h
    ]

pub held_by-push_here : (t : Ticket) (hs : List Held) (h : Held) → held_by t hs ≡ None → is_of t h ≡ true → held_by t (hs ++ h ∷ []) ≡ Some (h.page, h.mode)
held_by-push_here t [] h n y = rw y refl
held_by-push_here t (x ∷ xs) h n y =
    (elim (is_of t x) as (λ b. (if b then Some (x.page, x.mode) else held_by t xs) ≡ None → (if b then Some (x.page, x.mode) else held_by t (xs ++ h ∷ [])) ≡ Some (h.page, h.mode)) [
      | true ↦ λ n. absurd cc
      | false ↦ λ n. held_by-push_here t xs h n y
    ]) n

pub held_by-push_other : (t : Ticket) (hs : List Held) (h : Held) → is_of t h ≡ false → held_by t (hs ++ h ∷ []) ≡ held_by t hs
held_by-push_other t [] h y = rw y refl
held_by-push_other t (x ∷ xs) h y =
    elim (is_of t x) as (λ b. (if b then Some (x.page, x.mode) else held_by t (xs ++ h ∷ [])) ≡ (if b then Some (x.page, x.mode) else held_by t xs)) [
      | true ↦ refl
      | false ↦ held_by-push_other t xs h y
    ]

-- an option that is not `Some` is `None`
pub not_some : {X : Type 0} (o : Option X) → (IsSome o → false ≡ true) → o ≡ None
not_some None h = refl
not_some (Some x) h = absurd (false≢true (h refl))

-- two numbers are equal or not
pub either_way : (u t : ℕ) (P : Type 0) → (u ≡ t → P) → ((u ≡ t → ⊥) → (t == u) ≡ false → P) → P
either_way u t P same other =
    (elim (t == u) as (λ b. (t == u) ≡ b → P) [
      | true ↦ λ is. same (sym (eqb-true t u is))
      | false ↦ λ is. other (λ e. absurd (let y : true ≡ false = sym (eq-eqb t u (sym e)) ∙ is in cc)) is
    ]) refl

-- a tie depends only on its own ticket's hold
pub Ties-same : {A : Type 0} (db : Database) (hs hs' : List Held) (t : ℕ) (o : Option (Open A)) → held_by (the_ticket t) hs' ≡ held_by (the_ticket t) hs → Ties db hs t o → Ties db hs' t o
Ties-same db hs hs' t None e h = e ∙ h
Ties-same db hs hs' t (Some o) e h =
    record { mode = h.mode; held = e ∙ h.held; may = h.may; small = h.small; kind = h.kind; place = h.place; size = h.size; pairs = h.pairs }

pub may_first : {A : Type 0} (c : Command A) (mode : Hold) → first_hold c ≡ Some mode → MayHold c mode
may_first (Fetch key) mode e = cc
may_first (Store key value how) mode e = λ r. let clash : Update ≡ Read = cc in cc
may_first (Delete key) mode e = λ r. let clash : Update ≡ Read = cc in cc
may_first (Run key program argument blank now) mode e = λ r. let clash : Update ≡ Read = cc in cc
may_first Count mode e = absurd (cc)

pub keyed_may : {A : Type 0} (c : Command A) (mode : Hold) → MayHold c mode → HasKey c
keyed_may (Fetch key) mode m = tt
keyed_may (Store key value how) mode m = tt
keyed_may (Delete key) mode m = tt
keyed_may (Run key program argument blank now) mode m = tt
keyed_may Count mode m = m

pub may_exclusive : {A : Type 0} (c : Command A) → MayHold c Update → MayHold c Exclusive
may_exclusive (Fetch key) h = absurd cc
may_exclusive (Store key value how) h = λ e. absurd cc
may_exclusive (Delete key) h = λ e. absurd cc
may_exclusive (Run key program argument blank now) h = λ e. absurd cc
may_exclusive Count h = h

pub update_is : (h : Option (ℕ × Hold)) (p : ℕ) (m : Hold) → h ≡ Some (p, m) → update_in h ≡ true → m ≡ Update
update_is h p m e y =
    let z : is_update m ≡ true = rw e at y in
    (elim m as (λ k. is_update k ≡ true → k ≡ Update) [ Read ↦ λ y. absurd cc | Update ↦ λ y. refl | Exclusive ↦ λ y. absurd cc ]) z

pub exclusive_is : (h : Option (ℕ × Hold)) (p : ℕ) (m : Hold) → h ≡ Some (p, m) → exclusive_in h ≡ true → m ≡ Exclusive
exclusive_is h p m e y =
    let z : is_exclusive m ≡ true = rw e at y in
    (elim m as (λ k. is_exclusive k ≡ true → k ≡ Exclusive) [ Read ↦ λ y. absurd cc | Update ↦ λ y. absurd cc | Exclusive ↦ λ y. refl ]) z

-- ---- places

-- the page of a place is the page of the key
pub led_there : {A : Type 0} (s : DeskState A) (command : Command A) (place : Place) → IsDatabase s.database → IsPlaceOf s.database (key_of command) place → place.page ≡ page_led s command
led_there s command place ok leads =
    leads.low_bits ∙ sym (page_of_depth s.database.splits ok.directory (hash_of s.database.kind (key_of command)) place.depth leads.depth)

-- ---- ties

pub free_ticket : {A : Type 0} (s : DeskState A) (t : ℕ) → IsSound s → ticket_of s t ≡ None → held_by (the_ticket t) s.holds ≡ None
free_ticket {A} s t sound fresh = subst (λ (x : Option (Open A)). Ties s.database s.holds t x) fresh (sound.tied t)

-- the result of an open ticket is the result of its command on the current page
tied_works : {A : Type 0} (db : Database) (hs : List Held) (t : ℕ) (o : Open A) → IsTied db hs t o → worked o ≡ works o.place db.kind db.size (pairs_at db o.place.page) o.session o.command
tied_works db hs t o tie =
    ap (λ (k : KeyBytes). works o.place k o.page.size o.page.pairs o.session o.command) tie.kind
    ∙ ap (λ (s : PageSize). works o.place db.kind s o.page.pairs o.session o.command) tie.size
    ∙ ap (λ (ps : List Pair). works o.place db.kind db.size ps o.session o.command) tie.pairs

-- the result of an open ticket, once installed, is one move
pub tied_leads : {A : Type 0} (db : Database) → IsDatabase db → (hs : List Held) (t : ℕ) (o : Open A) → IsTied db hs t o → LeadsTo db o.session o.command o.place.page (worked o)
tied_leads {A} db ok hs t o tie =
    subst (λ (r : PageResult A). LeadsTo db o.session o.command o.place.page r) (sym (tied_works db hs t o tie))
    (works_lead db ok o.place o.session o.command (keyed_may o.command tie.mode tie.may) tie.small tie.place)

-- the installed result of an open ticket is the effect of its command
pub tied_acts : {A : Type 0} (db db' : Database) → IsDatabase db → (hs : List Held) (t : ℕ) (o : Open A) → IsTied db hs t o → HasEnd o.page.pairs o.session o.command → (r : Reply A) → r ≡ (worked o).reply
    → db' ≡ changed_by db o.place.page (worked o).change → Acts db (record { session = o.session; command = o.command; reply = r }) db'
tied_acts {A} db db' ok hs t o tie ends r is installed =
    let same : worked o ≡ works o.place db.kind db.size (pairs_at db o.place.page) o.session o.command = tied_works db hs t o tie in
    Acts-on_page db db' ok o.place o.session o.command r (keyed_may o.command tie.mode tie.may) tie.small tie.place
    (subst (λ (ps : List Pair). HasEnd ps o.session o.command) tie.pairs ends)
    (is ∙ ap (λ (x : PageResult A). x.reply) same)
    (installed ∙ ap (λ (x : PageResult A). changed_by db o.place.page x.change) same)

-- another ticket's page is unchanged
pub tied_still : {A : Type 0} (db : Database) (n : ℕ) (change : Option PageChange) (hs : List Held) (u : ℕ) (q : Open A) → IsSameBeside db n (changed_by db n change)
    → (is_some change ≡ true → q.place.page ≢ n) → IsTied db hs u q → IsTied (changed_by db n change) hs u q
tied_still db n None hs u q beside other tie = tie
tied_still db n (Some change) hs u q beside other tie =
    let stays = beside (key_of q.command) q.place tie.place (other refl) in
    record { mode = tie.mode; held = tie.held; may = tie.may; small = tie.small; kind = tie.kind; place = stays.0; size = tie.size; pairs = tie.pairs ∙ sym stays.1 }

-- ---- pages of different tickets

compatible_none : (m : Hold) → are_compatible m Exclusive ≡ false
compatible_none Read = refl
compatible_none Update = refl
compatible_none Exclusive = refl

-- a page without holds belongs to no open ticket
pub not_held : {A : Type 0} (db : Database) (hs : List Held) (n u : ℕ) (q : Open A) → list_any (bars n Exclusive) hs ≡ false → IsTied db hs u q → q.place.page ≢ n
not_held db hs n u q free tie same =
    let away : (q.place.page == n) ≡ false = no_two (q.place.page == n) (are_compatible tie.mode Exclusive) (barred_by n Exclusive (the_ticket u) hs q.place.page tie.mode free tie.held) (compatible_none tie.mode) in
    let z : true ≡ false = sym (eq-eqb q.place.page n same) ∙ away in cc

-- a page held exclusively by one ticket belongs to no other ticket
pub held_apart : {A : Type 0} (db : Database) (hs : List Held) (t u : ℕ) (o q : Open A) → obeys_rule hs ≡ true → u ≢ t → exclusive_in (held_by (the_ticket t) hs) ≡ true → IsTied db hs t o → IsTied db hs u q
    → q.place.page ≢ o.place.page
held_apart db hs t u o q obeys differ alone tie other same =
    let m : tie.mode ≡ Exclusive = exclusive_is (held_by (the_ticket t) hs) o.place.page tie.mode tie.held alone in
    let d : (u == t) ≡ false = (elim (u == t) as (λ b. (u == t) ≡ b → b ≡ false) [ true ↦ λ y. absurd (differ (eqb-true u t y)) | false ↦ λ y. refl ]) refl in
    let no_same : (q.place.page == o.place.page) ≡ false =
    apart_pages (the_ticket t) (the_ticket u) d hs o.place.page q.place.page other.mode obeys (tie.held ∙ ap (λ (k : Hold). let h : Option (ℕ × Hold) = Some (o.place.page, k) in h) m) other.held in
    let z : true ≡ false = sym (eq-eqb q.place.page o.place.page same) ∙ no_same in cc

pub some_mapped : {X Y : Type 0} (f : X → Y) (o : Option X) → is_some (option_map f o) ≡ is_some o
some_mapped f None = refl
some_mapped f (Some x) = refl

pub unchanged_by : (db : Database) (n : ℕ) (o : Option PageChange) → is_some o ≡ false → changed_by db n o ≡ db
unchanged_by db n None e = refl
unchanged_by db n (Some change) e = absurd (cc)

-- an added entry equals any entry that is equal to it
pub entered : {A : Type 0} (before after : List (Entry A)) (e e' : Entry A) → after ≡ before ++ e ∷ [] → e ≡ e' → after ≡ before ++ e' ∷ []
entered {A} before after e e' added is = added ∙ ap (λ (x : Entry A). before ++ x ∷ []) is
