-- The effect of a command is one move, and it is unique.
use Rattle.std.proofs.Common.{◌≡◌, ℕ, ◌%◌, ◌^◌, List, refl, sym, ap, ◌∙◌, subst}
use Rattle.std.specs.FinMap as map
use Rattle.sdbm_addr.specs.declared.KeyBytes.{KeyBytes}
use Rattle.sdbm_addr.specs.declared.PageSize.{PageSize}
use Rattle.sdbm_addr.specs.Hash.{hash_of}
use Rattle.sdbm_addr.specs.Pairs.{Pair}
use Rattle.sdbm_addr.specs.Directory.{hash_prefix, word_number}
use Rattle.sdbm_addr.specs.Database.{Database, IsDatabase, pairs_at, map_of}
use Rattle.sdbm_addr.proofs.DirectoryLemmas.{IsDepth-unique}
use Rattle.sdbm_dir.specs.declared.Place.{Place}
use Rattle.sdbm_files.proofs.PutLemmas.{IsPage-pairs_at}
use Rattle.store_cmd.specs.declared.Command.{Command}
use Rattle.store_cmd.specs.declared.Command.TheVariants.{Fetch, Store, Delete, Run, Count}
use Rattle.store_cmd.specs.declared.Entry.{Entry}
use Rattle.store_cmd.specs.declared.Reply.{Reply}
use Rattle.store_cmd.specs.declared.Reply.TheVariants as reply
use Rattle.store_cmd.specs.Command.{IsSmall}
use Rattle.store_cmd.specs.Moves.{Moves}
use Rattle.store_moves.specs.Works.{PageResult, works, key_of, HasKey, HasEnd, IsRun, IsWorkable}
use Rattle.store_moves.specs.Leads.{IsPlaceOf, LeadsTo, changed_by, state_of}
use Rattle.store_moves.specs.Acts.{Acts, IsExactFor, IsOnPage, IsPutIn}
use Rattle.store_moves.proofs.Lifting.{works_lead, keys_lead}

-- a run is about a key
pub keyed_run : {A : Type 0} (c : Command A) → IsRun c → HasKey c
keyed_run (Fetch key) r = absurd r
keyed_run (Store key value how) r = absurd r
keyed_run (Delete key) r = absurd r
keyed_run (Run key program argument blank now) r = tt
keyed_run Count r = absurd r

-- a command about a key can be computed on the page of its place
pub workable : {A : Type 0} (db : Database) → IsDatabase db → (place : Place) (kind : KeyBytes) (size : PageSize) (pairs : List Pair) (command : Command A) → HasKey command
    → IsSmall db.size command → kind ≡ db.kind → IsPlaceOf db (key_of command) place → size ≡ db.size → pairs ≡ pairs_at db place.page → IsWorkable place kind size pairs command
workable {A} db ok place kind size pairs command keyed small is_kind p is_size is_pairs =
    let hash = hash_of db.kind (key_of command) in
    let here : IsWorkable place db.kind db.size (pairs_at db place.page) command = record {
      keyed = keyed;
      small = small;
      placed = record {
        shallow = p.shallow;
        bit = p.bit;
        key_leads = sym p.low_bits;
        keys_lead = keys_lead db ok hash place.depth place.page p.depth p.low_bits;
        page = IsPage-pairs_at db ok place.page;
      };
    } in
    subst (λ (k : KeyBytes). IsWorkable place k size pairs command) (sym is_kind)
    (subst (λ (z : PageSize). IsWorkable place db.kind z pairs command) (sym is_size)
    (subst (λ (ps : List Pair). IsWorkable place db.kind db.size ps command) (sym is_pairs) here))

keyed_exact : {A : Type 0} (db : Database) (command : Command A) (e : Entry A) (db' : Database) → HasKey command → IsOnPage db e db' → IsExactFor command db e db'
keyed_exact db (Fetch key) e db' keyed on = on
keyed_exact db (Store key value mode) e db' keyed on = on
keyed_exact db (Delete key) e db' keyed on = on
keyed_exact db (Run key program argument blank now) e db' keyed on = on
keyed_exact db Count e db' keyed on = absurd keyed

-- a command that was computed on the page of its place and installed
pub Acts-on_page : {A : Type 0} (db db' : Database) → IsDatabase db → (place : Place) (session : ℕ) (command : Command A) (answer : Reply A) → HasKey command → IsSmall db.size command → IsPlaceOf db (key_of command) place
    → HasEnd (pairs_at db place.page) session command
    → answer ≡ (works place db.kind db.size (pairs_at db place.page) session command).reply
    → db' ≡ changed_by db place.page (works place db.kind db.size (pairs_at db place.page) session command).change
    → Acts db (record { session = session; command = command; reply = answer }) db'
Acts-on_page {A} db db' ok place session command answer keyed small leads ends is installed =
    let result : PageResult A = works place db.kind db.size (pairs_at db place.page) session command in
    let lead : LeadsTo db session command place.page result = works_lead db ok place session command keyed small leads in
    let entry : Reply A → Entry A = λ r. record { session = session; command = command; reply = r } in
    record {
      small = small;
      exact = keyed_exact db command (entry answer) db' keyed (record { place = place; leads = leads; ends = ends; answer_is = is; database = installed });
      move = subst (λ (d : Database). Moves (state_of db) (entry answer) (state_of d)) (sym installed)
          (subst (λ (r : Reply A). Moves (state_of db) (entry r) (state_of (changed_by db place.page result.change))) (sym is) (lead.move ends));
    }

pub Acts-done : {A : Type 0} (db db' : Database) → IsDatabase db → (place : Place) (session : ℕ) (command : Command A) (answer : Reply A) → HasKey command → IsSmall db.size command → IsPutIn db place session command answer db'
    → Acts db (record { session = session; command = command; reply = answer }) db'
Acts-done db db' ok place session command answer keyed small done = Acts-on_page db db' ok place session command answer keyed small done.leads done.ends done.reply_is done.database

-- a count
pub Acts-count : {A : Type 0} (db db' : Database) (session : ℕ) (answer : Reply A) → answer ≡ reply.Count (map.len (map_of db)) → db' ≡ db → Acts db (record { session = session; command = Count; reply = answer }) db'
Acts-count {A} db db' session answer is same =
    let entry : Reply A → Entry A = λ r. record { session = session; command = Count; reply = r } in
    record {
      small = tt;
      exact = (is, same);
      move = subst (λ (d : Database). Moves (state_of db) (entry answer) (state_of d)) (sym same)
          (subst (λ (r : Reply A). Moves (state_of db) (entry r) (state_of db)) (sym is) (record { changes = ((refl, refl), refl); kind = refl; size = refl }));
    }

-- ---- one answer and one database

same_place : (p q : Place) → p.page ≡ q.page → p.depth ≡ q.depth → p.bit ≡ q.bit → p ≡ q
same_place p q n h b = λ i. record { page = n i; depth = h i; bit = b i }

pub IsPlaceOf-unique : (db : Database) (key : List ℕ) (p q : Place) → IsPlaceOf db key p → IsPlaceOf db key q → p ≡ q
IsPlaceOf-unique db key p q x y =
    let hash : ℕ = hash_of db.kind key in
    let h : p.depth ≡ q.depth = IsDepth-unique db.splits hash p.depth q.depth x.depth y.depth in
    same_place p q
    (x.low_bits ∙ ap (λ k. hash % 2 ^ k) h ∙ sym y.low_bits)
    h
    (x.bit ∙ ap (λ k. word_number (hash_prefix k hash)) h ∙ sym y.bit)

IsOnPage-unique : {A : Type 0} (db : Database) (e f : Entry A) (a b : Database) → e.session ≡ f.session → e.command ≡ f.command → IsOnPage db e a → IsOnPage db f b → (e.reply ≡ f.reply) × (a ≡ b)
IsOnPage-unique {A} db e f a b sessions commands x y =
    let leads : IsPlaceOf db (key_of e.command) y.place = subst (λ (c : Command A). IsPlaceOf db (key_of c) y.place) (sym commands) y.leads in
    let places : x.place ≡ y.place = IsPlaceOf-unique db (key_of e.command) x.place y.place x.leads leads in
    let result : Place → ℕ → Command A → PageResult A = λ p n c. works p db.kind db.size (pairs_at db p.page) n c in
    let same : result x.place e.session e.command ≡ result y.place f.session f.command =
    ap (λ (p : Place). result p e.session e.command) places ∙ ap (λ (n : ℕ). result y.place n e.command) sessions ∙ ap (λ (c : Command A). result y.place f.session c) commands in (
      x.answer_is ∙ ap (λ (r : PageResult A). r.reply) same ∙ sym y.answer_is,
      x.database ∙ ap (λ (p : Place). changed_by db p.page (result x.place e.session e.command).change) places ∙ ap (λ (r : PageResult A). changed_by db y.place.page r.change) same ∙ sym y.database,
    )

exact_once : {A : Type 0} (command : Command A) (db : Database) (e f : Entry A) (a b : Database) → e.session ≡ f.session → e.command ≡ f.command → IsExactFor command db e a → IsExactFor command db f b
    → (e.reply ≡ f.reply) × (a ≡ b)
exact_once (Fetch key) db e f a b sessions commands x y = IsOnPage-unique db e f a b sessions commands x y
exact_once (Store key value mode) db e f a b sessions commands x y = IsOnPage-unique db e f a b sessions commands x y
exact_once (Delete key) db e f a b sessions commands x y = IsOnPage-unique db e f a b sessions commands x y
exact_once (Run key program argument blank now) db e f a b sessions commands x y = IsOnPage-unique db e f a b sessions commands x y
exact_once Count db e f a b sessions commands x y = (x.0 ∙ sym y.0, x.1 ∙ sym y.1)

pub Acts-unique : {A : Type 0} (db : Database) (e f : Entry A) (a b : Database) → e.session ≡ f.session → e.command ≡ f.command → Acts db e a → Acts db f b → (e.reply ≡ f.reply) × (a ≡ b)
Acts-unique {A} db e f a b sessions commands x y =
    exact_once e.command db e f a b sessions commands x.exact (subst (λ (c : Command A). IsExactFor c db f b) (sym commands) y.exact)
