-- A page's result for a command, once installed, is a move of the whole database.
use Rattle.std.proofs.Common.{◌≡◌, ◌≢◌, ℕ, zero, suc, ◌+◌, ◌%◌, ◌^◌, ◌<◌, ◌≤◌, ◌||◌, ◌&&◌, List, [], ◌∷◌, length, replicate, get_or, Bool, true, false, cond, Option, Some, None, is_some, refl, sym, ap, ◌∙◌, subst, arith, eqb, inl, inr, ◌⊎◌}
use Rattle.std.proofs.lemmas.List.{length-replicate}
use Rattle.std.proofs.lemmas.Bool.{eqb-true, cond-false, true≢false, false_from_ne_true}
use Rattle.std.specs.List.{All}
use Rattle.std.specs.Option.{option_map}
use Rattle.std.specs.FinMap as map
use Rattle.sdbm_addr.specs.declared.Mode.{Mode}
use Rattle.sdbm_addr.specs.declared.Mode.TheVariants.{Insert, Replace}
use Rattle.sdbm_addr.specs.Hash.{hash_of}
use Rattle.sdbm_addr.specs.Directory.{Splits, IsDepth, depth_of, page_of}
use Rattle.sdbm_addr.specs.Pairs.{Pair, Content, same_key, value_of, without, pair_limit}
use Rattle.sdbm_addr.specs.Splitting.{neighbors, map_neighbors, IsLeastSplits, IsCrowded, split_along}
use Rattle.sdbm_addr.specs.Database.{Database, IsDatabase, pairs_at, map_of}
use Rattle.sdbm_addr.proofs.DirectoryLemmas.{IsDepth-unique, depth_of-IsDepth, page_of_depth, same_place}
use Rattle.sdbm_addr.proofs.DatabaseLemmas.{get-map_of}
use Rattle.sdbm_addr.proofs.PairLemmas.{same_key-refl}
use Rattle.sdbm_dir.specs.declared.Place.{Place}
use Rattle.sdbm_split.specs.Faults.{IsRefused}
use Rattle.sdbm_split.specs.Planned.{planned, least_splits}
use Rattle.sdbm_split.proofs.Least.{least_splits-cases}
use Rattle.sdbm_split.proofs.Plans.{Leads-own, IsPlan-from, ArePages-from}
use Rattle.sdbm_split.proofs.Install.{off_path, IsDepth-elsewhere, other_place_is_old}
use Rattle.sdbm_split.proofs.Crowding.{IsLeastSplits-map, IsCrowded-map}
use Rattle.sdbm_files.specs.Installed.{installed, IsInstallable}
use Rattle.sdbm_files.specs.Stored.{IsStore}
use Rattle.sdbm_files.proofs.PutLemmas.{IsPage-pairs_at, pairs-put_page, map_of-taken_out, IsInstallable-taken_out}
use Rattle.sdbm_files.proofs.PlanLemmas.{IsInstallable-stored, splits-stored, map_of-stored, is_installed}
use Rattle.bpf_insn.specs.declared.insn.Insn.{Insn}
use Rattle.bpf_helpers.specs.Runs.{Outcome, Ends}
use Rattle.bpf_helpers.proofs.OneEnd.{outcome-ends}
use Rattle.bpf_helpers.proofs.Lengths.{Ends-length}
use Rattle.store_cmd.specs.declared.Command.{Command}
use Rattle.store_cmd.specs.declared.Command.TheVariants.{Fetch, Store, Delete, Run, Count}
use Rattle.store_cmd.specs.declared.Reply.TheVariants as reply
use Rattle.store_cmd.specs.Command.{IsSmall, FitsBlank}
use Rattle.store_cmd.specs.Answers.{env_of, saves, removes, left_by}
use Rattle.store_cmd.specs.Moves.{GoesIn, IsFull, Moves}
use Rattle.store_moves.specs.Works.{PageResult, works, HasKey, key_of, fetched, deleted, placed, is_kept, stored_unless, ran_on, as_ran, stored_by, ran_anew, run_on, outcome_there, outcome_anew, in_place, leaf_alone, EndsOn}
use Rattle.store_moves.specs.Leads.{state_of, does_change, LeadsTo, IsPlaceOf, IsSameBeside}
use Rattle.store_moves.proofs.InPlace.{map_of-written, IsInstallable-written}

abbrev leads_to : Database → List ℕ → ℕ
leads_to db key = page_of db.splits (hash_of db.kind key)

-- the depth of a place
depth_is : (db : Database) → IsDatabase db → (hash h : ℕ) → IsDepth db.splits hash h → h ≡ depth_of db.splits hash
depth_is db ok hash h p = IsDepth-unique db.splits hash h (depth_of db.splits hash) p (depth_of-IsDepth db.splits ok.directory hash)

-- a value on the page of a key is in the map
value_on_page : (db : Database) → IsDatabase db → (key : List ℕ) (h : ℕ) → IsDepth db.splits (hash_of db.kind key) h → map.get (map_of db) key ≡ value_of (pairs_at db (hash_of db.kind key % 2 ^ h)) key
value_on_page db ok key h p = get-map_of db ok key ∙ ap (λ n. value_of (pairs_at db n) key) (page_of_depth db.splits ok.directory (hash_of db.kind key) h p)

absent_from : (pairs : List Pair) (key : List ℕ) → (IsRefused Insert pairs key → ⊥) → value_of pairs key ≡ None
absent_from pairs key allowed = at (value_of pairs key) refl
  where
    at : (o : Option (List ℕ)) → value_of pairs key ≡ o → o ≡ None
    at (Some v) e = absurd (allowed (record { inserts = refl; there = λ none. let no : Some v ≡ None = sym e ∙ none in cc }))
    at None e = refl

goes_in : (db : Database) (key value : List ℕ) (h t : ℕ) (leaf : Content) (twins : List (ℕ × Content)) (bits : List ℕ) → IsStore db key value h t leaf twins bits
    → GoesIn (state_of db) key value (state_of (installed db (hash_of db.kind key % 2 ^ h) leaf twins bits)) t
goes_in db key value h t leaf twins bits s =
    let hash = hash_of db.kind key in
    let deep : h ≡ depth_of db.splits hash = depth_is db s.database hash h s.depth in
    record {
      least = subst (λ (k : ℕ). IsLeastSplits db.size (map_neighbors db.kind (map_of db) key) key value k t) deep
          (IsLeastSplits-map db.size db.kind db.splits (pairs_at db) (map_of db) key value h t s.database.directory s.depth (get-map_of db s.database) (IsPage-pairs_at db s.database (hash % 2 ^ h)).distinct s.plan.splits);
      map_is = map_of-stored db key value h t leaf twins bits s;
      splits_are = splits-stored db key value h t leaf twins bits s ∙ ap (λ k. split_along db.splits hash k t) deep;
    }

-- a plan that stores a pair
abbrev PutsIn : (A : Type 0) → Database → ℕ → List ℕ → List ℕ → Mode → ℕ → Content → List (ℕ × Content) → List ℕ → Type 0
PutsIn A db session key value mode n leaf twins bits =
    IsInstallable db n leaf twins bits × Moves {A = A} (state_of db) (record { session = session; command = Store key value mode; reply = reply.Stored }) (state_of (installed db n leaf twins bits))

puts_in : (A : Type 0) (db : Database) (session : ℕ) (key value : List ℕ) (mode : Mode) (h t : ℕ) (leaf : Content) (twins : List (ℕ × Content)) (bits : List ℕ) → IsStore db key value h t leaf twins bits
    → (IsRefused mode (pairs_at db (hash_of db.kind key % 2 ^ h)) key → ⊥) → PutsIn A db session key value mode (hash_of db.kind key % 2 ^ h) leaf twins bits
puts_in A db session key value Insert h t leaf twins bits s allowed = (
  IsInstallable-stored db key value h t leaf twins bits s,
  record { changes = (value_on_page db s.database key h s.depth ∙ absent_from _ key allowed, (t, goes_in db key value h t leaf twins bits s)); kind = refl; size = refl },
)
puts_in A db session key value Replace h t leaf twins bits s allowed =
    (IsInstallable-stored db key value h t leaf twins bits s, record { changes = (t, goes_in db key value h t leaf twins bits s); kind = refl; size = refl })

found_at : (pairs : List Pair) (k : ℕ) (d : Pair) → k < length pairs → value_of pairs (get_or pairs k d).0 ≢ None
found_at [] k d l none = absurd (omega arith)
found_at (e ∷ es) zero d l none = let some : Some e.1 ≡ None = sym (ap (λ b. cond b (Some e.1) (value_of es e.0)) (same_key-refl e.0)) ∙ none in cc
found_at (e ∷ es) (suc k) d l none = at (same_key (get_or es k d).0 e.0) none (found_at es k d (omega arith))
  where
    at : (b : Bool) → cond b (Some e.1) (value_of es (get_or es k d).0) ≡ None → value_of es (get_or es k d).0 ≢ None → ⊥
    at true g r = let no : Some e.1 ≡ None = g in cc
    at false g r = r g

-- every key on the page of a place leads to that place
pub keys_lead : (db : Database) → IsDatabase db → (hash h n : ℕ) → IsDepth db.splits hash h → n ≡ hash % 2 ^ h → All (λ (e : Pair). hash_of db.kind e.0 % 2 ^ h ≡ n) (pairs_at db n)
keys_lead db ok hash h n p is k d l =
    let e = hash_of db.kind (get_or (pairs_at db n) k d).0 in
    let g = depth_of db.splits e in
    let deep : IsDepth db.splits e g = depth_of-IsDepth db.splits ok.directory e in
    let there : e % 2 ^ g ≡ n = sym (page_of_depth db.splits ok.directory e g deep) ∙ ok.placed n (get_or (pairs_at db n) k d).0 (found_at (pairs_at db n) k d l) in
    let same : g ≡ h = same_place db.splits e hash g h (there ∙ is) deep p in
    ap (λ j. e % 2 ^ j) (sym same) ∙ there

-- ---- parts that stay unchanged

same_beside : (db : Database) (n : ℕ) → IsSameBeside db n db
same_beside db n = λ key place p other. (p, refl)

other_test : (q n : ℕ) → q ≢ n → eqb q n ≡ false
other_test q n h = false_from_ne_true _ (λ t. h (eqb-true q n t))

taken_beside : (db : Database) (n : ℕ) (leaf : Content) → IsSameBeside db n (installed db n leaf [] [])
taken_beside db n leaf = λ key place p other.
    (record { depth = p.depth; shallow = p.shallow; low_bits = p.low_bits; bit = p.bit }, pairs-put_page db.pages n leaf.pairs place.page ∙ cond-false _ _ _ (other_test place.page n other))

stored_beside : (db : Database) (key value : List ℕ) (h t : ℕ) (leaf : Content) (twins : List (ℕ × Content)) (bits : List ℕ) → IsStore db key value h t leaf twins bits
    → IsSameBeside db (hash_of db.kind key % 2 ^ h) (installed db (hash_of db.kind key % 2 ^ h) leaf twins bits)
stored_beside db key value h t leaf twins bits s = λ q place p other.
    let hash = hash_of db.kind key in
    let e = hash_of db.kind q in
    let dir = s.database.directory in
    let leads : place.page ≡ page_of db.splits e = p.low_bits ∙ sym (page_of_depth db.splits dir e place.depth p.depth) in
    let off : hash % 2 ^ h ≡ e % 2 ^ h → ⊥ = off_path db.splits hash h e dir s.depth (λ (same : page_of db.splits e ≡ hash % 2 ^ h). other (leads ∙ same)) in
    let splits = splits-stored db key value h t leaf twins bits s in (
      record {
        depth = subst (λ (d : Splits). IsDepth d e place.depth) (sym splits) (IsDepth-elsewhere db.splits hash h t e place.depth off p.depth);
        shallow = p.shallow;
        low_bits = p.low_bits;
        bit = p.bit;
      },
      (is_installed db key value h t leaf twins bits s).other_page place.page (other_place_is_old db.splits hash h t e place.page dir s.depth off leads),
    )

-- ---- each command

fetch_leads : {A : Type 0} (db : Database) (session : ℕ) (key : List ℕ) (n : ℕ) (o : Option (List ℕ)) → map.get (map_of db) key ≡ o → LeadsTo {A = A} db session (Fetch key) n (fetched o)
fetch_leads db session key n None none = record { may = tt; move = λ ends. record { changes = ((none, refl), refl); kind = refl; size = refl }; beside = same_beside db _; changes = refl }
fetch_leads db session key n (Some value) some = record { may = tt; move = λ ends. record { changes = ((some, refl), refl); kind = refl; size = refl }; beside = same_beside db _; changes = refl }

delete_leads : {A : Type 0} (db : Database) → IsDatabase db → (session : ℕ) (key : List ℕ) (n : ℕ) → n ≡ leads_to db key → (o : Option (List ℕ)) → map.get (map_of db) key ≡ o
    → LeadsTo {A = A} db session (Delete key) n (deleted db.size (pairs_at db n) key o)
delete_leads db ok session key n leads None none = record { may = tt; move = λ ends. record { changes = ((none, refl), refl); kind = refl; size = refl }; beside = same_beside db _; changes = refl }
delete_leads db ok session key n leads (Some value) some = record {
  may = IsInstallable-taken_out db ok n key leads;
  move = λ ends. record { changes = ((ap is_some some, map_of-taken_out db ok n key leads), refl); kind = refl; size = refl };
  beside = taken_beside db n (record { size = db.size; pairs = without key (pairs_at db n) });
  changes = refl;
}

-- the page of a hash at a depth
abbrev page_at : Database → ℕ → ℕ → Content
page_at db hash h = record { size = db.size; pairs = pairs_at db (hash % 2 ^ h) }

module _ (A : Type 0) (db : Database) (ok : IsDatabase db) (session : ℕ) (key value : List ℕ) (h : ℕ) (small : IsSmall {A = A} db.size (Store key value Replace)) (deep : IsDepth db.splits (hash_of db.kind key) h) where
  abbrev hash : ℕ
  hash = hash_of db.kind key

  abbrev page : Content
  page = page_at db hash h

  there : map.get (map_of db) key ≡ value_of page.pairs key
  there = value_on_page db ok key h deep

  is_full : IsCrowded page.size (neighbors db.kind page.pairs key) key value h → IsFull (state_of db) key value
  is_full crowded =
      subst (λ (k : ℕ). IsCrowded db.size (map_neighbors db.kind (map_of db) key) key value k) (depth_is db ok hash h deep)
      (IsCrowded-map db.size db.kind db.splits (pairs_at db) (map_of db) key value h ok.directory deep (get-map_of db ok) (IsPage-pairs_at db ok (hash % 2 ^ h)).distinct crowded)

  stores : (t : ℕ) → IsLeastSplits page.size (neighbors db.kind page.pairs key) key value h t
      → IsStore db key value h t (planned db.kind page key value h t).leaf (planned db.kind page key value h t).twins (planned db.kind page key value h t).bits
  stores t least =
      let whole = IsPage-pairs_at db ok (hash % 2 ^ h) in
      let leads = Leads-own db.kind page.pairs key h (hash % 2 ^ h) refl (keys_lead db ok hash h (hash % 2 ^ h) deep refl) in
      let plan = planned db.kind page key value h t in
      record {
        database = ok;
        depth = deep;
        plan = IsPlan-from db.kind page key value h t plan.leaf plan.twins plan.bits least leads refl refl refl;
        pages = ArePages-from db.kind page key value h t plan.leaf plan.twins whole.distinct whole.laid small least.room refl refl;
      }

  crowded_leads : (mode : Mode) → (IsRefused mode page.pairs key → ⊥) → IsCrowded page.size (neighbors db.kind page.pairs key) key value h
      → LeadsTo {A = A} db session (Store key value mode) (hash % 2 ^ h) (placed db.kind page key value h None)
  crowded_leads Insert allowed crowded = record { may = tt; move = λ ends. record { changes = (there ∙ absent_from page.pairs key allowed, (is_full crowded, refl)); kind = refl; size = refl }; beside = same_beside db _; changes = refl }
  crowded_leads Replace allowed crowded = record { may = tt; move = λ ends. record { changes = (is_full crowded, refl); kind = refl; size = refl }; beside = same_beside db _; changes = refl }

  fits_leads : (mode : Mode) → (IsRefused mode page.pairs key → ⊥) → (t : ℕ) → IsLeastSplits page.size (neighbors db.kind page.pairs key) key value h t
      → LeadsTo {A = A} db session (Store key value mode) (hash % 2 ^ h) (placed db.kind page key value h (Some t))
  fits_leads mode allowed t least =
      let plan = planned db.kind page key value h t in
      let in_ = puts_in A db session key value mode h t plan.leaf plan.twins plan.bits (stores t least) allowed in
      record { may = in_.0; move = λ ends. in_.1; beside = stored_beside db key value h t plan.leaf plan.twins plan.bits (stores t least); changes = refl }

  placed_leads : (mode : Mode) → (IsRefused mode page.pairs key → ⊥)
      → LeadsTo {A = A} db session (Store key value mode) (hash % 2 ^ h) (placed db.kind page key value h (least_splits page.size (neighbors db.kind page.pairs key) key value h))
  placed_leads mode allowed = at (least_splits-cases page.size (neighbors db.kind page.pairs key) key value h)
    where
      P : Option ℕ → Type 0
      P o = LeadsTo {A = A} db session (Store key value mode) (hash % 2 ^ h) (placed db.kind page key value h o)

      at : ((t : ℕ) × ((least_splits page.size (neighbors db.kind page.pairs key) key value h ≡ Some t) × IsLeastSplits page.size (neighbors db.kind page.pairs key) key value h t))
          ⊎ ((least_splits page.size (neighbors db.kind page.pairs key) key value h ≡ None) × IsCrowded page.size (neighbors db.kind page.pairs key) key value h)
          → P (least_splits page.size (neighbors db.kind page.pairs key) key value h)
      at (inl some) = subst P (sym some.1.0) (fits_leads mode allowed some.0 some.1.1)
      at (inr none) = subst P (sym none.0) (crowded_leads mode allowed none.1)

  insert_leads : (o : Option (List ℕ)) → value_of page.pairs key ≡ o
      → LeadsTo {A = A} db session (Store key value Insert) (hash % 2 ^ h) (stored_unless (is_kept Insert o) db.kind page key value h)
  insert_leads (Some old) is = record { may = tt; move = λ ends. record { changes = (ap is_some (there ∙ is), refl); kind = refl; size = refl }; beside = same_beside db _; changes = refl }
  insert_leads None is = placed_leads Insert (λ r. r.there is)

  store_leads : (mode : Mode) → LeadsTo {A = A} db session (Store key value mode) (hash % 2 ^ h) (stored_unless (is_kept mode (value_of page.pairs key)) db.kind page key value h)
  store_leads Insert = insert_leads (value_of page.pairs key) refl
  store_leads Replace = placed_leads Replace (λ r. let clash : Replace ≡ Insert = r.inserts in cc)

-- ---- runs

and_true : (a : Bool) → (a && true) ≡ a
and_true true = refl
and_true false = refl

and_false : (a : Bool) → (a && false) ≡ false
and_false true = refl
and_false false = refl

-- the run of a command on this page
module _ (A : Type 0) (db : Database) (ok : IsDatabase db) (session : ℕ) (key : List ℕ) (program : List Insn) (argument : List ℕ) (blank : Option ℕ) (now n : ℕ) where
  abbrev command : Command A
  command = Run key program argument blank now

  -- a run on the value of its key
  module _ (value : List ℕ) (leads : n ≡ leads_to db key) (there : map.get (map_of db) key ≡ Some value) (on_page : value_of (pairs_at db n) key ≡ Some value) where
    says : (o : Outcome) (b r : Bool) → saves o.code ≡ b → removes o.code ≡ r → does_change {A = A} (map.contains_key (map_of db) key) (reply.Ran o.code o.word) ≡ (b || r)
    says o b r s d =
        let held : map.contains_key (map_of db) key ≡ true = ap is_some there in
        ap (λ (x : Bool). x || (removes o.code && map.contains_key (map_of db) key)) s
        ∙ ap (λ (x : Bool). b || x) (ap (λ (x : Bool). removes o.code && x) held ∙ and_true (removes o.code) ∙ d)

    left : (o : Outcome) (b r : Bool) → saves o.code ≡ b → removes o.code ≡ r → cond b (map.insert (map_of db) key o.bytes) (cond r (map.remove (map_of db) key) (map_of db)) ≡ left_by (map_of db) key o
    left o b r s d =
        sym (ap (λ (x : Bool). cond x (map.insert (map_of db) key o.bytes) (cond (removes o.code) (map.remove (map_of db) key) (map_of db))) s
        ∙ ap (λ (x : Bool). cond b (map.insert (map_of db) key o.bytes) (cond x (map.remove (map_of db) key) (map_of db))) d)

    abbrev result_of : Outcome → Bool → Bool → PageResult A
    result_of o b r = record { reply = reply.Ran o.code o.word; change = cond b (Some (leaf_alone db.size (in_place key o.bytes (pairs_at db n)))) (cond r (Some (leaf_alone db.size (without key (pairs_at db n)))) None) }

    ran_leads : (o : Outcome) → outcome_there session program argument now value ≡ Some o → (b r : Bool) → saves o.code ≡ b → removes o.code ≡ r → LeadsTo db session command n (result_of o b r)
    ran_leads o is b r s d = at b r s d
      where
        ends : Ends program value argument (env_of now true session) o
        ends = outcome-ends program value argument (env_of now true session) o is

        long : length o.bytes ≡ length value
        long = Ends-length program value argument (env_of now true session) o ends

        at : (b r : Bool) → saves o.code ≡ b → removes o.code ≡ r → LeadsTo db session command n (result_of o b r)
        at true r s d = record {
          may = IsInstallable-written db ok n key value o.bytes leads on_page long;
          move = λ e. record {
            changes = inl (record { value = value; there = there; outcome = o; ends = ends; code_is = refl; word_is = refl; map_is = map_of-written db ok n key value o.bytes leads on_page long ∙ left o true r s d }, refl);
            kind = refl;
            size = refl;
          };
          beside = taken_beside db n (record { size = db.size; pairs = in_place key o.bytes (pairs_at db n) });
          changes = says o true r s d;
        }
        at false true s d =
            let leaf : Content = record { size = db.size; pairs = without key (pairs_at db n) } in
            let gone : map_of (installed db n leaf [] []) ≡ map.remove (map_of db) key = map_of-taken_out db ok n key leads in
            record {
              may = IsInstallable-taken_out db ok n key leads;
              move = λ e. record {
                changes = inl (record { value = value; there = there; outcome = o; ends = ends; code_is = refl; word_is = refl; map_is = gone ∙ left o false true s d }, refl);
                kind = refl;
                size = refl;
              };
              beside = taken_beside db n leaf;
              changes = says o false true s d;
            }
        at false false s d = record {
          may = tt;
          move = λ e. record {
            changes = inl (record { value = value; there = there; outcome = o; ends = ends; code_is = refl; word_is = refl; map_is = left o false false s d }, refl);
            kind = refl;
            size = refl;
          };
          beside = same_beside db n;
          changes = says o false false s d;
        }

    there_leads : (o : Option Outcome) → outcome_there session program argument now value ≡ o → LeadsTo db session command n (ran_on db.size (pairs_at db n) key o)
    there_leads None is = record { may = tt; move = λ e. absurd (clash (subst (λ (x : Option (List ℕ)). EndsOn session program argument now x blank) on_page e)); beside = same_beside db n; changes = refl }
      where
        clash : is_some (outcome_there session program argument now value) ≡ true → ⊥
        clash some = true≢false (sym some ∙ ap is_some is)
    there_leads (Some o) is = ran_leads o is (saves o.code) (removes o.code) refl refl

  -- a run on neither a value nor a blank: the key is missing
  nothing_leads : blank ≡ None → map.get (map_of db) key ≡ None → LeadsTo {A = A} db session command n (record { reply = reply.Missing; change = None })
  nothing_leads is_none absent = record { may = tt; move = λ e. record { changes = (record { absent = absent; blank_is = is_none; map_is = refl }, refl); kind = refl; size = refl }; beside = same_beside db n; changes = refl }

  -- a run on a blank that is not stored
  module _ (len : ℕ) (is_blank : blank ≡ Some len) (absent : map.get (map_of db) key ≡ None) where
    unsaved_leads : (o : Outcome) → outcome_anew session program argument now len ≡ Some o → saves o.code ≡ false → LeadsTo {A = A} db session command n (record { reply = reply.Ran o.code o.word; change = None })
    unsaved_leads o is unsaved = record {
      may = tt;
      move = λ e. record {
        changes = inr (record {
          outcome = o;
          runs = record { absent = absent; len = len; blank_is = is_blank; ends = outcome-ends program (replicate len 0) argument (env_of now false session) o is };
          code_is = refl;
          word_is = refl;
          saves_it = inr (unsaved, refl);
        });
        kind = refl;
        size = refl;
      };
      beside = same_beside db n;
      changes =
          ap (λ (x : Bool). x || (removes o.code && map.contains_key (map_of db) key)) unsaved
          ∙ ap (λ (x : Bool). removes o.code && x) (ap is_some absent) ∙ and_false (removes o.code);
    }

    endless_leads : value_of (pairs_at db n) key ≡ None → outcome_anew session program argument now len ≡ None → LeadsTo {A = A} db session command n (record { reply = reply.Ran 0 0; change = None })
    endless_leads nowhere is = record { may = tt; move = λ e. absurd (clash (ends_here e)); beside = same_beside db n; changes = refl }
      where
        clash : is_some (outcome_anew session program argument now len) ≡ true → ⊥
        clash some = true≢false (sym some ∙ ap is_some is)

        ends_here : EndsOn session program argument now (value_of (pairs_at db n) key) blank → is_some (outcome_anew session program argument now len) ≡ true
        ends_here e = subst (λ (b : Option ℕ). EndsOn session program argument now None b) is_blank (subst (λ (x : Option (List ℕ)). EndsOn session program argument now x blank) nowhere e)

-- a run on a blank that is stored
module _ (A : Type 0) (db : Database) (ok : IsDatabase db) (session : ℕ) (key : List ℕ) (program : List Insn) (argument : List ℕ) (blank : Option ℕ) (now h : ℕ) (deep : IsDepth db.splits (hash_of db.kind key) h) where
  abbrev run_here : Command A
  run_here = Run key program argument blank now

  abbrev number : ℕ
  number = hash_of db.kind key % 2 ^ h

  module _ (len : ℕ) (is_blank : blank ≡ Some len) (fits : length key + len ≤ pair_limit db.size) (absent : map.get (map_of db) key ≡ None) (o : Outcome) (is : outcome_anew session program argument now len ≡ Some o) (saved : saves o.code ≡ true) where
    ends_anew : Ends program (replicate len 0) argument (env_of now false session) o
    ends_anew = outcome-ends program (replicate len 0) argument (env_of now false session) o is

    long_anew : length o.bytes ≡ len
    long_anew = Ends-length program (replicate len 0) argument (env_of now false session) o ends_anew ∙ length-replicate len 0

    small_anew : length key + length o.bytes ≤ pair_limit db.size
    small_anew = let l : length o.bytes ≡ len = long_anew in omega arith

    abbrev page_of_run : Content
    page_of_run = page_at db (hash_of db.kind key) h

    put_leads : (t : ℕ) → IsLeastSplits db.size (neighbors db.kind page_of_run.pairs key) key o.bytes h t
        → LeadsTo {A = A} db session run_here number (record { reply = reply.Ran o.code o.word; change = Some (planned db.kind page_of_run key o.bytes h t) })
    put_leads t least =
        let plan = planned db.kind page_of_run key o.bytes h t in
        let store = stores A db ok session key o.bytes h small_anew deep t least in
        record {
          may = IsInstallable-stored db key o.bytes h t plan.leaf plan.twins plan.bits store;
          move = λ e. record {
            changes = inr (record {
              outcome = o;
              runs = record { absent = absent; len = len; blank_is = is_blank; ends = ends_anew };
              code_is = refl;
              word_is = refl;
              saves_it = inl (saved, (t, goes_in db key o.bytes h t plan.leaf plan.twins plan.bits store));
            });
            kind = refl;
            size = refl;
          };
          beside = stored_beside db key o.bytes h t plan.leaf plan.twins plan.bits store;
          changes = ap (λ (x : Bool). x || (removes o.code && map.contains_key (map_of db) key)) saved;
        }

    full_leads : IsCrowded db.size (neighbors db.kind page_of_run.pairs key) key o.bytes h → LeadsTo {A = A} db session run_here number (record { reply = reply.Crowded; change = None })
    full_leads crowded = record {
      may = tt;
      move = λ e. record {
        changes = record {
          outcome = o;
          runs = record { absent = absent; len = len; blank_is = is_blank; ends = ends_anew };
          saved = saved;
          full = is_full A db ok session key o.bytes h small_anew deep crowded;
          stays = refl;
        };
        kind = refl;
        size = refl;
      };
      beside = same_beside db number;
      changes = refl;
    }

    saved_leads : LeadsTo {A = A} db session run_here number (stored_by true db.kind page_of_run key h o)
    saved_leads = at (least_splits-cases db.size (neighbors db.kind page_of_run.pairs key) key o.bytes h)
      where
        P : Option ℕ → Type 0
        P t = LeadsTo {A = A} db session run_here number (as_ran (reply.Ran o.code o.word) (option_map (planned db.kind page_of_run key o.bytes h) t))

        at : ((t : ℕ) × ((least_splits db.size (neighbors db.kind page_of_run.pairs key) key o.bytes h ≡ Some t) × IsLeastSplits db.size (neighbors db.kind page_of_run.pairs key) key o.bytes h t))
            ⊎ ((least_splits db.size (neighbors db.kind page_of_run.pairs key) key o.bytes h ≡ None) × IsCrowded db.size (neighbors db.kind page_of_run.pairs key) key o.bytes h)
            → P (least_splits db.size (neighbors db.kind page_of_run.pairs key) key o.bytes h)
        at (inl some) = subst P (sym some.1.0) (put_leads some.0 some.1.1)
        at (inr none) = subst P (sym none.0) (full_leads none.1)

  anew_leads : (len : ℕ) → blank ≡ Some len → length key + len ≤ pair_limit db.size → map.get (map_of db) key ≡ None → value_of (pairs_at db number) key ≡ None
      → (o : Option Outcome) → outcome_anew session program argument now len ≡ o → LeadsTo {A = A} db session run_here number (ran_anew db.kind (page_at db (hash_of db.kind key) h) key h o)
  anew_leads len is_blank fits absent nowhere None is = endless_leads A db ok session key program argument blank now number len is_blank absent nowhere is
  anew_leads len is_blank fits absent nowhere (Some o) is = at (saves o.code) refl
    where
      at : (b : Bool) → saves o.code ≡ b → LeadsTo {A = A} db session run_here number (stored_by b db.kind (page_at db (hash_of db.kind key) h) key h o)
      at true saved = saved_leads len is_blank fits absent o is saved
      at false unsaved = unsaved_leads A db ok session key program argument blank now number len is_blank absent o is unsaved

  run_leads : FitsBlank db.size key blank → LeadsTo {A = A} db session run_here number (run_on db.kind (page_at db (hash_of db.kind key) h) h session key program argument now (value_of (pairs_at db number) key) blank)
  run_leads small = at (value_of (pairs_at db number) key) refl blank refl
    where
      found : map.get (map_of db) key ≡ value_of (pairs_at db number) key
      found = value_on_page db ok key h deep

      here : number ≡ leads_to db key
      here = sym (page_of_depth db.splits ok.directory (hash_of db.kind key) h deep)

      at : (v : Option (List ℕ)) → value_of (pairs_at db number) key ≡ v → (b : Option ℕ) → blank ≡ b → LeadsTo {A = A} db session run_here number (run_on db.kind (page_at db (hash_of db.kind key) h) h session key program argument now v b)
      at (Some value) is b is_b = there_leads A db ok session key program argument blank now number value here (found ∙ is) is (outcome_there session program argument now value) refl
      at None is (Some len) is_b = anew_leads len is_b (subst (FitsBlank db.size key) is_b small) (found ∙ is) is (outcome_anew session program argument now len) refl
      at None is None is_b = nothing_leads A db ok session key program argument blank now number is_b (found ∙ is)

-- ---- all commands

-- a command computed on the page of its place, and installed there
pub works_lead : {A : Type 0} (db : Database) → IsDatabase db → (place : Place) (session : ℕ) (command : Command A) → HasKey command → IsSmall db.size command → IsPlaceOf db (key_of command) place
    → LeadsTo db session command place.page (works place db.kind db.size (pairs_at db place.page) session command)
works_lead {A} db ok place session (Fetch key) keyed small p =
    fetch_leads db session key place.page (value_of (pairs_at db place.page) key) (value_on_page db ok key place.depth p.depth ∙ ap (λ k. value_of (pairs_at db k) key) (sym p.low_bits))
works_lead {A} db ok place session (Delete key) keyed small p =
    delete_leads db ok session key place.page (p.low_bits ∙ sym (page_of_depth db.splits ok.directory (hash_of db.kind key) place.depth p.depth)) (value_of (pairs_at db place.page) key)
    (value_on_page db ok key place.depth p.depth ∙ ap (λ k. value_of (pairs_at db k) key) (sym p.low_bits))
works_lead {A} db ok place session (Store key value mode) keyed small p =
    subst (λ (n : ℕ). LeadsTo {A = A} db session (Store key value mode) n (works place db.kind db.size (pairs_at db n) session (Store key value mode))) (sym p.low_bits)
    (store_leads A db ok session key value place.depth small p.depth mode)
works_lead {A} db ok place session (Run key program argument blank now) keyed small p =
    subst (λ (n : ℕ). LeadsTo {A = A} db session (Run key program argument blank now) n (works place db.kind db.size (pairs_at db n) session (Run key program argument blank now))) (sym p.low_bits)
    (run_leads A db ok session key program argument blank now place.depth p.depth small.0)
works_lead {A} db ok place session Count keyed small p = absurd keyed
