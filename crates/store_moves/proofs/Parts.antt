-- One command on a partial database, which knows only the page of the command's key, and on the whole database.
use Rattle.std.proofs.Common.{◌≡◌, ◌≢◌, ℕ, ◌%◌, ◌^◌, ◌≤◌, List, [], ◌∷◌, Bool, true, false, cond, Option, Some, None, unwrap_or, refl, sym, ap, ◌∙◌, subst, eqb}
use Rattle.std.specs.Ordering.{nat_cmp}
use Rattle.std.specs.FinMap as map
use Rattle.std.specs.FinMap.{FinMap}
use Rattle.sdbm_addr.specs.declared.KeyBytes.{KeyBytes}
use Rattle.sdbm_addr.specs.declared.PageSize.{PageSize}
use Rattle.sdbm_addr.specs.Hash.{hash_of}
use Rattle.sdbm_addr.specs.Directory.{Splits, IsDepth, hash_prefix, word_number, page_of, depth_of}
use Rattle.sdbm_addr.specs.Pairs.{Pair, Content, value_of}
use Rattle.sdbm_addr.specs.Database.{Database, IsDatabase, pairs_at, put_page}
use Rattle.sdbm_addr.proofs.PairLemmas.{same_key-refl}
use Rattle.sdbm_addr.proofs.DirectoryLemmas.{depth_of-IsDepth, depth-le, page_of_depth}
use Rattle.sdbm_dir.specs.declared.Place.{Place}
use Rattle.sdbm_split.specs.Planned.{PageChange}
use Rattle.sdbm_files.specs.Installed.{installed, put_all, marked}
use Rattle.sdbm_files.proofs.PutLemmas.{pairs-put_page}
use Rattle.store_cmd.specs.declared.Command.{Command}
use Rattle.store_cmd.specs.declared.Command.TheVariants.{Fetch, Store, Delete, Run, Count}
use Rattle.store_cmd.specs.declared.Entry.{Entry}
use Rattle.store_cmd.specs.Command.{IsSmall}
use Rattle.store_moves.specs.Works.{PageResult, works, key_of, HasKey, HasEnd}
use Rattle.store_moves.specs.Leads.{IsPlaceOf, IsSameBeside, LeadsTo, MayChange, changed_by}
use Rattle.store_moves.specs.Acts.{Acts, IsExactFor, IsOnPage}
use Rattle.store_moves.proofs.Lifting.{works_lead}
use Rattle.store_moves.proofs.Acting.{Acts-on_page, IsPlaceOf-unique}

-- two databases that agree on everything except their pages, and on one of these
pub record IsAlikeAt (number : ℕ) (part db : Database) : Type 0 where
  pub kind : part.kind ≡ db.kind
  pub size : part.size ≡ db.size
  pub splits : part.splits ≡ db.splits
  pub here : pairs_at part number ≡ pairs_at db number

-- the same change of a page of both
pub record IsChangedAlike (number : ℕ) (part db part' db' : Database) : Type 0 where
  pub change : Option PageChange
  pub part_is : part' ≡ changed_by part number change
  pub db_is : db' ≡ changed_by db number change
  pub may : MayChange db number change
  pub beside : IsSameBeside db number db'

place_in : (number : ℕ) (part db : Database) → IsAlikeAt number part db → (key : List ℕ) (place : Place) → IsPlaceOf part key place → IsPlaceOf db key place
place_in number part db alike key place p = record {
  depth = subst (λ (s : Splits). IsDepth s (hash_of db.kind key) place.depth) alike.splits (subst (λ (k : KeyBytes). IsDepth part.splits (hash_of k key) place.depth) alike.kind p.depth);
  shallow = p.shallow;
  low_bits = p.low_bits ∙ ap (λ (k : KeyBytes). hash_of k key % 2 ^ place.depth) alike.kind;
  bit = p.bit ∙ ap (λ (k : KeyBytes). word_number (hash_prefix place.depth (hash_of k key))) alike.kind;
}

on_page : {A : Type 0} (db : Database) (command : Command A) (e : Entry A) (db' : Database) → HasKey command → IsExactFor command db e db' → IsOnPage db e db'
on_page db (Fetch key) e db' keyed exact = exact
on_page db (Store key value mode) e db' keyed exact = exact
on_page db (Delete key) e db' keyed exact = exact
on_page db (Run key program argument blank now) e db' keyed exact = exact
on_page db Count e db' keyed exact = absurd keyed

-- a command executed on the partial database is executed on the whole one alike
pub acts_alike : {A : Type 0} (part db : Database) → IsDatabase db → (number : ℕ) → IsAlikeAt number part db → (e : Entry A) (part' : Database) → HasKey e.command → (place : Place) → IsPlaceOf part (key_of e.command) place → place.page ≡ number
    → Acts part e part' → (db' : Database) × (Acts db e db' × IsChangedAlike number part db part' db')
acts_alike {A} part db ok number alike e part' keyed place leads page acts =
    let x : IsOnPage part e part' = on_page part e.command e part' keyed acts.exact in
    let same : x.place ≡ place = IsPlaceOf-unique part (key_of e.command) x.place place x.leads leads in
    let at : x.place.page ≡ number = ap (λ (p : Place). p.page) same ∙ page in
    let pairs : pairs_at part x.place.page ≡ pairs_at db x.place.page = ap (λ (n : ℕ). pairs_at part n) at ∙ alike.here ∙ ap (λ (n : ℕ). pairs_at db n) (sym at) in
    let there : PageResult A = works x.place part.kind part.size (pairs_at part x.place.page) e.session e.command in
    let result : PageResult A = works x.place db.kind db.size (pairs_at db x.place.page) e.session e.command in
    let results : there ≡ result =
    ap (λ (k : KeyBytes). works x.place k part.size (pairs_at part x.place.page) e.session e.command) alike.kind
    ∙ ap (λ (z : PageSize). works x.place db.kind z (pairs_at part x.place.page) e.session e.command) alike.size
    ∙ ap (λ (ps : List Pair). works x.place db.kind db.size ps e.session e.command) pairs in
    let small : IsSmall db.size e.command = subst (λ (z : PageSize). IsSmall z e.command) alike.size acts.small in
    let leads_in : IsPlaceOf db (key_of e.command) x.place = place_in number part db alike (key_of e.command) x.place x.leads in
    let lead : LeadsTo db e.session e.command x.place.page result = works_lead db ok x.place e.session e.command keyed small leads_in in
    let after : Database = changed_by db x.place.page result.change in
    let done : Acts db e after =
    Acts-on_page db after ok x.place e.session e.command e.reply keyed small leads_in (subst (λ (ps : List Pair). HasEnd ps e.session e.command) pairs x.ends) (x.answer_is ∙ ap (λ (r : PageResult A). r.reply) results) refl in
    let both : IsChangedAlike number part db part' after = record {
      change = result.change;
      part_is = x.database ∙ ap (λ (n : ℕ). changed_by part n there.change) at ∙ ap (λ (r : PageResult A). changed_by part number r.change) results;
      db_is = ap (λ (n : ℕ). changed_by db n result.change) at;
      may = subst (λ (n : ℕ). MayChange db n result.change) at lead.may;
      beside = subst (λ (n : ℕ). IsSameBeside db n after) at lead.beside;
    } in
    (after, (done, both))

-- neither database changes
pub unchanged_alike : (number : ℕ) (part db : Database) → IsChangedAlike number part db part db
unchanged_alike number part db = record { change = None; part_is = refl; db_is = refl; may = tt; beside = λ key place p other. (p, refl) }

-- ---- the pages after the change

same_put : (one other : FinMap nat_cmp (List Pair)) (n : ℕ) (pairs : List Pair) (q : ℕ) → unwrap_or (map.get one q) [] ≡ unwrap_or (map.get other q) []
    → unwrap_or (map.get (put_page one n pairs) q) [] ≡ unwrap_or (map.get (put_page other n pairs) q) []
same_put one other n pairs q same =
    pairs-put_page one n pairs q ∙ ap (λ (old : List Pair). cond (eqb q n) pairs old) same ∙ sym (pairs-put_page other n pairs q)

same_put_all : (one other : FinMap nat_cmp (List Pair)) (es : List (ℕ × Content)) (q : ℕ) → unwrap_or (map.get one q) [] ≡ unwrap_or (map.get other q) []
    → unwrap_or (map.get (put_all one es) q) [] ≡ unwrap_or (map.get (put_all other es) q) []
same_put_all one other [] q same = same
same_put_all one other (e ∷ es) q same = same_put_all (put_page one e.0 e.1.pairs) (put_page other e.0 e.1.pairs) es q (same_put one other e.0 e.1.pairs q same)

same_changed : (number : ℕ) (part db : Database) (change : Option PageChange) (n : ℕ) → pairs_at part n ≡ pairs_at db n → pairs_at (changed_by part number change) n ≡ pairs_at (changed_by db number change) n
same_changed number part db None n same = same
same_changed number part db (Some change) n same =
    same_put_all (put_page part.pages number change.leaf.pairs) (put_page db.pages number change.leaf.pairs) change.twins n (same_put part.pages db.pages number change.leaf.pairs n same)

module _ (number : ℕ) (part db part' db' : Database) (ok : IsDatabase db) (alike : IsAlikeAt number part db) (changed : IsChangedAlike number part db part' db') where
  -- a page that was equal in both databases is equal afterwards
  pub pairs_alike : (n : ℕ) → pairs_at part n ≡ pairs_at db n → pairs_at part' n ≡ pairs_at db' n
  pairs_alike n same =
      ap (λ (d : Database). pairs_at d n) changed.part_is ∙ same_changed number part db changed.change n same ∙ sym (ap (λ (d : Database). pairs_at d n) changed.db_is)

  -- any other page with pairs is unchanged
  pub pairs_beside : (n : ℕ) → n ≢ number → (e : Pair) (es : List Pair) → pairs_at db n ≡ e ∷ es → pairs_at db' n ≡ pairs_at db n
  pairs_beside n other e es is = ap (λ (k : ℕ). pairs_at db' k) (sym page) ∙ (changed.beside e.0 place leads (λ h. other (sym page ∙ h))).1 ∙ ap (λ (k : ℕ). pairs_at db k) page
    where
      hash : ℕ
      hash = hash_of db.kind e.0

      depth : ℕ
      depth = depth_of db.splits hash

      deep : IsDepth db.splits hash depth
      deep = depth_of-IsDepth db.splits ok.directory hash

      place : Place
      place = record { page = hash % 2 ^ depth; depth = depth; bit = word_number (hash_prefix depth hash) }

      leads : IsPlaceOf db e.0 place
      leads = record { depth = deep; shallow = depth-le db.splits ok.directory hash depth deep; low_bits = refl; bit = refl }

      there : value_of (pairs_at db n) e.0 ≢ None
      there none =
          let some : Some e.1 ≡ None =
          sym (ap (λ b. cond b (Some e.1) (value_of es e.0)) (same_key-refl e.0)) ∙ ap (λ (ps : List Pair). value_of ps e.0) (sym is) ∙ none in
          cc

      page : place.page ≡ n
      page = sym (page_of_depth db.splits ok.directory hash depth deep) ∙ ok.placed n e.0 there
