-- The result of a command on its page, case by case.
use Rattle.std.proofs.Common.{◌≡◌, ℕ, ◌+◌, ◌≤◌, List, [], ◌∷◌, length, Bool, true, false, Option, Some, None, is_some, remove, refl, sym, ap, ◌∙◌, arith, inl, inr, ◌⊎◌}
use Rattle.std.specs.List.{All}
use Rattle.std.specs.Borrow.{Bor}
use Rattle.sdbm_addr.specs.declared.KeyBytes.{KeyBytes}
use Rattle.sdbm_addr.specs.declared.PageSize.{PageSize}
use Rattle.sdbm_addr.specs.declared.PageSize.TheVariants.{Small, Wide}
use Rattle.sdbm_addr.specs.declared.Mode.{Mode}
use Rattle.sdbm_addr.specs.declared.Mode.TheVariants.{Insert, Replace}
use Rattle.sdbm_addr.specs.Hash.{hash_of}
use Rattle.sdbm_addr.specs.Pairs.{Pair, Content, value_of, HasDistinctKeys, IsPlace, pair_limit}
use Rattle.sdbm_addr.specs.Splitting.{neighbors, IsLeastSplits, IsCrowded}
use Rattle.sdbm_addr.proofs.SortedPairs.{remove-without}
use Rattle.sdbm_dir.specs.declared.Place.{Place}
use Rattle.sdbm_split.specs.declared.Plan.{Plan}
use Rattle.sdbm_split.specs.Faults.{IsRefused}
use Rattle.sdbm_split.specs.Room.{GoesOn}
use Rattle.sdbm_split.specs.Planned.{planned, IsPlanned, least_splits}
use Rattle.sdbm_split.proofs.Least.{least_splits-Some, least_splits-None}
use Rattle.sdbm_split.proofs.Plans.{Leads, IsLeastSplits-none, leaf-none}
use Rattle.store_cmd.specs.declared.Command.{Command}
use Rattle.store_cmd.specs.declared.Command.TheVariants.{Fetch, Store, Delete, Run, Count}
use Rattle.store_cmd.specs.declared.Reply.TheVariants as reply
use Rattle.store_moves.specs.Works.{PageResult, works, fetched, is_kept, stored_unless, stored_first, placed, deleted, leaf_alone, change_of, pairs_lent, IsRun}
use Rattle.store_moves.specs.declared.worked.Site.{Site}
use Rattle.store_moves.specs.Worked.{stored_on, takes_memory, is_change}

-- if a store is not refused, `is_kept` is false
pub not_kept : (mode : Mode) (pairs : List Pair) (key : List ℕ) → (IsRefused mode pairs key → ⊥) → is_kept mode (value_of pairs key) ≡ false
not_kept Replace pairs key allowed = refl
not_kept Insert pairs key allowed = at (value_of pairs key) refl
  where
    at : (o : Option (List ℕ)) → value_of pairs key ≡ o → is_some o ≡ false
    at (Some v) e = absurd (allowed (record { inserts = refl; there = λ none. let clash : Some v ≡ None = sym e ∙ none in cc }))
    at None e = refl

pub stored-fits : {A : Type 0} (mode : Mode) (kind : KeyBytes) (page : Content) (key value : List ℕ) (h t : ℕ) → (IsRefused mode page.pairs key → ⊥)
    → IsLeastSplits page.size (neighbors kind page.pairs key) key value h t
    → stored_unless {A = A} (is_kept mode (value_of page.pairs key)) kind page key value h ≡ record { reply = reply.Stored; change = Some (planned kind page key value h t) }
stored-fits {A} mode kind page key value h t allowed least =
    ap (λ (b : Bool). stored_unless {A = A} b kind page key value h) (not_kept mode page.pairs key allowed)
    ∙ ap (λ (o : Option ℕ). placed {A = A} kind page key value h o) (least_splits-Some page.size (neighbors kind page.pairs key) key value h t least)

-- a store on a page that has the size of its site
pub stored_on-page : {A : Type 0} (site : Site) (page : Content) (key value : List ℕ) (mode : Mode) → page.size ≡ site.size
    → stored_on {A = A} site page.pairs key value mode ≡ stored_unless (is_kept mode (value_of page.pairs key)) site.kind page key value site.place.depth
stored_on-page {A} site page key value mode sized =
    ap (λ (z : PageSize). stored_unless {A = A} (is_kept mode (value_of page.pairs key)) site.kind (record { size = z; pairs = page.pairs }) key value site.place.depth) (sym sized)

pub stored-crowded : {A : Type 0} (mode : Mode) (kind : KeyBytes) (page : Content) (key value : List ℕ) (h : ℕ) → (IsRefused mode page.pairs key → ⊥)
    → IsCrowded page.size (neighbors kind page.pairs key) key value h
    → stored_unless {A = A} (is_kept mode (value_of page.pairs key)) kind page key value h ≡ record { reply = reply.Crowded; change = None }
stored-crowded {A} mode kind page key value h allowed crowded =
    ap (λ (b : Bool). stored_unless {A = A} b kind page key value h) (not_kept mode page.pairs key allowed)
    ∙ ap (λ (o : Option ℕ). placed {A = A} kind page key value h o) (least_splits-None page.size (neighbors kind page.pairs key) key value h crowded)

-- a plan that is exactly a page's
pub change_of-planned : {A : Type 0} (kind : KeyBytes) (page : Content) (key value : List ℕ) (h t : ℕ) (plan : Plan A)
    → IsPlanned kind page key value h t plan.leaf plan.twins.items plan.bits.items → change_of plan ≡ planned kind page key value h t
change_of-planned kind page key value h t plan p = λ i. record { leaf = p.leaf i; twins = p.twins i; bits = p.bits i }

-- the page after the pair of a key was deleted
pub deleted-there : {A : Type 0} (size : PageSize) (pairs : List Pair) (key : List ℕ) (i : ℕ) → HasDistinctKeys pairs → IsPlace pairs key i
    → deleted {A = A} size pairs key (value_of pairs key) ≡ record { reply = reply.Deleted; change = Some (leaf_alone size (remove pairs i)) }
deleted-there {A} size pairs key i distinct place =
    ap (λ (o : Option (List ℕ)). deleted {A = A} size pairs key o) place.has_value
    ∙ ap (λ (ps : List Pair). let r : PageResult A = record { reply = reply.Deleted; change = Some (leaf_alone size ps) } in r) (sym (remove-without pairs key i place.in_range place.has_key distinct))

-- the first pair of a page fits without a split
pub first_goes_on : (size : PageSize) (key value : List ℕ) → length key + length value ≤ pair_limit size → GoesOn (record { size = size; pairs = [] }) key value
first_goes_on Small key value small = omega arith
first_goes_on Wide key value small = omega arith

stored-first : {A : Type 0} (mode : Mode) (kind : KeyBytes) (size : PageSize) (key value : List ℕ) (h : ℕ) → h ≤ 31 → length key + length value ≤ pair_limit size
    → stored_unless {A = A} (is_kept mode (value_of [] key)) kind (record { size = size; pairs = [] }) key value h ≡ stored_first size key value
stored-first {A} mode kind size key value h shallow small =
    let page : Content = record { size = size; pairs = [] } in
    let none : All (Leads kind (hash_of kind key) h) [] = λ k d l. absurd (omega arith) in
    let least = IsLeastSplits-none kind page key value h shallow none (first_goes_on size key value small) in
    let leaf = leaf-none kind page (record { size = size; pairs = (key, value) ∷ [] }) key value h none refl in
    stored-fits {A = A} mode kind page key value h 0 (λ r. r.there refl) least
    ∙ ap (λ (c : Content). let r : PageResult A = record { reply = reply.Stored; change = Some (record { leaf = c; twins = []; bits = [] }) } in r) (sym leaf)

-- a store at a place without a page
pub stored_on-none : {A : Type 0} (site : Site) (page : Option (Bor Content)) (key value : List ℕ) (mode : Mode) → page ≡ None → site.place.depth ≤ 31 → length key + length value ≤ pair_limit site.size
    → stored_on {A = A} site (pairs_lent page) key value mode ≡ stored_first site.size key value
stored_on-none {A} site page key value mode none shallow small =
    ap (λ (p : Option (Bor Content)). stored_on {A = A} site (pairs_lent p) key value mode) none ∙ stored-first mode site.kind site.size key value site.place.depth shallow small

-- ---- replies

-- A command that needs memory and is neither a fetch nor a run changes its page. A fetch changes nothing.
pub works_change : {A : Type 0} (place : Place) (kind : KeyBytes) (size : PageSize) (pairs : List Pair) (session : ℕ) (command : Command A)
    → takes_memory (works place kind size pairs session command).reply ≡ true
    → (IsRun command × (is_change command ≡ false)) ⊎ (is_change command ≡ is_some (works place kind size pairs session command).change)
works_change {A} place kind size pairs session (Fetch key) takes = inr (at (value_of pairs key))
  where
    at : (o : Option (List ℕ)) → false ≡ is_some (fetched {A = A} o).change
    at None = refl
    at (Some value) = refl
works_change {A} place kind size pairs session (Delete key) takes = inr (at (value_of pairs key) takes)
  where
    at : (o : Option (List ℕ)) → takes_memory (deleted {A = A} size pairs key o).reply ≡ true → true ≡ is_some (deleted {A = A} size pairs key o).change
    at None none = absurd (cc)
    at (Some value) some = refl
works_change {A} place kind size pairs session (Store key value how) takes = inr (at (is_kept how (value_of pairs key)) takes)
  where
    page : Content
    page = record { size = size; pairs = pairs }

    put : (o : Option ℕ) → takes_memory (placed {A = A} kind page key value place.depth o).reply ≡ true → true ≡ is_some (placed {A = A} kind page key value place.depth o).change
    put None none = absurd (cc)
    put (Some t) some = refl

    at : (b : Bool) → takes_memory (stored_unless {A = A} b kind page key value place.depth).reply ≡ true → true ≡ is_some (stored_unless {A = A} b kind page key value place.depth).change
    at true none = absurd (cc)
    at false some = put (least_splits size (neighbors kind pairs key) key value place.depth) some
works_change place kind size pairs session (Run key program argument blank now) takes = inl (tt, refl)
works_change place kind size pairs session Count takes = inr refl
