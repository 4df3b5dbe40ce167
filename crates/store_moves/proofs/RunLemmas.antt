-- The result of a run on its page, case by case.
use Rattle.std.proofs.Common.{◌≡◌, ℕ, zero, suc, ◌+◌, ◌<◌, ◌≤◌, List, [], ◌∷◌, length, take, replicate, remove, Bool, true, false, cond, Option, Some, None, is_some, refl, sym, ap, ◌∙◌, subst, arith}
use Rattle.std.proofs.lemmas.Bool.{eqb-true, eq-eqb, false_from_ne_true}
use Rattle.std.specs.Prelude.{◌==◌, slice_set}
use Rattle.std.specs.Option.{option_map}
use Rattle.sdbm_addr.specs.declared.PageSize.{PageSize}
use Rattle.sdbm_addr.specs.declared.PageSize.TheVariants.{Small, Wide}
use Rattle.sdbm_addr.specs.declared.Mode.TheVariants.{Insert}
use Rattle.sdbm_addr.specs.Pairs.{Pair, Content, value_of, value_at, key_at, HasDistinctKeys, AreSmall, IsPlace, pair_limit}
use Rattle.sdbm_addr.specs.Splitting.{neighbors}
use Rattle.sdbm_addr.proofs.SortedPairs.{remove-without}
use Rattle.sdbm_split.specs.Planned.{PageChange, planned, least_splits}
use Rattle.bpf_helpers.specs.declared.values.Env.{Env}
use Rattle.bpf_helpers.specs.Runs.{Outcome, Ends, record_limit}
use Rattle.bpf_helpers.proofs.OneEnd.{ends-outcome}
use Rattle.bpf_helpers.proofs.Lengths.{Ends-length}
use Rattle.store_cmd.specs.declared.Reply.{Reply}
use Rattle.store_cmd.specs.declared.Reply.TheVariants as reply
use Rattle.store_cmd.specs.Answers.{env_of, saves, removes}
use Rattle.store_moves.specs.declared.worked.Worked.{Worked}
use Rattle.store_moves.specs.declared.worked.Site.{Site}
use Rattle.store_moves.specs.declared.runs.RunInput.{RunInput}
use Rattle.store_moves.specs.Works.{PageResult, placed, stored_unless, in_place, leaf_alone, left_on, ran_on, as_ran, run_on, change_of}
use Rattle.store_moves.specs.Worked.{IsWorked, takes_memory, page_on, stored_on, run_by, outcome_on, outcome_of_blank, left_at, IsRunAt, stored_from, IsRunAnew, WantsAnew}
use Rattle.store_moves.proofs.InPlace.{slice_set-in_place}

-- ---- records

pub take_zeros : (k n : ℕ) → k ≤ n → take {A = ℕ} k (replicate n 0) ≡ replicate k 0
take_zeros zero n h = refl
take_zeros (suc k) zero h = absurd (omega arith)
take_zeros (suc k) (suc n) h = ap (λ xs. 0 ∷ xs) (take_zeros k n (omega arith))

pub pair_limit-le : (size : PageSize) → pair_limit size ≤ record_limit
pair_limit-le Small = omega arith
pair_limit-le Wide = omega arith

pub record_limit-le : (size : PageSize) (key : List ℕ) (len : ℕ) → length key + len ≤ pair_limit size → len ≤ record_limit
record_limit-le size key len fits = let l : pair_limit size ≤ record_limit = pair_limit-le size in omega arith

value_small : (size : PageSize) (pairs : List Pair) (i : ℕ) → AreSmall size pairs → i < length pairs → length (value_at pairs i) ≤ pair_limit size
value_small size [] i small inside = absurd (omega arith)
value_small size (e ∷ es) zero small inside = let l : length e.0 + length e.1 ≤ pair_limit size = small.0 in omega arith
value_small size (e ∷ es) (suc i) small inside = value_small size es i small.1 (omega arith)

-- a value of a page is no longer than a record
pub value_fits : (size : PageSize) (pairs : List Pair) (i : ℕ) → AreSmall size pairs → i < length pairs → length (value_at pairs i) ≤ record_limit
value_fits size pairs i small inside =
    let l : pair_limit size ≤ record_limit = pair_limit-le size in
    let m : length (value_at pairs i) ≤ pair_limit size = value_small size pairs i small inside in
    omega arith

-- ---- exit numbers

pub saves_is : (code : ℕ) → code ≡ 1 → saves code ≡ true
saves_is code e = eq-eqb code 1 e

pub saves_not : (code : ℕ) → (code ≡ 1 → ⊥) → saves code ≡ false
saves_not code h = false_from_ne_true (saves code) (λ t. h (eqb-true code 1 t))

pub removes_is : (code : ℕ) → code ≡ 2 → removes code ≡ true
removes_is code e = eq-eqb code 2 e

pub removes_not : (code : ℕ) → (code ≡ 2 → ⊥) → removes code ≡ false
removes_not code h = false_from_ne_true (removes code) (λ t. h (eqb-true code 2 t))

-- removing a pair after its value was overwritten
remove_set : (xs : List Pair) (i : ℕ) (x : Pair) → remove (slice_set xs i x) i ≡ remove xs i
remove_set [] zero x = refl
remove_set [] (suc i) x = refl
remove_set (y ∷ ys) zero x = refl
remove_set (y ∷ ys) (suc i) x = ap (λ zs. y ∷ zs) (remove_set ys i x)

-- ---- on the page

-- equal environments and equal bytes give the same outcome
pub Ends-told : {A : Type 0} (input : RunInput A) (present : Bool) (bytes bytes' : List ℕ) (env : Env) (o : Outcome) → bytes ≡ bytes' → env ≡ env_of input.time present input.session → Ends input.program.now.code bytes input.arg.now env o
    → Ends input.program.now.code bytes' input.arg.now (env_of input.time present input.session) o
Ends-told input present bytes bytes' env o same told ends =
    subst (λ (e : Env). Ends input.program.now.code bytes' input.arg.now e o) told (subst (λ (b : List ℕ). Ends input.program.now.code b input.arg.now env o) same ends)

module _ (A : Type 0) (page : Content) (i : ℕ) (input : RunInput A) (o : Outcome) (ends : Ends input.program.now.code (value_at page.pairs i) input.arg.now (env_of input.time true input.session) o) (short : o.steps ≤ length input.program.now.code) where
  found : outcome_on input (value_at page.pairs i) ≡ Some o
  found = ends-outcome input.program.now.code (value_at page.pairs i) input.arg.now (env_of input.time true input.session) o ends short

  same_long : (length o.bytes == length (value_at page.pairs i)) ≡ true
  same_long = eq-eqb (length o.bytes) (length (value_at page.pairs i)) (Ends-length input.program.now.code (value_at page.pairs i) input.arg.now (env_of input.time true input.session) o ends)

  -- the page after the run; `other` is the result if the record had another length
  abbrev pub page_after : List Pair → Content
  page_after other = record { size = page.size; pairs = cond (length o.bytes == length (value_at page.pairs i)) (slice_set page.pairs i (key_at page.pairs i, o.bytes)) other }

  after_is : (other : List Pair) → page_after other ≡ record { size = page.size; pairs = slice_set page.pairs i (key_at page.pairs i, o.bytes) }
  after_is other = ap (λ (b : Bool). let c : Content = record { size = page.size; pairs = cond b (slice_set page.pairs i (key_at page.pairs i, o.bytes)) other } in c) same_long

  abbrev in_leaf : Content → Option PageChange
  in_leaf leaf = Some (record { leaf = leaf; twins = []; bits = [] })

  left_so : (b r : Bool) → saves o.code ≡ b → removes o.code ≡ r
      → left_at page i o ≡ cond b (Some (leaf_alone page.size (slice_set page.pairs i (key_at page.pairs i, o.bytes)))) (cond r (Some (leaf_alone page.size (remove page.pairs i))) None)
  left_so b r s d =
      ap (λ (x : Bool). cond x (Some (leaf_alone page.size (slice_set page.pairs i (key_at page.pairs i, o.bytes)))) (cond (removes o.code) (Some (leaf_alone page.size (remove page.pairs i))) None)) s
      ∙ ap (λ (x : Bool). cond b (Some (leaf_alone page.size (slice_set page.pairs i (key_at page.pairs i, o.bytes)))) (cond x (Some (leaf_alone page.size (remove page.pairs i))) None)) d

  pub run_saved : (worked : Worked A) (leaf : Content) (other : List Pair) → saves o.code ≡ true → leaf ≡ page_after other → worked.reply ≡ reply.Ran o.code o.word → option_map change_of worked.change ≡ in_leaf leaf
      → IsRunAt page i input worked
  run_saved worked leaf other saved is answer change =
      record { outcome = o; is = found; reply = answer; change = change ∙ ap in_leaf (is ∙ after_is other) ∙ sym (left_so true (removes o.code) saved refl) }

  pub run_removed : (worked : Worked A) (mid leaf : Content) (other : List Pair) → saves o.code ≡ false → removes o.code ≡ true → mid ≡ page_after other → leaf ≡ record { size = mid.size; pairs = remove mid.pairs i }
      → worked.reply ≡ reply.Ran o.code o.word → option_map change_of worked.change ≡ in_leaf leaf → IsRunAt page i input worked
  run_removed worked mid leaf other unsaved removed is out answer change =
      let taken : leaf ≡ record { size = page.size; pairs = remove page.pairs i } =
      out ∙ ap (λ (c : Content). let x : Content = record { size = c.size; pairs = remove c.pairs i } in x) (is ∙ after_is other)
      ∙ ap (λ (ps : List Pair). let x : Content = record { size = page.size; pairs = ps } in x) (remove_set page.pairs i (key_at page.pairs i, o.bytes)) in
      record { outcome = o; is = found; reply = answer; change = change ∙ ap in_leaf taken ∙ sym (left_so false true unsaved removed) }

  pub run_left : (worked : Worked A) → saves o.code ≡ false → removes o.code ≡ false → worked.reply ≡ reply.Ran o.code o.word → worked.change ≡ None → IsRunAt page i input worked
  run_left worked unsaved kept answer change = record { outcome = o; is = found; reply = answer; change = ap (option_map change_of) change ∙ sym (left_so false false unsaved kept) }

-- the change of the page, by the key
left_by_key : (page : Content) (i : ℕ) (key : List ℕ) (o : Outcome) → HasDistinctKeys page.pairs → IsPlace page.pairs key i → left_at page i o ≡ left_on page.size page.pairs key o
left_by_key page i key o distinct place =
    ap (λ (ps : List Pair). cond (saves o.code) (Some (leaf_alone page.size ps)) (cond (removes o.code) (Some (leaf_alone page.size (remove page.pairs i))) None)) (slice_set-in_place page.pairs key o.bytes i place.in_range place.has_key distinct)
    ∙ ap (λ (ps : List Pair). cond (saves o.code) (Some (leaf_alone page.size (in_place key o.bytes page.pairs))) (cond (removes o.code) (Some (leaf_alone page.size ps)) None)) (remove-without page.pairs key i place.in_range place.has_key distinct)

-- a run on the value of its key
pub ran_there : (A : Type 0) (site : Site) (pairs : List Pair) (input : RunInput A) (i : ℕ) (o : Outcome) → HasDistinctKeys pairs → IsPlace pairs input.key.now i → outcome_on input (value_at pairs i) ≡ Some o
    → run_by site pairs input ≡ record { reply = reply.Ran o.code o.word; change = left_at (page_on site pairs) i o }
ran_there A site pairs input i o distinct place is =
    ap (λ (v : Option (List ℕ)). run_on {A = A} site.kind (page_on site pairs) site.place.depth input.session input.key.now input.program.now.code input.arg.now input.time v input.blank) place.has_value
    ∙ ap (λ (x : Option Outcome). ran_on site.size pairs input.key.now x) is
    ∙ ap (λ (x : Option PageChange). let r : PageResult A = record { reply = reply.Ran o.code o.word; change = x } in r) (sym (left_by_key (page_on site pairs) i input.key.now o distinct place))

pub there_worked : (A : Type 0) (site : Site) (page : Content) (input : RunInput A) (i : ℕ) (worked : Worked A) → page.size ≡ site.size → HasDistinctKeys page.pairs → IsPlace page.pairs input.key.now i → IsRunAt page i input worked
    → IsWorked (run_by site page.pairs input) worked
there_worked A site page input i worked sized distinct place ran =
    let result = ran_there A site page.pairs input i ran.outcome distinct place ran.is in
    record {
      reply = ran.reply ∙ sym (ap (λ (r : PageResult A). r.reply) result);
      change = ran.change ∙ ap (λ (z : PageSize). left_at (record { size = z; pairs = page.pairs }) i ran.outcome) sized ∙ sym (ap (λ (r : PageResult A). r.change) result);
    }

-- ---- on a blank

module _ (A : Type 0) (site : Site) (pairs : List Pair) (input : RunInput A) (len : ℕ) (o : Outcome) (ends : Ends input.program.now.code (replicate len 0) input.arg.now (env_of input.time false input.session) o) (short : o.steps ≤ length input.program.now.code) where
  outcome_is : outcome_of_blank input len ≡ Some o
  outcome_is = ends-outcome input.program.now.code (replicate len 0) input.arg.now (env_of input.time false input.session) o ends short

  pub anew_unsaved : (worked : Worked A) → saves o.code ≡ false → worked.reply ≡ reply.Ran o.code o.word → worked.change ≡ None → IsRunAnew site pairs input len worked
  anew_unsaved worked unsaved answer change = record {
    outcome = o;
    is = outcome_is;
    worked_is = subst (λ (b : Bool). IsWorked (stored_from b site pairs input o) worked) (sym unsaved) (record { reply = answer; change = ap (option_map change_of) change });
  }

  abbrev splits_so : Option ℕ
  splits_so = least_splits site.size (neighbors site.kind pairs input.key.now) input.key.now o.bytes site.place.depth

  placed_so : value_of pairs input.key.now ≡ None → stored_on {A = A} site pairs input.key.now o.bytes Insert ≡ placed site.kind (page_on site pairs) input.key.now o.bytes site.place.depth splits_so
  placed_so absent = ap (λ (b : Bool). stored_unless {A = A} b site.kind (page_on site pairs) input.key.now o.bytes site.place.depth) (ap is_some absent)

  change_so : (t : Option ℕ) → (placed {A = A} site.kind (page_on site pairs) input.key.now o.bytes site.place.depth t).change ≡ option_map (planned site.kind (page_on site pairs) input.key.now o.bytes site.place.depth) t
  change_so None = refl
  change_so (Some t) = refl

  pub anew_saved : (worked stored : Worked A) (answer : Reply A) → saves o.code ≡ true → value_of pairs input.key.now ≡ None → answer ≡ reply.Ran o.code o.word
      → IsWorked (stored_on site pairs input.key.now o.bytes Insert) stored → IsWorked (as_ran answer (option_map change_of stored.change)) worked → IsRunAnew site pairs input len worked
  anew_saved worked stored answer saved absent is was came =
      let change = was.change ∙ ap (λ (r : PageResult A). r.change) (placed_so absent) ∙ change_so splits_so in
      let result : as_ran answer (option_map change_of stored.change) ≡ stored_from true site pairs input o = ap (λ (a : Reply A). as_ran a (option_map change_of stored.change)) is ∙ ap (as_ran (reply.Ran o.code o.word)) change in
      record {
        outcome = o;
        is = outcome_is;
        worked_is = subst (λ (b : Bool). IsWorked (stored_from b site pairs input o) worked) (sym saved) (subst (λ (r : PageResult A). IsWorked r worked) result came);
      }

  takes_so : (t : Option ℕ) → takes_memory (placed {A = A} site.kind (page_on site pairs) input.key.now o.bytes site.place.depth t).reply ≡ true
      → takes_memory (as_ran {A = A} (reply.Ran o.code o.word) (option_map (planned site.kind (page_on site pairs) input.key.now o.bytes site.place.depth) t)).reply ≡ true
  takes_so None e = absurd cc
  takes_so (Some t) e = refl

  pub anew_wants : saves o.code ≡ true → value_of pairs input.key.now ≡ None → takes_memory (stored_on {A = A} site pairs input.key.now o.bytes Insert).reply ≡ true → WantsAnew site pairs input len
  anew_wants saved absent takes = record {
    outcome = o;
    is = outcome_is;
    saved = saved;
    takes = takes_so splits_so (ap (λ (r : PageResult A). takes_memory r.reply) (sym (placed_so absent)) ∙ takes);
  }
