-- The results of the workers are the results of the tasks. A worker is known by its session, its replies and its first refused
-- task.
use Rattle.std.proofs.Common.{inl, inr, Bool, true, false, ◌≡◌, ◌∙◌, sym, ap, ◌∷◌, [], zero, suc, length, ◌<◌, ℕ, ◌++◌, arith, List, refl, subst}
use Rattle.std.specs.Prelude.{◌%◌, ◌==◌, ◌&&◌, take, drop, map, slice_index_or, Option, Some, None, is_none, IfSome}
use Rattle.std.proofs.lemmas.Nat.{mod_below}
use Rattle.std.proofs.lemmas.Bool.{cases_eq, eqb-true, false_from_ne_true}
use Rattle.std.specs.List.{All, slice_get}
use Rattle.std.proofs.lemmas.List.{length-map, get_or-map, take_all, drop_all, append-nil}
use Rattle.std.proofs.lemmas.List.Elements.{All-get_or, All-map, All-nil, All-push, All-weaker}
use Rattle.std.proofs.lemmas.Option.{slice_get-map, slice_get-get_or, slice_get_within, get_or_from_slice_get}
use Rattle.std.specs.Option.{option_map}
use Rattle.sdbm_addr.specs.declared.PageSize.{PageSize}
use Rattle.bpf_verify.specs.Verified.{Accepted}
use Rattle.store_cmd.specs.declared.Reply.{Reply}
use Rattle.store_cmd.specs.declared.Entry.{Entry}
use Rattle.store_cmd.specs.declared.Refusal.{Refusal}
use Rattle.store_shared.specs.Shared.{SessionState, CallsState, calls_left}
use Rattle.worker_pool.specs.declared.task.Task.{Task}
use Rattle.worker_pool.specs.Tasks.{run_of, IsTaskTried}
use Rattle.worker_pool.specs.Shares.{share_of, ran_of, runs_of, AreRuns, HasWorked, IsFirstOwn, IsFirstRefused, IsNoLater, IsLowerOf, IsFirstIn}
use Rattle.worker_pool.proofs.ShareLemmas.{some_of, places_same}
use Rattle.worker_pool.specs.Pool.{AreIdle, MayBegin, AreDone, AreRefused, IsShareDone}

-- an element of a mapped list comes from an element of the list
pub record Mapped {X Y : Type 0} (f : X → Y) (xs : List X) (i : ℕ) (y : Y) : Type 0 where
  pub source : X
  pub here : slice_get xs i ≡ Some source
  pub value : f source ≡ y

pub mapped : {X Y : Type 0} (f : X → Y) (xs : List X) (i : ℕ) (y : Y) → slice_get (map f xs) i ≡ Some y → Mapped f xs i y
mapped f [] i y h = absurd (cc)
mapped f (x ∷ xs) zero y h = record { source = x; here = refl; value = cc }
mapped f (x ∷ xs) (suc i) y h = let rest = mapped f xs i y h in record { source = rest.source; here = rest.here; value = rest.value }

-- a property of all elements is a property of the element at an index
all_at : {X : Type 0} (P : X → Type 0) (xs : List X) (i : ℕ) (x : X) → slice_get xs i ≡ Some x → All P xs → P x
all_at P xs i x here all = subst P (get_or_from_slice_get xs i x x here) (All-get_or P xs i x (slice_get_within xs i x here) all)

slice_get-front : {X : Type 0} (front back : List X) (i : ℕ) (x : X) → slice_get front i ≡ Some x → slice_get (front ++ back) i ≡ Some x
slice_get-front [] back i x h = absurd (cc)
slice_get-front (y ∷ ys) back zero x h = h
slice_get-front (y ∷ ys) back (suc i) x h = slice_get-front ys back i x h

slice_get-behind : {X : Type 0} (front : List X) (x : X) (rest : List X) → slice_get (front ++ x ∷ rest) (length front) ≡ Some x
slice_get-behind [] x rest = refl
slice_get-behind (y ∷ ys) x rest = slice_get-behind ys x rest

pub some_each : {X : Type 0} (P : X → Type 0) (o : Option X) → ((x : X) → o ≡ Some x → P x) → IfSome o P
some_each P None each = tt
some_each P (Some x) each = each x refl

some_at : {X : Type 0} (P : X → Type 0) (o : Option X) (x : X) → o ≡ Some x → IfSome o P → P x
some_at {X} P o x is h = subst (λ (p : Option X). IfSome p P) is h

and_true : (b : Bool) → (b && true) ≡ b
and_true true = refl
and_true false = refl

none_of : (o : Option (ℕ × Refusal)) → IsNoLater None o → o ≡ None
none_of None h = refl
none_of (Some r) h = absurd h

module _ {A W : Type 0} (session : W → SessionState A) (replies : W → List (Reply A)) (refused : W → Option (ℕ × Refusal)) (programs : List Accepted) (tasks : List (Task A)) (k : ℕ) where
  -- the result of a worker in a crew
  abbrev pub Worked : ℕ → W → Type 0
  Worked w x = HasWorked programs tasks k w (session x) (replies x) (refused x)

  abbrev left_by : W → CallsState A
  left_by x = calls_left (session x)

  pub no_later : (crew : List W) (first : Option (ℕ × Refusal)) (w : ℕ) (x : W) → IsFirstIn (map refused crew) first → slice_get crew w ≡ Some x → IsNoLater first (refused x)
  no_later crew first w x is here = all_at (IsNoLater first) (map refused crew) w (refused x) (slice_get-map refused crew w ∙ ap (option_map refused) here) is.lowest

  -- the reason for a task's refusal, according to one worker
  abbrev told_by : (w : ℕ) (o : Option W) → IfSome o (Worked w) → ℕ → Option Refusal
  told_by w None did at = None
  told_by w (Some x) did at = did.refusals at

  record Did (w : ℕ) (o : Option W) (all : IfSome o (Worked w)) (x : W) : Type 0 where
    work : Worked w x
    same : (at : ℕ) → told_by w o all at ≡ work.refusals at

  did : (w : ℕ) (o : Option W) (all : IfSome o (Worked w)) (x : W) → o ≡ Some x → Did w o all x
  did w None all x is = absurd (cc)
  did w (Some y) all x is =
      let same : y ≡ x = cc in
      let own : Did w (Some y) all y = record { work = all; same = λ at. refl } in
      subst (λ (z : W). Did w (Some y) all z) same own

  -- the reason for a task's refusal, according to its own worker
  abbrev told : (crew : List W) → ((w : ℕ) → IfSome (slice_get crew w) (Worked w)) → ℕ → Option Refusal
  told crew worked at = told_by (at % k) (slice_get crew (at % k)) (worked (at % k)) at

  -- if no task was refused, a worker ran its whole share
  ran_all : (refusals : ℕ → Option Refusal) (w : ℕ) → ((at : ℕ) → at % k ≡ w → refusals at ≡ None) → ran_of k w refusals tasks ≡ share_of k w tasks
  ran_all refusals w none =
      places_same (λ at. at % k == w && is_none (refusals at)) (λ at. at % k == w) tasks (λ j below. elim (cases_eq (j % k) w) [
        | inl its_own ↦ ap (λ (o : Option Refusal). j % k == w && is_none o) (none j its_own) ∙ and_true (j % k == w)
        | inr other ↦
            let no : (j % k == w) ≡ false = false_from_ne_true (j % k == w) (λ is. other (eqb-true (j % k) w is)) in
            ap (λ b. b && is_none (refusals j)) no ∙ sym no
      ])

  pub pool_done : (size : PageSize) (crew : List W) (calls : List (CallsState A)) (answers : List (Reply A)) → MayBegin programs tasks k → length crew ≡ k → ((w : ℕ) → IfSome (slice_get crew w) (Worked w))
      → ((w : ℕ) (x : W) → slice_get crew w ≡ Some x → (session x).size ≡ size)
      → IsFirstIn (map refused crew) None → calls ≡ map left_by crew → length answers ≡ length tasks
      → ((w : ℕ) (x : W) → slice_get crew w ≡ Some x → share_of k w answers ≡ replies x)
      → AreDone size programs tasks k answers calls
  pool_done size crew calls answers begun count worked sized none left one_each shared = record {
    begun = begun;
    small = λ at task here.
        let w = at % k in
        let near : w < length crew = let small : w < k = mod_below at k begun.some in omega arith in
        let x : W = slice_index_or crew w (some_of crew w near) in
        let is : slice_get crew w ≡ Some x = slice_get-get_or crew w (some_of crew w near) near in
        let d = some_at (Worked w) (slice_get crew w) x is (worked w) in
        let to_end : refused x ≡ None = none_of (refused x) (no_later crew None w x none is) in
        let free : IsFirstRefused (length tasks) k w d.refusals None = subst (λ o. IsFirstRefused (length tasks) k w d.refusals o) to_end d.first in
        subst (λ (o : Option Refusal). IsTaskTried size (run_of programs task) o) (free at refl) (subst (λ z. IsTaskTried z (run_of programs task) (d.refusals at)) (sized w x is) (d.tried at task here refl));
    one_each = one_each;
    all_workers = ap length left ∙ (length-map crew left_by ∙ count);
    shares = λ w its here.
        let m = mapped left_by crew w its (ap (λ cs. slice_get cs w) (sym left) ∙ here) in
        let x = m.source in
        let d = some_at (Worked w) (slice_get crew w) x m.here (worked w) in
        let to_end : refused x ≡ None = none_of (refused x) (no_later crew None w x none m.here) in
        let free : IsFirstRefused (length tasks) k w d.refusals None = subst (λ o. IsFirstRefused (length tasks) k w d.refusals o) to_end d.first in
        let runs : AreRuns programs (share_of k w tasks) (session x).number (session x).calls = subst (λ (ts : List (Task A)). AreRuns programs ts (session x).number (session x).calls) (ran_all d.refusals w free) d.runs in
        subst (λ c. IsShareDone programs tasks k w answers c) m.value (record { runs = runs; replied = d.replied ∙ sym (shared w x m.here) });
  }

  -- before the first refused task, no worker was refused a task
  free_before : (w : ℕ) (refusals : ℕ → Option Refusal) (o : Option (ℕ × Refusal)) (r : ℕ × Refusal) → IsFirstRefused (length tasks) k w refusals o → IsNoLater (Some r) o → (at : ℕ) → at < r.0 → at % k ≡ w → refusals at ≡ None
  free_before w refusals None r first later at before its_own = first at its_own
  free_before w refusals (Some s) r first later at before its_own = first.before at (omega arith) its_own

  pub pool_refused : (size : PageSize) (crew : List W) (calls : List (CallsState A)) (r : ℕ × Refusal) → 0 < k → length crew ≡ k → ((w : ℕ) → IfSome (slice_get crew w) (Worked w))
      → ((w : ℕ) (x : W) → slice_get crew w ≡ Some x → (session x).size ≡ size)
      → IsFirstIn (map refused crew) (Some r) → calls ≡ map left_by crew
      → AreRefused size programs tasks k r.0 r.1 calls
  pool_refused size crew calls r some count worked sized first left =
      let m = mapped refused crew first.here.0 (Some r) first.here.1 in
      let x = m.source in
      let there = some_at (Worked first.here.0) (slice_get crew first.here.0) x m.here (worked first.here.0) in
      let own : IsFirstOwn (length tasks) k first.here.0 there.refusals r.0 r.1 = subst (λ o. IsFirstRefused (length tasks) k first.here.0 there.refusals o) m.value there.first in
      let its = did (r.0 % k) (slice_get crew (r.0 % k)) (worked (r.0 % k)) x (ap (slice_get crew) own.its_own ∙ m.here) in
      let its_first : IsFirstOwn (length tasks) k (r.0 % k) its.work.refusals r.0 r.1 = subst (λ o. IsFirstRefused (length tasks) k (r.0 % k) its.work.refusals o) m.value its.work.first in
      record {
        refusals = told crew worked;
        within = own.within;
        here = its.same r.0 ∙ its_first.here;
        before = λ at earlier.
            let w = at % k in
            let near : w < length crew = let small : w < k = mod_below at k some in omega arith in
            let y : W = slice_index_or crew w (some_of crew w near) in
            let is : slice_get crew w ≡ Some y = slice_get-get_or crew w (some_of crew w near) near in
            let d = did w (slice_get crew w) (worked w) y is in
            d.same at ∙ free_before w d.work.refusals (refused y) r d.work.first (no_later crew (Some r) w y first is) at earlier refl;
        tried = λ at task here.
            let w = at % k in
            let near : w < length crew = let small : w < k = mod_below at k some in omega arith in
            let y : W = slice_index_or crew w (some_of crew w near) in
            let is : slice_get crew w ≡ Some y = slice_get-get_or crew w (some_of crew w near) near in
            let d = did w (slice_get crew w) (worked w) y is in
            subst (λ (o : Option Refusal). IsTaskTried size (run_of programs task) o) (sym (d.same at)) (subst (λ z. IsTaskTried z (run_of programs task) (d.work.refusals at)) (sized w y is) (d.work.tried at task here refl));
        all_workers = ap length left ∙ (length-map crew left_by ∙ count);
        runs = λ w c here.
            let n = mapped left_by crew w c (ap (λ cs. slice_get cs w) (sym left) ∙ here) in
            let d = did w (slice_get crew w) (worked w) n.source n.here in
            let same : ran_of k w d.work.refusals tasks ≡ ran_of k w (told crew worked) tasks =
            places_same (λ at. at % k == w && is_none (d.work.refusals at)) (λ at. at % k == w && is_none (told crew worked at)) tasks (λ j below. elim (cases_eq (j % k) w) [
              | inl its_own ↦
                  ap (λ (o : Option Refusal). j % k == w && is_none o) (sym (d.same j) ∙ ap (λ v. told_by v (slice_get crew v) (worked v) j) (sym its_own))
              | inr other ↦
                  let no : (j % k == w) ≡ false = false_from_ne_true (j % k == w) (λ is. other (eqb-true (j % k) w is)) in
                  ap (λ b. b && is_none (d.work.refusals j)) no ∙ sym (ap (λ b. b && is_none (told crew worked j)) no)
            ]) in
            subst (λ v. AreRuns programs (ran_of k w (told crew worked) tasks) v.number v.calls) n.value (subst (λ (ts : List (Task A)). AreRuns programs ts (session n.source).number (session n.source).calls) same d.work.runs);
      }

-- each worker's session keeps its page size
pub sized_all : {A W : Type 0} (session : W → SessionState A) (size : PageSize) (old new : List W) → length new ≡ length old
    → ((w : ℕ) → IfSome (slice_get new w) (λ x. IfSome (slice_get old w) (λ y. (session x).size ≡ (session y).size)))
    → All (λ y. (session y).size ≡ size) old → (w : ℕ) (x : W) → slice_get new w ≡ Some x → (session x).size ≡ size
sized_all {A} {W} session size old new count kept sized w x here =
    let near : w < length new = slice_get_within new w x here in
    let y : W = slice_index_or old w x in
    let was : slice_get old w ≡ Some y = slice_get-get_or old w x (omega arith) in
    some_at (λ (v : W). (session x).size ≡ (session v).size) (slice_get old w) y was (some_at (λ (u : W). IfSome (slice_get old w) (λ v. (session u).size ≡ (session v).size)) (slice_get new w) x here (kept w))
    ∙ all_at (λ (v : W). (session v).size ≡ size) old w y was sized

-- the list at an index is that of the worker there, if the lists are those of a crew
pub view_at : {S W Y : Type 0} (view : S → Y) (f : W → Y) (lists : List S) (crew : List W) → map view lists ≡ map f crew → (w : ℕ) (d : S) (x : W) → slice_get crew w ≡ Some x → view (slice_index_or lists w d) ≡ f x
view_at view f lists crew same w d x here =
    let near : w < length crew = slice_get_within crew w x here in
    let count : length (map view lists) ≡ length (map f crew) = ap length same in
    let long = length-map lists view in
    let crew_long = length-map crew f in
    sym (get_or-map view lists w d (f x) (omega arith)) ∙ (ap (λ ys. slice_index_or ys w (f x)) same ∙ get_or_from_slice_get (map f crew) w (f x) (f x) (slice_get-map f crew w ∙ ap (option_map f) here))

module _ {A W S : Type 0} (session : W → SessionState A) (replies : W → List (Reply A)) (refused : W → Option (ℕ × Refusal)) (programs : List Accepted) (tasks : List (Task A)) (k : ℕ) (view : S → List (Reply A)) where
  -- once all tasks are run, the list of a worker is as long as its share
  pub pool_shares : (crew : List W) (lists : List S) → length crew ≡ k → map view lists ≡ map replies crew → ((w : ℕ) → IfSome (slice_get crew w) (Worked session replies refused programs tasks k w)) → IsFirstIn (map refused crew) None
      → (w : ℕ) (d : S) → w < length lists → length (view (slice_index_or lists w d)) ≡ length (share_of (length lists) w tasks)
  pool_shares crew lists count same worked none w d near =
      let both : length (map view lists) ≡ length (map replies crew) = ap length same in
      let long = length-map lists view in
      let crew_long = length-map crew replies in
      let at : w < length crew = omega arith in
      let x : W = slice_index_or crew w (some_of crew w at) in
      let here : slice_get crew w ≡ Some x = slice_get-get_or crew w (some_of crew w at) at in
      let work = some_at (Worked session replies refused programs tasks k w) (slice_get crew w) x here (worked w) in
      let to_end : refused x ≡ None = none_of (refused x) (no_later session replies refused programs tasks k crew None w x none here) in
      let free : IsFirstRefused (length tasks) k w work.refusals None = subst (λ o. IsFirstRefused (length tasks) k w work.refusals o) to_end work.first in
      let ran : length (ran_of k w work.refusals tasks) ≡ length (share_of k w tasks) = ap length (ran_all session replies refused programs tasks k work.refusals w free) in
      let run : length (runs_of programs (ran_of k w work.refusals tasks)) ≡ length (ran_of k w work.refusals tasks) = length-map (ran_of k w work.refusals tasks) (λ (t : Task A). run_of programs t) in
      let its : length (replies x) ≡ length (share_of k w tasks) = ap length (sym work.replied) ∙ (length-map (session x).calls (λ (e : Entry A). e.reply) ∙ (sym (length-map (session x).calls (λ (e : Entry A). e.command)) ∙ (ap length work.runs.commands ∙ (run ∙ ran)))) in
      ap length (view_at view replies lists crew same w d x here) ∙ (its ∙ ap (λ n. length (share_of n w tasks)) (omega arith))

  -- the elements taken from each list are its worker's share
  pub pool_taken : (crew : List W) (lists : List S) (answers : List (Reply A)) → length crew ≡ k → map view lists ≡ map replies crew
      → ((w : ℕ) (d : S) → w < length lists → share_of (length lists) w answers ≡ view (slice_index_or lists w d))
      → (w : ℕ) (x : W) → slice_get crew w ≡ Some x → share_of k w answers ≡ replies x
  pool_taken crew lists answers count same taken w x here =
      let both : length (map view lists) ≡ length (map replies crew) = ap length same in
      let long = length-map lists view in
      let crew_long = length-map crew replies in
      let near : w < length crew = slice_get_within crew w x here in
      let at : w < length lists = omega arith in
      let d : S = some_of lists w at in
      let size : k ≡ length lists = omega arith in
      ap (λ n. share_of n w answers) size ∙ (taken w d at ∙ view_at view replies lists crew same w d x here)

-- ---- a crew that has worked, as its list records it

written_back : {W : Type 0} (items new : List W) (len : ℕ) → length new ≡ length items → length items ≡ len → take len (new ++ drop (length new) items) ≡ new
written_back items new len count long = ap (λ xs. take len (new ++ xs)) (drop_all (length new) items (omega arith)) ∙ (ap (take len) (append-nil new) ∙ take_all len new (omega arith))

-- the workers in `items` are those of `crew` after their work
pub record IsBack {A W : Type 0} (session : W → SessionState A) (replies : W → List (Reply A)) (refused : W → Option (ℕ × Refusal)) (programs : List Accepted) (tasks : List (Task A)) (items crew : List W) : Type 0 where
  pub count : length crew ≡ length items
  pub worked : (w : ℕ) → IfSome (slice_get crew w) (Worked session replies refused programs tasks (length items) w)
  pub sizes : (w : ℕ) → IfSome (slice_get crew w) (λ x. IfSome (slice_get items w) (λ y. (session x).size ≡ (session y).size))

pub crew_back : {A W : Type 0} (session : W → SessionState A) (replies : W → List (Reply A)) (refused : W → Option (ℕ × Refusal)) (programs : List Accepted) (tasks : List (Task A)) (items lent new : List W) (len : ℕ) → lent ≡ items → length new ≡ length lent → length lent ≡ len
    → ((w : ℕ) → IfSome (slice_get new w) (Worked session replies refused programs tasks (length lent) w))
    → ((w : ℕ) → IfSome (slice_get new w) (λ x. IfSome (slice_get lent w) (λ y. (session x).size ≡ (session y).size)))
    → IsBack session replies refused programs tasks items (take len (new ++ drop (length new) items))
crew_back {A} {W} session replies refused programs tasks items lent new len same count long worked sizes =
    let long_items : length items ≡ len = ap length (sym same) ∙ long in
    let counted : length new ≡ length items = count ∙ ap length same in
    let whole : IsBack session replies refused programs tasks items new = record {
      count = counted;
      worked = λ w. subst (λ xs. IfSome (slice_get new w) (Worked session replies refused programs tasks (length xs) w)) same (worked w);
      sizes = λ w. subst (λ xs. IfSome (slice_get new w) (λ x. IfSome (slice_get xs w) (λ y. (session x).size ≡ (session y).size))) same (sizes w);
    } in
    subst (λ xs. IsBack session replies refused programs tasks items xs) (sym (written_back items new len counted long_items)) whole

-- ---- the first of all

no_later_of : (a b c : Option (ℕ × Refusal)) → IsNoLater a b → IsNoLater b c → IsNoLater a c
no_later_of None None c h j = j
no_later_of None (Some s) c h j = absurd h
no_later_of (Some r) None None h j = tt
no_later_of (Some r) None (Some t) h j = absurd j
no_later_of (Some r) (Some s) None h j = tt
no_later_of (Some r) (Some s) (Some t) h j = omega arith

pub first_none : IsFirstIn [] None
first_none = record { lowest = All-nil (λ (o : Option (ℕ × Refusal)). IsNoLater None o); here = tt }

still_here : (xs : List (Option (ℕ × Refusal))) (o : Option (ℕ × Refusal)) (r : Option (ℕ × Refusal)) → IfSome r (λ s. (w : ℕ) × (slice_get xs w ≡ Some (Some s))) → IfSome r (λ s. (w : ℕ) × (slice_get (xs ++ o ∷ []) w ≡ Some (Some s)))
still_here xs o None h = tt
still_here xs o (Some s) h = (h.0, slice_get-front xs (o ∷ []) h.0 (Some s) h.1)

now_here : (xs : List (Option (ℕ × Refusal))) (o : Option (ℕ × Refusal)) → IfSome o (λ s. (w : ℕ) × (slice_get (xs ++ o ∷ []) w ≡ Some (Some s)))
now_here xs None = tt
now_here xs (Some s) = (length xs, slice_get-behind xs (Some s) [])

-- one more worker
pub first_more : (xs : List (Option (ℕ × Refusal))) (a b r : Option (ℕ × Refusal)) → IsFirstIn xs a → IsLowerOf a b r → IsFirstIn (xs ++ b ∷ []) r
first_more xs a b r first lower = record {
  lowest = All-push (λ o. IsNoLater r o) xs b (All-weaker (λ o. IsNoLater a o) (λ o. IsNoLater r o) (λ o h. no_later_of r a o lower.first h) xs first.lowest) lower.second;
  here = elim lower.either [
    | inl e ↦ subst (λ o. IfSome o (λ s. (w : ℕ) × (slice_get (xs ++ b ∷ []) w ≡ Some (Some s)))) (sym e) (still_here xs b a first.here)
    | inr e ↦ subst (λ o. IfSome o (λ s. (w : ℕ) × (slice_get (xs ++ b ∷ []) w ≡ Some (Some s)))) (sym e) (now_here xs b)
  ];
}

-- idle workers leave no calls
pub idle_left : {A W : Type 0} (session : W → SessionState A) (crew : List W) (calls : List (CallsState A)) → calls ≡ map (λ x. calls_left (session x)) crew → All (λ x. (session x).calls ≡ []) crew → AreIdle calls
idle_left {A} {W} session crew calls left idle =
    subst AreIdle (sym left) (All-map (λ (its : CallsState A). its.calls ≡ []) (λ (x : W). calls_left (session x)) crew idle)
