-- The tasks that a worker has tried grow round by round.
use Rattle.std.proofs.Common.{◌≡◌, ◌∙◌, sym, ap, ◌∷◌, [], true, false, Bool, length, ◌<◌, ◌≤◌, ◌+◌, ℕ, ◌++◌, arith, List, refl, subst, inl, inr, eq-eqb}
use Rattle.std.specs.Prelude.{◌⊎◌, ◌%◌, ◌==◌, ◌&&◌, if◌then◌else◌, take, map, Option, Some, None, is_none, OnSome, IfNone, slice_index_or}
use Rattle.std.specs.List.{All, slice_get}
use Rattle.std.proofs.lemmas.List.{take_all, map-append, append-nil, length-take-le}
use Rattle.std.proofs.lemmas.List.Elements.{All-nil, All-append, All-cons}
use Rattle.std.proofs.lemmas.Bool.{cases_eq, cases_lt, false_from_ne_true, eqb-true}
use Rattle.std.proofs.lemmas.Option.{get_or_from_slice_get, slice_get_within}
use Rattle.bpf_verify.specs.Verified.{Accepted}
use Rattle.store_cmd.specs.declared.Command.{Command}
use Rattle.store_cmd.specs.declared.Reply.{Reply}
use Rattle.store_cmd.specs.declared.Entry.{Entry}
use Rattle.store_cmd.specs.declared.Refusal.{Refusal}
use Rattle.store_shared.specs.Shared.{SessionState, with_call}
use Rattle.worker_pool.specs.declared.task.Task.{Task}
use Rattle.worker_pool.specs.Tasks.{run_of, IsTaskTried}
use Rattle.worker_pool.specs.Groups.{HasTried}
use Rattle.worker_pool.specs.Shares.{at_places, ran_of, runs_of, replies_of, AreRuns, HasWorked, IsSessionCalled, IsFirstRefused, IsUnused, first_with}
use Rattle.worker_pool.proofs.ShareLemmas.{places_nil, places_over, places_round, places_same, others_between, others_before}

abbrev mine : ℕ → ℕ → (ℕ → Option Refusal) → ℕ → Bool
mine k w refusals at = at % k == w && is_none (refusals at)

no_own : (a b : ℕ) → a ≡ b → (a == b) ≡ false → ⊥
no_own a b same other = let e = eq-eqb a b same in absurd (cc)

some_none : (o : Option Refusal) (r : Refusal) → o ≡ Some r → o ≡ None → ⊥
some_none o r is other = absurd (cc)

not_mine : (k w : ℕ) (refusals : ℕ → Option Refusal) (j : ℕ) → (j % k == w) ≡ false → mine k w refusals j ≡ false
not_mine k w refusals j other = ap (λ b. b && is_none (refusals j)) other

-- at the start, a worker has tried nothing
pub tried_none : {A : Type 0} (programs : List Accepted) (tasks : List (Task A)) (k w : ℕ) (s : SessionState A) (replies : List (Reply A)) → w < k → IsUnused s replies → HasTried programs tasks k w w s replies None
tried_none {A} programs tasks k w s replies small unused =
    let none : ℕ → Option Refusal = λ place. None in
    let nothing : ran_of k w none (take w tasks) ≡ [] =
    ap (λ n. ran_of k w none (take n tasks)) (omega arith) ∙ (places_over (mine k w none) tasks 0 w (λ j low high. not_mine k w none j (others_before k w j (omega arith) small)) ∙ places_nil (mine k w none)) in
    record {
      refusals = none;
      ahead = λ place past. refl;
      tried = λ place task here before its_own. absurd (no_own (place % k) w its_own (others_before k w place before small));
      runs = record {
        commands = ap (λ cs. map (λ (call : Entry A). call.command) cs) unused.calls ∙ sym (ap (runs_of programs) nothing);
        own = subst (All (λ (call : Entry A). call.session ≡ s.number)) (sym unused.calls) (All-nil (λ (call : Entry A). call.session ≡ s.number));
      };
      replied = ap replies_of unused.calls ∙ sym unused.replies_are;
      first_is = λ at its_own. refl;
    }

-- a task of the worker below the next round was tried before, or belongs to this round
round_cases : (k w at place : ℕ) → at % k ≡ w → place % k ≡ w → place < at + k → (place < at) ⊎ (place ≡ at)
round_cases k w at place its_own also below =
    elim (cases_lt place at) [
      | inl before ↦ inl before
      | inr behind ↦ elim (cases_eq place at) [
        | inl here ↦ inr here
        | inr other ↦ absurd (no_own (place % k) w also (others_between k w at place its_own (omega arith) below))
      ]
    ]

-- one more call: its task follows those that were run
called_runs : {A : Type 0} (programs : List Accepted) (ran : List (Task A)) (task : Task A) (s s' : SessionState A) (reply : Reply A) → s' ≡ with_call s (run_of programs task) reply → AreRuns programs ran s.number s.calls → AreRuns programs (ran ++ task ∷ []) s'.number s'.calls
called_runs {A} programs ran task s s' reply is runs =
    let e : Entry A = record { session = s.number; command = run_of programs task; reply = reply } in
    let here : AreRuns programs (ran ++ task ∷ []) s.number (s.calls ++ e ∷ []) = record {
      commands = map-append (λ (call : Entry A). call.command) s.calls (e ∷ []) ∙ (ap (λ cs. cs ++ run_of programs task ∷ []) runs.commands ∙ sym (map-append (λ (t : Task A). run_of programs t) ran (task ∷ [])));
      own = All-append (λ (call : Entry A). call.session ≡ s.number) s.calls (e ∷ []) runs.own (All-cons (λ (call : Entry A). call.session ≡ s.number) e [] refl (All-nil (λ (call : Entry A). call.session ≡ s.number)));
    } in
    subst (λ (x : SessionState A). AreRuns programs (ran ++ task ∷ []) x.number x.calls) (sym is) here

called_replies : {A : Type 0} (s s' : SessionState A) (command : Command A) (reply : Reply A) (replies replies' : List (Reply A)) → s' ≡ with_call s command reply → replies' ≡ replies ++ reply ∷ [] → replies_of s.calls ≡ replies → replies_of s'.calls ≡ replies'
called_replies {A} s s' command reply replies replies' same added replied =
    let e : Entry A = record { session = s.number; command = command; reply = reply } in
    ap (λ (x : SessionState A). replies_of x.calls) same ∙ (map-append (λ (call : Entry A). call.reply) s.calls (e ∷ []) ∙ (ap (λ rs. rs ++ reply ∷ []) replied ∙ sym added))

first_stays : (first : Option (ℕ × Refusal)) (at : ℕ) → first_with first at None ≡ first
first_stays None at = refl
first_stays (Some f) at = refl

-- one more refused task, in addition to the earlier ones
abbrev told : (ℕ → Option Refusal) → ℕ → Refusal → ℕ → Option Refusal
told refusals at r place = if place == at then Some r else refusals place

told_here : (refusals : ℕ → Option Refusal) (at : ℕ) (r : Refusal) → told refusals at r at ≡ Some r
told_here refusals at r = ap (λ b. if b then Some r else refusals at) (eq-eqb at at refl)

told_other : (refusals : ℕ → Option Refusal) (at : ℕ) (r : Refusal) (place : ℕ) → (place ≡ at → ⊥) → told refusals at r place ≡ refusals place
told_other refusals at r place other = ap (λ b. if b then Some r else refusals place) (false_from_ne_true (place == at) (λ is. other (eqb-true place at is)))

first_told : (count k w at : ℕ) (refusals : ℕ → Option Refusal) (first : Option (ℕ × Refusal)) (r : Refusal) → at < count → at % k ≡ w → ((place : ℕ) → at ≤ place → refusals place ≡ None)
    → IsFirstRefused count k w refusals first → IsFirstRefused count k w (told refusals at r) (first_with first at (Some r))
first_told count k w at refusals None r within its_own ahead first = record {
  within = within;
  its_own = its_own;
  here = told_here refusals at r;
  before = λ earlier low also. told_other refusals at r earlier (λ e. omega arith) ∙ first earlier also;
}
first_told count k w at refusals (Some f) r within its_own ahead first =
    let low : f.0 < at = elim (cases_lt f.0 at) [
      | inl below ↦ below
      | inr above ↦ absurd (some_none (refusals f.0) f.1 first.here (ahead f.0 above))
    ] in
    record {
      within = first.within;
      its_own = first.its_own;
      here = told_other refusals at r f.0 (λ e. omega arith) ∙ first.here;
      before = λ earlier before also. told_other refusals at r earlier (λ e. omega arith) ∙ first.before earlier before also;
    }

-- a task that was run
tried_run : {A : Type 0} (programs : List Accepted) (tasks : List (Task A)) (k w at : ℕ) (s s' : SessionState A) (replies replies' : List (Reply A)) (first : Option (ℕ × Refusal)) (d : Task A) → 0 < k → at < length tasks → at % k ≡ w
    → IsTaskTried s.size (run_of programs (slice_index_or tasks at d)) None → IsSessionCalled (run_of programs (slice_index_or tasks at d)) s replies s' replies'
    → HasTried programs tasks k w at s replies first → HasTried programs tasks k w (at + k) s' replies' first
tried_run {A} programs tasks k w at s s' replies replies' first d some within its_own tried called h =
    let t : Task A = slice_index_or tasks at d in
    let p : ℕ → Bool = mine k w h.refusals in
    let yes : p at ≡ true = ap (λ b. b && is_none (h.refusals at)) (eq-eqb (at % k) w its_own) ∙ ap (λ (o : Option Refusal). is_none o) (h.ahead at (omega arith)) in
    let round : at_places p (take (at + k) tasks) ≡ at_places p (take at tasks) ++ t ∷ [] =
    places_round p tasks at k d some within (λ j low high. not_mine k w h.refusals j (others_between k w at j its_own low high)) ∙ ap (λ b. at_places p (take at tasks) ++ (if b then t ∷ [] else [])) yes in
    let same : s'.size ≡ s.size = ap (λ (x : SessionState A). x.size) called.call in
    record {
      refusals = h.refusals;
      ahead = λ place past. h.ahead place (omega arith);
      tried = λ place task here below also. subst (λ z. IsTaskTried z (run_of programs task) (h.refusals place)) (sym same) (elim (round_cases k w at place its_own also below) [
        | inl before ↦ h.tried place task here before also
        | inr is ↦
            let task_is : t ≡ task = get_or_from_slice_get tasks at task d (ap (slice_get tasks) (sym is) ∙ here) in
            subst (λ (o : Option Refusal). IsTaskTried s.size (run_of programs task) o) (sym (h.ahead place (omega arith))) (subst (λ (x : Task A). IsTaskTried s.size (run_of programs x) None) task_is tried)
      ]);
      runs = subst (λ (ts : List (Task A)). AreRuns programs ts s'.number s'.calls) (sym round) (called_runs programs (at_places p (take at tasks)) t s s' called.reply called.call h.runs);
      replied = called_replies s s' (run_of programs t) called.reply replies replies' called.call called.added h.replied;
      first_is = h.first_is;
    }

-- a task that was refused
tried_refused : {A : Type 0} (programs : List Accepted) (tasks : List (Task A)) (k w at : ℕ) (s : SessionState A) (replies : List (Reply A)) (first : Option (ℕ × Refusal)) (d : Task A) (r : Refusal) → 0 < k → at < length tasks → at % k ≡ w
    → IsTaskTried s.size (run_of programs (slice_index_or tasks at d)) (Some r)
    → HasTried programs tasks k w at s replies first → HasTried programs tasks k w (at + k) s replies (first_with first at (Some r))
tried_refused {A} programs tasks k w at s replies first d r some within its_own tried h =
    let t : Task A = slice_index_or tasks at d in
    let now = told h.refusals at r in
    let p : ℕ → Bool = mine k w h.refusals in
    let q : ℕ → Bool = mine k w now in
    let no : q at ≡ false = ap (λ (o : Option Refusal). at % k == w && is_none o) (told_here h.refusals at r) ∙ ap (λ b. b && false) (eq-eqb (at % k) w its_own) in
    let few : length (take at tasks) ≡ at = length-take-le at tasks (omega arith) in
    let round : at_places q (take (at + k) tasks) ≡ at_places p (take at tasks) =
    places_round q tasks at k d some within (λ j low high. not_mine k w now j (others_between k w at j its_own low high))
    ∙ (ap (λ b. at_places q (take at tasks) ++ (if b then t ∷ [] else [])) no ∙ (append-nil (at_places q (take at tasks))
    ∙ places_same q p (take at tasks) (λ j below. ap (λ (o : Option Refusal). j % k == w && is_none o) (told_other h.refusals at r j (λ e. omega arith))))) in
    record {
      refusals = now;
      ahead = λ place past. told_other h.refusals at r place (λ e. omega arith) ∙ h.ahead place (omega arith);
      tried = λ place task here below also. elim (round_cases k w at place its_own also below) [
        | inl before ↦ subst (λ (o : Option Refusal). IsTaskTried s.size (run_of programs task) o) (sym (told_other h.refusals at r place (λ e. omega arith))) (h.tried place task here before also)
        | inr is ↦
            let task_is : t ≡ task = get_or_from_slice_get tasks at task d (ap (slice_get tasks) (sym is) ∙ here) in
            subst (λ (o : Option Refusal). IsTaskTried s.size (run_of programs task) o) (sym (ap now is ∙ told_here h.refusals at r)) (subst (λ (x : Task A). IsTaskTried s.size (run_of programs x) (Some r)) task_is tried)
      ];
      runs = subst (λ (ts : List (Task A)). AreRuns programs ts s.number s.calls) (sym round) h.runs;
      replied = h.replied;
      first_is = first_told (length tasks) k w at h.refusals first r within its_own h.ahead h.first_is;
    }

-- the worker's next task
pub tried_more : {A : Type 0} (programs : List Accepted) (tasks : List (Task A)) (k w at : ℕ) (s s' : SessionState A) (replies replies' : List (Reply A)) (first : Option (ℕ × Refusal)) (d : Task A) (refusal : Option Refusal) → 0 < k → at < length tasks → at % k ≡ w
    → IsTaskTried s.size (run_of programs (slice_index_or tasks at d)) refusal → OnSome refusal ((s' ≡ s) × (replies' ≡ replies)) → IfNone refusal (IsSessionCalled (run_of programs (slice_index_or tasks at d)) s replies s' replies')
    → HasTried programs tasks k w at s replies first → HasTried programs tasks k w (at + k) s' replies' (first_with first at refusal)
tried_more programs tasks k w at s s' replies replies' first d None some within its_own tried stays called h =
    subst (HasTried programs tasks k w (at + k) s' replies') (sym (first_stays first at)) (tried_run programs tasks k w at s s' replies replies' first d some within its_own tried called h)
tried_more {A} programs tasks k w at s s' replies replies' first d (Some r) some within its_own tried stays called h =
    subst (λ (x : SessionState A). HasTried programs tasks k w (at + k) x replies' (first_with first at (Some r))) (sym stays.0)
    (subst (λ (ys : List (Reply A)). HasTried programs tasks k w (at + k) s ys (first_with first at (Some r))) (sym stays.1) (tried_refused programs tasks k w at s replies first d r some within its_own tried h))

-- if none of its tasks is left, the worker is finished
pub tried_all : {A : Type 0} (programs : List Accepted) (tasks : List (Task A)) (k w at : ℕ) (s : SessionState A) (replies : List (Reply A)) (first : Option (ℕ × Refusal)) → length tasks ≤ at → HasTried programs tasks k w at s replies first → HasWorked programs tasks k w s replies first
tried_all {A} programs tasks k w at s replies first past h = record {
  refusals = h.refusals;
  tried = λ place task here its_own. let within = slice_get_within tasks place task here in h.tried place task here (omega arith) its_own;
  runs = subst (λ (ts : List (Task A)). AreRuns programs (ran_of k w h.refusals ts) s.number s.calls) (take_all at tasks past) h.runs;
  replied = h.replied;
  first = h.first_is;
}

-- the page size of a session does not change
pub tried_size : {A : Type 0} (command : Command A) (s s' : SessionState A) (replies replies' : List (Reply A)) (refusal : Option Refusal) → OnSome refusal ((s' ≡ s) × (replies' ≡ replies)) → IfNone refusal (IsSessionCalled command s replies s' replies') → s'.size ≡ s.size
tried_size {A} command s s' replies replies' None stays called = ap (λ (x : SessionState A). x.size) called.call
tried_size {A} command s s' replies replies' (Some r) stays called = ap (λ (x : SessionState A). x.size) stays.0
