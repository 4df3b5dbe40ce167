-- Runs of one worker's tasks that are called together: they are prepared, then called, and then their outcomes are taken one by
-- one.
use Rattle.std.proofs.Common.{◌≡◌, ◌∙◌, sym, ap, subst, refl, inl, ◌+◌, ◌<◌, ◌≤◌, ◌%◌, ◌++◌, ◌∷◌, [], ℕ, List, length, arith}
use Rattle.std.specs.Prelude.{Option, Some, None, Result, Ok, Err, slice_index_or}
use Rattle.std.specs.List.{slice_get}
use Rattle.std.proofs.lemmas.List.{length-append}
use Rattle.std.proofs.lemmas.Option.{get_or_from_slice_get, slice_get-get_or, slice_get_within}
use Rattle.std.proofs.Math.Nat.{add-mod_right}
use Rattle.bpf_verify.specs.Verified.{Accepted}
use Rattle.store_cmd.specs.Command.{IsSmall}
use Rattle.store_cmd.specs.declared.Command.{Command}
use Rattle.store_cmd.specs.declared.Reply.{Reply}
use Rattle.store_cmd.specs.declared.Refusal.{Refusal}
use Rattle.store_shared.specs.Shared.{SessionState, with_call, IsRefusal}
use Rattle.store_shared.specs.Groups.{IsCall, AreCalls, AreAnswered}
use Rattle.worker_pool.specs.declared.task.Task.{Task}
use Rattle.worker_pool.specs.Tasks.{run_of, IsTaskTried, IsTaskRefusal}
use Rattle.worker_pool.specs.Shares.{IsSessionCalled, first_with, HasWorked}
use Rattle.worker_pool.specs.Groups.{HasTried, AreRunsFrom, place_behind, IsAhead, HasCalled, IsReplyTaken, IsNextIndex, WorkerGoesOn}
use Rattle.worker_pool.proofs.ShareLemmas.{some_of}
use Rattle.worker_pool.proofs.TriedLemmas.{tried_more, tried_all}

-- ---- prepared runs

pub runs_push : {A : Type 0} (programs : List Accepted) (tasks : List (Task A)) (k at : ℕ) (commands : List (Command A)) (command : Command A) (task : Task A) → AreRunsFrom programs tasks k at commands → slice_get tasks (place_behind k at commands) ≡ Some task → command ≡ run_of programs task → AreRunsFrom programs tasks k at (commands ++ command ∷ [])
runs_push programs tasks k at [] command task runs here is = (task, (here, (is, tt)))
runs_push programs tasks k at (c ∷ cs) command task runs here is = (runs.0, (runs.1.0, (runs.1.1.0, runs_push programs tasks k (at + k) cs command task runs.1.1.1 here is)))

pub behind_push : {X : Type 0} (k at : ℕ) (xs : List X) (x : X) → place_behind k at (xs ++ x ∷ []) ≡ place_behind k at xs + k
behind_push k at [] x = refl
behind_push k at (y ∷ ys) x = behind_push k (at + k) ys x

-- ---- taken outcomes

module _ {A : Type 0} (programs : List Accepted) (tasks : List (Task A)) (k w at : ℕ) (some : 0 < k) (its_own : at % k ≡ w) (s mid : SessionState A) (replies replies' : List (Reply A)) (first : Option (ℕ × Refusal)) (task : Task A) (here : slice_get tasks at ≡ Some task) (command : Command A) (is : command ≡ run_of programs task) (tried : HasTried programs tasks k w at s replies first) where
  its_task : slice_index_or tasks at task ≡ task
  its_task = get_or_from_slice_get tasks at task task here

  within : at < length tasks
  within = slice_get_within tasks at task here

  -- the call was answered
  one_answered : (reply : Reply A) (refusal : Option Refusal) → mid ≡ with_call s command reply → IsSmall s.size command → replies' ≡ replies ++ reply ∷ [] → refusal ≡ None → HasTried programs tasks k w (at + k) mid replies' (first_with first at refusal)
  one_answered reply refusal call small added none =
      let ran : command ≡ run_of programs (slice_index_or tasks at task) = is ∙ sym (ap (run_of programs) its_task) in
      let called : IsSessionCalled (run_of programs (slice_index_or tasks at task)) s replies mid replies' = subst (λ (c : Command A). IsSessionCalled c s replies mid replies') ran (record { reply = reply; call = call; added = added }) in
      let taken : IsTaskTried s.size (run_of programs (slice_index_or tasks at task)) None = subst (IsSmall s.size) ran small in
      subst (λ (o : Option Refusal). HasTried programs tasks k w (at + k) mid replies' (first_with first at o)) (sym none)
      (tried_more programs tasks k w at s mid replies replies' first task None some within its_own taken tt called tried)

  -- the call was refused
  one_refused : (fault : Refusal) (refusal : Option Refusal) → mid ≡ s → IsRefusal s.size command fault → replies' ≡ replies → refusal ≡ Some fault → HasTried programs tasks k w (at + k) mid replies' (first_with first at refusal)
  one_refused fault refusal same other kept told =
      let ran : command ≡ run_of programs (slice_index_or tasks at task) = is ∙ sym (ap (run_of programs) its_task) in
      let taken : IsTaskTried s.size (run_of programs (slice_index_or tasks at task)) (Some fault) = subst (λ (c : Command A). IsTaskRefusal s.size c fault) ran (inl other) in
      subst (λ (o : Option Refusal). HasTried programs tasks k w (at + k) mid replies' (first_with first at o)) (sym told)
      (tried_more programs tasks k w at s mid replies replies' first task (Some fault) some within its_own taken (same, kept) tt tried)

-- the outcome of the next call is taken
pub called_next : {A : Type 0} (programs : List Accepted) (tasks : List (Task A)) (k w at : ℕ) (out : Result (Reply A) Refusal) (outs : List (Result (Reply A) Refusal)) (s' : SessionState A) (replies replies' : List (Reply A)) (first : Option (ℕ × Refusal)) (refusal : Option Refusal)
    → 0 < k → at % k ≡ w → IsReplyTaken out replies replies' refusal → HasCalled programs tasks k w at (out ∷ outs) s' replies first → HasCalled programs tasks k w (at + k) outs s' replies' (first_with first at refusal)
called_next {A} programs tasks k w at out outs s' replies replies' first refusal some its_own taken h = by_commands h.ahead.commands h.ahead.runs h.ahead.calls where
  by_commands : (commands : List (Command A)) → AreRunsFrom programs tasks k at commands → AreCalls h.s commands (out ∷ outs) s' → HasCalled programs tasks k w (at + k) outs s' replies' (first_with first at refusal)
  by_commands [] runs calls = absurd calls
  by_commands (command ∷ commands) runs calls = by_outcome out taken calls.1.0
    where
      mid : SessionState A
      mid = calls.0

      rest : IsAhead programs tasks k (at + k) mid outs s'
      rest = record { commands = commands; runs = runs.1.1.1; calls = calls.1.1 }

      by_outcome : (o : Result (Reply A) Refusal) → IsReplyTaken o replies replies' refusal → IsCall h.s command o mid → HasCalled programs tasks k w (at + k) outs s' replies' (first_with first at refusal)
      by_outcome (Ok reply) its call = record {
        s = mid;
        tried = one_answered programs tasks k w at some its_own h.s mid replies replies' first runs.0 runs.1.0 command runs.1.1.0 h.tried reply refusal call.0 call.1.0 its.0 its.1;
        ahead = rest;
      }
      by_outcome (Err fault) its call = record {
        s = mid;
        tried = one_refused programs tasks k w at some its_own h.s mid replies replies' first runs.0 runs.1.0 command runs.1.1.0 h.tried fault refusal call.0 call.1 its.0 its.1;
        ahead = rest;
      }

-- if no outcome is left, the worker is as far as its session
pub called_all : {A : Type 0} (programs : List Accepted) (tasks : List (Task A)) (k w at : ℕ) (outs : List (Result (Reply A) Refusal)) (s' : SessionState A) (replies : List (Reply A)) (first : Option (ℕ × Refusal)) → outs ≡ [] → HasCalled programs tasks k w at outs s' replies first → HasTried programs tasks k w at s' replies first
called_all {A} programs tasks k w at outs s' replies first none h =
    by_commands h.ahead.commands (subst (λ (os : List (Result (Reply A) Refusal)). AreCalls h.s h.ahead.commands os s') none h.ahead.calls)
  where
    by_commands : (commands : List (Command A)) → AreCalls h.s commands [] s' → HasTried programs tasks k w at s' replies first
    by_commands [] same = subst (λ (x : SessionState A). HasTried programs tasks k w at x replies first) (sym same) h.tried
    by_commands (command ∷ commands) never = absurd never

-- if no task is left, no outcome is left either
pub called_last : {A : Type 0} (programs : List Accepted) (tasks : List (Task A)) (k w at : ℕ) (outs : List (Result (Reply A) Refusal)) (s' : SessionState A) (replies : List (Reply A)) (first : Option (ℕ × Refusal)) → length tasks ≤ at → HasCalled programs tasks k w at outs s' replies first → HasWorked programs tasks k w s' replies first
called_last {A} programs tasks k w at outs s' replies first past h = by_commands h.ahead.commands h.ahead.runs outs h.ahead.calls where
  by_commands : (commands : List (Command A)) → AreRunsFrom programs tasks k at commands → (os : List (Result (Reply A) Refusal)) → AreCalls h.s commands os s' → HasWorked programs tasks k w s' replies first
  by_commands [] runs [] same = tried_all programs tasks k w at s' replies first past (subst (λ (x : SessionState A). HasTried programs tasks k w at x replies first) (sym same) h.tried)
  by_commands [] runs (o ∷ os) never = absurd never
  by_commands (command ∷ commands) runs os calls = let within = slice_get_within tasks at runs.0 runs.1.0 in absurd (omega arith)

-- the same, taken from the outcomes that were left before
pub called_step : {A : Type 0} (programs : List Accepted) (tasks : List (Task A)) (k w at : ℕ) (out : Result (Reply A) Refusal) (left rest : List (Result (Reply A) Refusal)) (s' : SessionState A) (replies replies' : List (Reply A)) (first first' : Option (ℕ × Refusal)) (refusal : Option Refusal)
    → 0 < k → at % k ≡ w → left ≡ out ∷ rest → IsReplyTaken out replies replies' refusal → first' ≡ first_with first at refusal → HasCalled programs tasks k w at left s' replies first → HasCalled programs tasks k w (at + k) rest s' replies' first'
called_step {A} programs tasks k w at out left rest s' replies replies' first first' refusal some its_own step taken is h =
    subst (HasCalled programs tasks k w (at + k) rest s' replies') (sym is)
    (called_next programs tasks k w at out rest s' replies replies' first refusal some its_own taken (subst (λ (os : List (Result (Reply A) Refusal)). HasCalled programs tasks k w at os s' replies first) step h))

-- ---- outcomes of a whole group

-- there is one outcome for each call
pub answered_count : {A : Type 0} (s : SessionState A) (commands : List (Command A)) (old : List (Result (Reply A) Refusal)) (s' : SessionState A) (new : List (Result (Reply A) Refusal)) → AreAnswered s commands old s' new → length new ≡ length old + length commands
answered_count {A} s commands old s' new h =
    let many = count s commands h.outcomes s' h.calls in
    ap length h.added ∙ (length-append old h.outcomes ∙ ap (λ n. length old + n) many)
  where
    count : (s : SessionState A) (cs : List (Command A)) (os : List (Result (Reply A) Refusal)) (s' : SessionState A) → AreCalls s cs os s' → length os ≡ length cs
    count s [] [] s' calls = refl
    count s [] (o ∷ os) s' calls = absurd calls
    count s (c ∷ cs) [] s' calls = absurd calls
    count s (c ∷ cs) (o ∷ os) s' calls = let rest = count calls.0 cs os s' calls.1.1 in omega arith

-- the page size of a session does not change
one_size : {A : Type 0} (s : SessionState A) (c : Command A) (o : Result (Reply A) Refusal) (mid : SessionState A) → IsCall s c o mid → mid.size ≡ s.size
one_size {A} s c (Ok reply) mid call = ap (λ (x : SessionState A). x.size) call.0
one_size {A} s c (Err fault) mid call = ap (λ (x : SessionState A). x.size) call.0

pub calls_size : {A : Type 0} (s : SessionState A) (cs : List (Command A)) (os : List (Result (Reply A) Refusal)) (s' : SessionState A) → AreCalls s cs os s' → s'.size ≡ s.size
calls_size {A} s [] [] s' calls = ap (λ (x : SessionState A). x.size) calls
calls_size s [] (o ∷ os) s' calls = absurd calls
calls_size s (c ∷ cs) [] s' calls = absurd calls
calls_size s (c ∷ cs) (o ∷ os) s' calls = calls_size calls.0 cs os s' calls.1.1 ∙ one_size s c o calls.0 calls.1.0

-- the task at an index is refused before its group is called
pub group_refused : {A : Type 0} (programs : List Accepted) (tasks : List (Task A)) (k w at : ℕ) (s s' : SessionState A) (replies replies' : List (Reply A)) (first : Option (ℕ × Refusal)) (refusal : Refusal) → 0 < k → at < length tasks → at % k ≡ w
    → ((task : Task A) → slice_get tasks at ≡ Some task → IsTaskRefusal s.size (run_of programs task) refusal) → s' ≡ s → replies' ≡ replies → HasTried programs tasks k w at s replies first → HasTried programs tasks k w (at + k) s' replies' (first_with first at (Some refusal))
group_refused programs tasks k w at s s' replies replies' first refusal some within its_own refused same kept tried =
    let d = some_of tasks at within in
    tried_more programs tasks k w at s s' replies replies' first d (Some refusal) some within its_own (refused (slice_index_or tasks at d) (slice_get-get_or tasks at d within)) (same, kept) tt tried

-- a worker continues after an index that it has tried
pub goes_on : {A : Type 0} (programs : List Accepted) (tasks : List (Task A)) (k w at : ℕ) (s : SessionState A) (replies : List (Reply A)) (first : Option (ℕ × Refusal)) (next : Option ℕ) → 0 < k → at % k ≡ w → IsNextIndex (length tasks) at k next → HasTried programs tasks k w (at + k) s replies first → WorkerGoesOn programs tasks k w at s replies first next
goes_on programs tasks k w at s replies first None some its_own is tried = tried_all programs tasks k w (at + k) s replies first is tried
goes_on programs tasks k w at s replies first (Some next) some its_own is tried =
    let further : at < at + k = omega arith in (
      subst (λ n. HasTried programs tasks k w n s replies first) (sym is.0) tried,
      (ap (λ n. n % k) is.0 ∙ (add-mod_right at k ∙ its_own), (subst (λ n. at < n) (sym is.0) further, is.1)),
    )
