-- The tasks of a worker that are run by one call, and the worker's progress.
use Rattle.std.specs.Prelude.{◌≡◌, ◌<◌, ◌≤◌, ◌+◌, ◌%◌, ◌++◌, ℕ, List, [], ◌∷◌, Option, Some, None, length, take, Result, Ok, Err}
use Rattle.std.specs.List.{slice_get}
use Rattle.bpf_verify.specs.Verified.{Accepted}
use Rattle.store_cmd.specs.declared.Command.{Command}
use Rattle.store_cmd.specs.declared.Reply.{Reply}
use Rattle.store_cmd.specs.declared.Refusal.{Refusal}
use Rattle.store_shared.specs.Shared.{SessionState}
use Rattle.store_shared.specs.Groups.{AreCalls}
use Rattle.worker_pool.specs.declared.task.Task.{Task}
use Rattle.worker_pool.specs.declared.share.Progress.{Progress}
use Rattle.worker_pool.specs.Tasks.{run_of, IsTaskTried}
use Rattle.worker_pool.specs.Shares.{ran_of, AreRuns, replies_of, IsFirstRefused, HasWorked}

-- A worker has tried each of its tasks below index `at`, and no later task.
pub record HasTried {A : Type 0} (programs : List Accepted) (tasks : List (Task A)) (k w at : ℕ) (s : SessionState A) (replies : List (Reply A)) (first : Option (ℕ × Refusal)) : Type 0 where
  pub refusals : ℕ → Option Refusal
  pub ahead : (place : ℕ) → at ≤ place → refusals place ≡ None
  pub tried : (place : ℕ) (task : Task A) → slice_get tasks place ≡ Some task → place < at → place % k ≡ w → IsTaskTried s.size (run_of programs task) (refusals place)
  pub runs : AreRuns programs (ran_of k w refusals (take at tasks)) s.number s.calls
  pub replied : replies_of s.calls ≡ replies
  pub first_is : IsFirstRefused (length tasks) k w refusals first

-- the commands are the runs of every k-th task from index `at` on
abbrev pub AreRunsFrom : {A : Type 0} → List Accepted → List (Task A) → ℕ → ℕ → List (Command A) → Type 0
AreRunsFrom programs tasks k at [] = Unit {0}
AreRunsFrom {A} programs tasks k at (command ∷ commands) = (task : Task A) × ((slice_get tasks at ≡ Some task) × ((command ≡ run_of programs task) × AreRunsFrom programs tasks k (at + k) commands))

-- the index `at` plus one step of k for each element of a list
abbrev pub place_behind : {X : Type 0} → ℕ → ℕ → List X → ℕ
place_behind k at [] = at
place_behind k at (x ∷ xs) = place_behind k (at + k) xs

-- Session `s` made the calls for a worker's tasks from index `at` on, with these outcomes, and became `s'`.
pub record IsAhead {A : Type 0} (programs : List Accepted) (tasks : List (Task A)) (k at : ℕ) (s : SessionState A) (outcomes : List (Result (Reply A) Refusal)) (s' : SessionState A) : Type 0 where
  pub commands : List (Command A)
  pub runs : AreRunsFrom programs tasks k at commands
  pub calls : AreCalls s commands outcomes s'

-- `IsAhead`, for a worker that has tried its tasks below index `at`
pub record HasCalled {A : Type 0} (programs : List Accepted) (tasks : List (Task A)) (k w at : ℕ) (outcomes : List (Result (Reply A) Refusal)) (s' : SessionState A) (replies : List (Reply A)) (first : Option (ℕ × Refusal)) : Type 0 where
  pub s : SessionState A
  pub tried : HasTried programs tasks k w at s replies first
  pub ahead : IsAhead programs tasks k at s outcomes s'

-- a reply is appended to the replies, or the outcome is a refusal
abbrev pub IsReplyTaken : {A : Type 0} → Result (Reply A) Refusal → List (Reply A) → List (Reply A) → Option Refusal → Type 0
IsReplyTaken (Ok reply) replies replies' refusal = (replies' ≡ replies ++ reply ∷ []) × (refusal ≡ None)
IsReplyTaken (Err fault) replies replies' refusal = (replies' ≡ replies) × (refusal ≡ Some fault)

-- the worker's progress: the worker has tried all of its tasks, or all tasks below its next task
abbrev pub WorkerGoesOn : {A : Type 0} → List Accepted → List (Task A) → ℕ → ℕ → ℕ → SessionState A → List (Reply A) → Option (ℕ × Refusal) → Option ℕ → Type 0
WorkerGoesOn programs tasks k w at s replies first None = HasWorked programs tasks k w s replies first
WorkerGoesOn programs tasks k w at s replies first (Some next) = HasTried programs tasks k w next s replies first × ((next % k ≡ w) × ((at < next) × (next < length tasks)))

abbrev pub IsProgress : {A : Type 0} → List Accepted → List (Task A) → ℕ → ℕ → ℕ → SessionState A → List (Reply A) → Progress → Type 0
IsProgress programs tasks k w at s replies progress = WorkerGoesOn programs tasks k w at s replies progress.first progress.next

-- the index of the worker's next task, or `None` if there is no such task
abbrev pub IsNextIndex : ℕ → ℕ → ℕ → Option ℕ → Type 0
IsNextIndex count at k None = count ≤ at + k
IsNextIndex count at k (Some next) = (next ≡ at + k) × (next < count)
