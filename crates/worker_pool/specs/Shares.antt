-- The share of a worker, and the tasks of the share that were run.
use Rattle.std.specs.Prelude.{◌≡◌, ◌<◌, ◌≤◌, ◌⊎◌, ◌%◌, ◌==◌, ◌&&◌, ◌++◌, ℕ, List, [], ◌∷◌, Bool, Option, Some, None, IfSome, is_none, length, map}
use Rattle.std.specs.List.{All, filter, enumerate_from, slice_get}
use Rattle.bpf_verify.specs.Verified.{Accepted}
use Rattle.store_cmd.specs.declared.Command.{Command}
use Rattle.store_cmd.specs.declared.Reply.{Reply}
use Rattle.store_cmd.specs.declared.Entry.{Entry}
use Rattle.store_cmd.specs.declared.Refusal.{Refusal}
use Rattle.store_shared.specs.Shared.{SessionState, with_call}
use Rattle.worker_pool.specs.declared.task.Task.{Task}
use Rattle.worker_pool.specs.Tasks.{run_of, IsTaskTried}

-- the elements of a list at the indices that pass a test, in their order
unfoldable pub at_places : {X : Type 0} → (ℕ → Bool) → List X → List X
at_places {X} is_one xs = map (λ (placed : ℕ × X). placed.1) (filter (λ (placed : ℕ × X). is_one placed.0) (enumerate_from 0 xs))

-- A worker's share of a list: the elements whose index modulo the number of workers is the worker's number.
abbrev pub share_of : {X : Type 0} → ℕ → ℕ → List X → List X
share_of workers worker xs = at_places (λ at. at % workers == worker) xs

-- the elements of a worker's share that were not refused, given the refusals by index
abbrev pub ran_of : {X : Type 0} → ℕ → ℕ → (ℕ → Option Refusal) → List X → List X
ran_of workers worker refusals xs = at_places (λ at. at % workers == worker && is_none (refusals at)) xs

abbrev pub runs_of : {A : Type 0} → List Accepted → List (Task A) → List (Command A)
runs_of {A} programs tasks = map (λ (task : Task A). run_of programs task) tasks

abbrev pub commands_of : {A : Type 0} → List (Entry A) → List (Command A)
commands_of {A} calls = map (λ (call : Entry A). call.command) calls

abbrev pub replies_of : {A : Type 0} → List (Entry A) → List (Reply A)
replies_of {A} calls = map (λ (call : Entry A). call.reply) calls

-- The calls of a session with this number are the runs of these tasks and no others, in their order.
pub record AreRuns {A : Type 0} (programs : List Accepted) (tasks : List (Task A)) (number : ℕ) (calls : List (Entry A)) : Type 0 where
  pub commands : commands_of calls ≡ runs_of programs tasks
  pub own : All (λ (call : Entry A). call.session ≡ number) calls

-- a worker that has done nothing
pub record IsUnused {A : Type 0} (session : SessionState A) (replies : List (Reply A)) : Type 0 where
  pub calls : session.calls ≡ []
  pub replies_are : replies ≡ []

-- a worker's session has one more call, which runs this command, and the worker has one more reply, which answers this call
pub record IsSessionCalled {A : Type 0} (command : Command A) (session : SessionState A) (replies : List (Reply A)) (session' : SessionState A) (replies' : List (Reply A)) : Type 0 where
  pub reply : Reply A
  pub call : session' ≡ with_call session command reply
  pub added : replies' ≡ replies ++ reply ∷ []

-- the first refused task after one more task, at index `at`, was tried
abbrev pub first_with : Option (ℕ × Refusal) → ℕ → Option Refusal → Option (ℕ × Refusal)
first_with (Some first) at refusal = Some first
first_with None at None = None
first_with None at (Some refusal) = Some (at, refusal)

-- the task at `at` is the worker's first refused task, and `refusal` is its refusal
pub record IsFirstOwn (count workers worker : ℕ) (refusals : ℕ → Option Refusal) (at : ℕ) (refusal : Refusal) : Type 0 where
  pub within : at < count
  pub its_own : at % workers ≡ worker
  pub here : refusals at ≡ Some refusal
  pub before : (earlier : ℕ) → earlier < at → earlier % workers ≡ worker → refusals earlier ≡ None

-- a worker's first refused task among the first `count` tasks, with its refusal; `None` if none of the worker's tasks was
-- refused
abbrev pub IsFirstRefused : ℕ → ℕ → ℕ → (ℕ → Option Refusal) → Option (ℕ × Refusal) → Type 0
IsFirstRefused count workers worker refusals None = (at : ℕ) → at % workers ≡ worker → refusals at ≡ None
IsFirstRefused count workers worker refusals (Some first) = IsFirstOwn count workers worker refusals first.0 first.1

-- The result of a worker: it tried each task of its share, and its calls are the runs of the tasks that were not refused.
pub record HasWorked {A : Type 0} (programs : List Accepted) (tasks : List (Task A)) (workers worker : ℕ) (session : SessionState A) (replies : List (Reply A)) (refused : Option (ℕ × Refusal)) : Type 0 where
  pub refusals : ℕ → Option Refusal
  pub tried : (at : ℕ) (task : Task A) → slice_get tasks at ≡ Some task → at % workers ≡ worker → IsTaskTried session.size (run_of programs task) (refusals at)
  pub runs : AreRuns programs (ran_of workers worker refusals tasks) session.number session.calls
  pub replied : replies_of session.calls ≡ replies
  pub first : IsFirstRefused (length tasks) workers worker refusals refused

-- the first task is no later than the second; `None` is later than any task
abbrev pub IsNoLater : Option (ℕ × Refusal) → Option (ℕ × Refusal) → Type 0
IsNoLater None None = Unit {0}
IsNoLater None (Some other) = ⊥
IsNoLater (Some one) None = Unit {0}
IsNoLater (Some one) (Some other) = one.0 ≤ other.0

-- the refused task with the lower index
pub record IsLowerOf (one other lower : Option (ℕ × Refusal)) : Type 0 where
  pub either : (lower ≡ one) ⊎ (lower ≡ other)
  pub first : IsNoLater lower one
  pub second : IsNoLater lower other

-- The refused task with the lowest index in a list; `None` if the list has no refused task.
pub record IsFirstIn (refused : List (Option (ℕ × Refusal))) (first : Option (ℕ × Refusal)) : Type 0 where
  pub lowest : All (λ (other : Option (ℕ × Refusal)). IsNoLater first other) refused
  pub here : IfSome first (λ (r : ℕ × Refusal). (worker : ℕ) × (slice_get refused worker ≡ Some (Some r)))
