-- The results of `run_jobs`: all tasks were run, or there is a fault.
use Rattle.std.specs.Prelude.{◌≡◌, ◌<◌, ◌⊎◌, ℕ, List, [], length, Option, Some, None}
use Rattle.std.specs.List.{All, slice_get}
use Rattle.sdbm_addr.specs.declared.PageSize.{PageSize}
use Rattle.bpf_verify.specs.Verified.{Accepted}
use Rattle.store_cmd.specs.Command.{IsSmall}
use Rattle.store_cmd.specs.declared.Reply.{Reply}
use Rattle.store_cmd.specs.declared.Refusal.{Refusal}
use Rattle.store_shared.specs.Shared.{CallsState}
use Rattle.worker_pool.specs.declared.task.Task.{Task}
use Rattle.worker_pool.specs.declared.task.PoolFault.{PoolFault}
use Rattle.worker_pool.specs.declared.task.PoolFault.TheVariants.{NoWorkers, NoProgram, NoSession, NoThread, Refused, NoMemory}
use Rattle.worker_pool.specs.Tasks.{run_of, AreTasksKnown, IsFirstUnknown, IsTaskTried}
use Rattle.worker_pool.specs.Shares.{share_of, ran_of, replies_of, AreRuns}

-- there is a worker, and the programs of all tasks are registered
pub record MayBegin {A : Type 0} (programs : List Accepted) (tasks : List (Task A)) (workers : ℕ) : Type 0 where
  pub some : 0 < workers
  pub known : AreTasksKnown programs tasks

-- The calls of a worker are the runs of its whole share, and the replies to these calls are its share of the replies.
pub record IsShareDone {A : Type 0} (programs : List Accepted) (tasks : List (Task A)) (workers worker : ℕ) (replies : List (Reply A)) (calls : CallsState A) : Type 0 where
  pub runs : AreRuns programs (share_of workers worker tasks) calls.number calls.calls
  pub replied : replies_of calls.calls ≡ share_of workers worker replies

-- All tasks were run, and their sizes were valid. There is one reply for each task, and one list of calls for each worker.
pub record AreDone {A : Type 0} (size : PageSize) (programs : List Accepted) (tasks : List (Task A)) (workers : ℕ) (replies : List (Reply A)) (calls : List (CallsState A)) : Type 0 where
  pub begun : MayBegin programs tasks workers
  pub small : (at : ℕ) (task : Task A) → slice_get tasks at ≡ Some task → IsSmall size (run_of programs task)
  pub one_each : length replies ≡ length tasks
  pub all_workers : length calls ≡ workers
  pub shares : (worker : ℕ) (its : CallsState A) → slice_get calls worker ≡ Some its → IsShareDone programs tasks workers worker replies its

-- The task at `at` is the first refused task, and `refusal` is its refusal. Every task was tried: either the task has a valid
-- size and was run, or it was refused. The calls of each worker are the runs of the tasks in its share that were not refused.
pub record AreRefused {A : Type 0} (size : PageSize) (programs : List Accepted) (tasks : List (Task A)) (workers at : ℕ) (refusal : Refusal) (calls : List (CallsState A)) : Type 0 where
  -- the refusal of the task at an index; `None` if the task was run
  pub refusals : ℕ → Option Refusal
  pub within : at < length tasks
  pub here : refusals at ≡ Some refusal
  pub before : (earlier : ℕ) → earlier < at → refusals earlier ≡ None
  pub tried : (place : ℕ) (task : Task A) → slice_get tasks place ≡ Some task → IsTaskTried size (run_of programs task) (refusals place)
  pub all_workers : length calls ≡ workers
  pub runs : (worker : ℕ) (its : CallsState A) → slice_get calls worker ≡ Some its → AreRuns programs (ran_of workers worker refusals tasks) its.number its.calls

-- sessions without calls
abbrev pub AreIdle : {A : Type 0} → List (CallsState A) → Type 0
AreIdle {A} calls = All (λ (its : CallsState A). its.calls ≡ []) calls

-- the faults before any session is made, each with its condition
abbrev pub IsUnready : {A : Type 0} → List Accepted → List (Task A) → ℕ → PoolFault → Type 0
IsUnready programs tasks workers NoWorkers = workers ≡ 0
IsUnready programs tasks workers (NoProgram at) = (0 < workers) × IsFirstUnknown programs tasks at
IsUnready programs tasks workers NoSession = ⊥
IsUnready programs tasks workers (NoThread worker) = ⊥
IsUnready programs tasks workers (Refused at refusal) = ⊥
IsUnready programs tasks workers NoMemory = MayBegin programs tasks workers

-- the faults after sessions were made, each with its condition and the calls of these sessions
abbrev pub IsUnfinished : {A : Type 0} → PageSize → List Accepted → List (Task A) → ℕ → PoolFault → List (CallsState A) → Type 0
IsUnfinished size programs tasks workers NoWorkers calls = ⊥
IsUnfinished size programs tasks workers (NoProgram at) calls = ⊥
IsUnfinished size programs tasks workers NoSession calls = (length calls < workers) × AreIdle calls
IsUnfinished size programs tasks workers (NoThread worker) calls = ⊥
IsUnfinished size programs tasks workers (Refused at refusal) calls = AreRefused size programs tasks workers at refusal calls
IsUnfinished size programs tasks workers NoMemory calls = ⊥

-- The condition of each fault, and the calls of the sessions that were made.
abbrev pub IsPoolFault : {A : Type 0} → PageSize → List Accepted → List (Task A) → ℕ → PoolFault → List (CallsState A) → Type 0
IsPoolFault size programs tasks workers fault calls =
    (IsUnready programs tasks workers fault × (calls ≡ [])) ⊎ (MayBegin programs tasks workers × IsUnfinished size programs tasks workers fault calls)
