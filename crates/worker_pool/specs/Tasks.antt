-- The command of a task, the registered programs, and the refusals of a task.
use Rattle.std.specs.Prelude.{◌≡◌, ◌<◌, ◌≤◌, ℕ, ◌⊎◌, List, [], length, take, Option, Some, None}
use Rattle.std.specs.List.{All, slice_get}
use Rattle.std.specs.Option.{option_map_or}
use Rattle.sdbm_addr.specs.declared.PageSize.{PageSize}
use Rattle.bpf_insn.specs.declared.insn.Insn.{Insn}
use Rattle.bpf_verify.specs.Verified.{Accepted}
use Rattle.store_cmd.specs.Command.{IsSmall}
use Rattle.store_cmd.specs.declared.Command.{Command}
use Rattle.store_cmd.specs.declared.Command.TheVariants as commands
use Rattle.store_cmd.specs.declared.Refusal.{Refusal}
use Rattle.store_cmd.specs.declared.Refusal.TheVariants as refusals
use Rattle.store_cmd.specs.declared.SizeFault.{SizeFault}
use Rattle.store_cmd.specs.declared.SizeFault.TheVariants as sizes
use Rattle.store_shared.specs.Shared.{IsRefusal}
use Rattle.worker_pool.specs.declared.task.Task.{Task}

-- the instructions of the registered program with a number; empty if there is no such program
abbrev pub code_of_program : List Accepted → ℕ → List Insn
code_of_program programs id = option_map_or (λ (p : Accepted). p.code) (slice_get programs id) []

-- the command of a task: a run of its program
abbrev pub run_of : {A : Type 0} → List Accepted → Task A → Command A
run_of programs task = commands.Run task.key (code_of_program programs task.prog.0) task.arg task.blank task.now

-- the program of the task is registered
abbrev pub IsKnown : {A : Type 0} → List Accepted → Task A → Type 0
IsKnown programs task = task.prog.0 < length programs

abbrev pub AreTasksKnown : {A : Type 0} → List Accepted → List (Task A) → Type 0
AreTasksKnown {A} programs tasks = All (λ (task : Task A). IsKnown programs task) tasks

-- the index of the first task whose program is not registered
pub record IsFirstUnknown {A : Type 0} (programs : List Accepted) (tasks : List (Task A)) (at : ℕ) : Type 0 where
  pub task : Task A
  pub here : slice_get tasks at ≡ Some task
  pub unknown : length programs ≤ task.prog.0
  pub known : AreTasksKnown programs (take at tasks)

-- The refusals of a task: those of a session's call, or `NoMemory` because memory ran out before that call.
abbrev pub IsTaskRefusal : {A : Type 0} → PageSize → Command A → Refusal → Type 0
IsTaskRefusal size command refusal = IsRefusal size command refusal ⊎ (refusal ≡ refusals.NoMemory)

-- The outcome of a task: it was run and its command has valid sizes, or it was refused.
abbrev pub IsTaskTried : {A : Type 0} → PageSize → Command A → Option Refusal → Type 0
IsTaskTried size command None = IsSmall size command
IsTaskTried size command (Some refusal) = IsTaskRefusal size command refusal

-- the refusal for an invalid size
abbrev pub IsRefusalFor : SizeFault → Refusal → Type 0
IsRefusalFor sizes.PairTooLarge refusal = refusal ≡ refusals.PairTooLarge
IsRefusalFor sizes.ArgTooLong refusal = refusal ≡ refusals.ArgTooLong
