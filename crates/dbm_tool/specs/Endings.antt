-- The exit status of the program.
use Rattle.std.specs.Prelude.{◌≡◌, ◌⊎◌, ℕ, Option, Some, None, Result, Ok, Err}
use Rattle.dbm_command_line.specs.Wishes.{IsAnswer}
use Rattle.dbm_command_line.specs.declared.fault.ToolFault.{ToolFault}
use Rattle.dbm_tool.specs.declared.ending.Served.{Served as ServedRequest}
use Rattle.dbm_tool.specs.declared.ending.Ending.{Ending}
use Rattle.dbm_tool.specs.declared.ending.Ending.TheVariants.{Served, Refused, Failed}
use Rattle.dbm_messages.specs.declared.fault.ServeFault.{ServeFault}
use Rattle.dbm_messages.specs.declared.fault.ServeFault.TheVariants as fault

-- the status is 0 for help and the version, and 2 for any other refusal
abbrev pub IsRefusalStatus : ToolFault → ℕ → Type 0
IsRefusalStatus fault status = (IsAnswer fault → status ≡ 0) × ((IsAnswer fault → ⊥) → status ≡ 2)

abbrev pub IsExitStatus : Ending → ℕ → Type 0
IsExitStatus (Served served) status = status ≡ served.status
IsExitStatus (Refused fault) status = IsRefusalStatus fault status
IsExitStatus (Failed fault) status = status ≡ 2

-- The ending of a run after its request. The request was served, or the reader of the answer is gone (status 0), or the request failed.
abbrev pub IsEndingOf : Result (Option ServedRequest) ServeFault → Ending → Type 0
IsEndingOf (Ok (Some served)) ending = ending ≡ Served served
IsEndingOf (Ok None) ending = IsExitStatus ending 0
IsEndingOf (Err fault) ending = ending ≡ Failed fault

-- Printing leaves an ending unchanged, except that a refusal or help that cannot be printed becomes the fault `Write`.
abbrev pub IsEndingTold : Ending → Ending → Type 0
IsEndingTold (Served served) told = told ≡ Served served
IsEndingTold (Refused refusal) told = (told ≡ Refused refusal) ⊎ (told ≡ Failed fault.Write)
IsEndingTold (Failed reason) told = told ≡ Failed reason
