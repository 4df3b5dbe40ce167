-- The states of a pass that stops at a fault, and the truth of states for a program's runs.
use Rattle.std.specs.Prelude.{ℕ, ◌≡◌, ◌<◌, ◌⊎◌, List, Option, Some, None, IsSome}
use Rattle.bpf_insn.specs.declared.insn.Insn.{Insn}
use Rattle.bpf_helpers.specs.declared.values.Env.{Env}
use Rattle.bpf_helpers.specs.Machine.{Config}
use Rattle.bpf_helpers.specs.Runs.{start, IsInput, Reaches}
use Rattle.bpf_flow.specs.declared.fault.FlowFault.{FlowFault}
use Rattle.bpf_verify.specs.declared.fault.VerifyFault.{VerifyFault}
use Rattle.bpf_verify.specs.declared.fault.VerifyFault.TheVariants.{NoMemory, Empty, FrameWritten, NoHelper, Backward, JumpOut, JumpIntoWide, FallsOff, Unset, HelperArgument, ExitNotNumber, NotPointer, PointerOp, PointerRange, PointerStored, ArgumentWritten, OutOfRecord, OutOfArgument, OutOfStack}
use Rattle.bpf_verify.specs.Fault.{placed_fault}
use Rattle.bpf_verify.specs.States.{States, state_at}
use Rattle.bpf_verify.specs.Verified.{FitsAt, Starts}
use Rattle.bpf_verify.specs.Visits.{AreStates, ConsistentAt}

-- the unit of the invalid instruction, for the faults that the pass finds
abbrev pub stopping_unit : VerifyFault → Option ℕ
stopping_unit NoMemory = None
stopping_unit Empty = None
stopping_unit (FrameWritten at) = None
stopping_unit (NoHelper at) = None
stopping_unit (Backward at) = None
stopping_unit (JumpOut at) = None
stopping_unit (JumpIntoWide at) = None
stopping_unit (FallsOff at) = None
stopping_unit (Unset at) = Some at
stopping_unit (HelperArgument at) = Some at
stopping_unit (ExitNotNumber at) = Some at
stopping_unit (NotPointer at) = Some at
stopping_unit (PointerOp at) = Some at
stopping_unit (PointerRange at) = Some at
stopping_unit (PointerStored at) = Some at
stopping_unit (ArgumentWritten at) = Some at
stopping_unit (OutOfRecord at) = Some at
stopping_unit (OutOfArgument at) = Some at
stopping_unit (OutOfStack at) = Some at

-- A run reaches the configuration c in n steps, and all its earlier units are below `at`.
pub record ComesTo (code : List Insn) (first : Config) (at n : ℕ) (c : Config) : Type 0 where
  pub chain : Reaches code n first c
  pub before : (m : ℕ) (b : Config) → m < n → Reaches code m first b → b.place < at

-- The states are true of each run until the run has reached the unit `at`.
abbrev pub HoldUntil : List Insn → States → ℕ → Type 0
HoldUntil code states at =
    (bytes argument : List ℕ) (env : Env) → IsInput bytes argument env
    → (n : ℕ) (c : Config) → ComesTo code (start bytes argument env) at n c → FitsAt states c

-- The states are true of each run at each step.
abbrev pub HoldAlways : List Insn → States → Type 0
HoldAlways code states =
    (bytes argument : List ℕ) (env : Env) → IsInput bytes argument env
    → (n : ℕ) (c : Config) → Reaches code n (start bytes argument env) c → FitsAt states c

-- The states with which the pass reaches the unit `at`. Each start fits. From a configuration that fits at a unit below `at`, the run
-- ends or continues to a configuration that fits.
pub record AreTaken (code : List Insn) (states : States) (at : ℕ) : Type 0 where
  pub are : AreStates code states
  pub starts : Starts states
  pub each : (p : ℕ) → p < at → ConsistentAt code states p

-- The pass has reached the unit `at`, which has a state. The states are true of each run until the run has reached the unit.
pub record StopsAt (code : List Insn) (states : States) (at : ℕ) : Type 0 where
  pub taken : AreTaken code states at
  pub stands : IsSome (state_at states at)
  pub hold : HoldUntil code states at

-- the states with which the pass stops at a fault
abbrev pub IsStopped : List Insn → States → VerifyFault → Type 0
IsStopped code states fault = (at : ℕ) → stopping_unit fault ≡ Some at → StopsAt code states at

-- The unit has a state, and the states are unchanged.
pub record KeepsAt (old new : States) (at : ℕ) : Type 0 where
  pub stands : IsSome (state_at old at)
  pub same : new ≡ old

-- If the pass finds an invalid instruction, its unit is `at`, this unit has a state, and the states are unchanged.
abbrev pub Stays : States → States → ℕ → VerifyFault → Type 0
Stays old new at fault = (unit : ℕ) → stopping_unit fault ≡ Some unit → (unit ≡ at) × KeepsAt old new at

-- The instruction at a unit is invalid and the states are unchanged, or memory ran out.
abbrev pub Halts : VerifyFault → ℕ → States → States → Type 0
Halts fault at old new = (fault ≡ NoMemory) ⊎ ((flow : FlowFault) × (fault ≡ placed_fault flow at) × (new ≡ old))
