-- A program with its states, and their consistency.
use Rattle.std.specs.Prelude.{ℕ, ◌≡◌, ◌<◌, ◌⊎◌, length, List, Option, Some, IsSome}
use Rattle.std.specs.Option.{option_map}
use Rattle.bpf_insn.specs.declared.insn.Insn.{Insn}
use Rattle.bpf_insn.specs.Code.{unit_count, fetch, image_of}
use Rattle.bpf_helpers.specs.declared.values.Env.{Env}
use Rattle.bpf_helpers.specs.Machine.{Config, step, ended}
use Rattle.bpf_helpers.specs.Runs.{start, IsInput}
use Rattle.bpf_range.specs.declared.kinds.Kind.{Kind}
use Rattle.bpf_flow.specs.declared.state.State.{State}
use Rattle.bpf_flow.specs.States.{IsConfig, Fits, kind_in}
use Rattle.bpf_verify.specs.States.{States, state_at}

-- The kind of a register in the state at a unit, if there is a state.
abbrev pub kind_at : States → ℕ → ℕ → Option Kind
kind_at states at r = option_map (λ s. kind_in s r) (state_at states at)

-- The configuration fits the state at its unit.
pub record FitsAt (states : States) (c : Config) : Type 0 where
  pub state : State
  pub stands : state_at states c.place ≡ Some state
  pub fits : Fits state c
  pub config : IsConfig c

-- The run continues to a later unit, and the configuration there fits the state.
pub record GoesOn (code : List Insn) (states : States) (c : Config) : Type 0 where
  pub next : Config
  pub steps : step code c ≡ Some next
  pub later : c.place < next.place
  pub fits : FitsAt states next

-- From a configuration that fits, the run ends or continues to a configuration that fits.
abbrev pub Consistent : List Insn → States → Type 0
Consistent code states = (c : Config) → FitsAt states c → IsSome (ended code c) ⊎ GoesOn code states c

-- Each start fits.
abbrev pub Starts : States → Type 0
Starts states = (bytes argument : List ℕ) (env : Env) → IsInput bytes argument env → FitsAt states (start bytes argument env)

-- The states of an accepted program: at most one for each unit, and only at units at which an instruction begins. Each start fits. From a
-- configuration that fits, the run ends or continues to a configuration that fits.
pub record IsVerified (code : List Insn) (states : States) : Type 0 where
  pub long : length states ≡ unit_count code
  pub begin : (u : ℕ) → IsSome (state_at states u) → IsSome (fetch code u)
  pub starts : Starts states
  pub each : Consistent code states

-- an accepted program and its states, as one value
pub record Accepted : Type 0 where
  pub code : List Insn
  pub states : States

-- the bytes of an accepted program
abbrev pub image_in : Accepted → List ℕ
image_in accepted = image_of accepted.code
