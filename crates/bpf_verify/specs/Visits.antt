-- States that grow during the pass over the instructions.
use Rattle.std.specs.Prelude.{ℕ, ◌≡◌, ◌<◌, ◌≤◌, ◌⊎◌, Bool, true, pos, ◌+◌, List, length, slice_set, Option, Some, None, IsSome}
use Rattle.bpf_insn.specs.declared.insn.Insn.{Insn}
use Rattle.bpf_insn.specs.Code.{fetch, unit_count, units_of}
use Rattle.bpf_helpers.specs.Machine.{Config, ended}
use Rattle.bpf_flow.specs.declared.state.State.{State}
use Rattle.bpf_flow.specs.States.{Fits}
use Rattle.bpf_flow.specs.Steps.{Edges, Flows, distance_of}
use Rattle.bpf_verify.specs.States.{States, state_at}
use Rattle.bpf_verify.specs.Verified.{FitsAt, GoesOn}

-- The list has an entry for each unit, and only units at which an instruction begins have a state.
pub record AreStates (code : List Insn) (states : States) : Type 0 where
  pub long : length states ≡ unit_count code
  pub begin : (u : ℕ) → IsSome (state_at states u) → IsSome (fetch code u)

-- The state at the unit `to` is replaced. Each configuration that fits the old state or the added one fits the new one.
pub record Joins (old new : States) (to : ℕ) (added : State) : Type 0 where
  pub both : State
  pub is : new ≡ slice_set old to (Some both)
  pub kept : (s : State) (c : Config) → state_at old to ≡ Some s → Fits s c → Fits both c
  pub takes : (c : Config) → Fits added c → Fits both c

-- The state on an edge is joined into the target of the edge, if the edge may be taken.
abbrev pub Follows : States → States → ℕ → Option State → Type 0
Follows old new to None = new ≡ old
Follows old new to (Some added) = Joins old new to added

-- The states on both edges are joined into their targets.
pub record Settles (old new : States) (next to : ℕ) (edges : Edges) : Type 0 where
  pub between : States
  pub first : Follows old between next edges.next
  pub second : Follows between new to edges.jump

-- The instruction is visited with the state before it: the states on its edges are joined into their targets.
pub record Visited (i : Insn) (s : State) (old new : States) (next to : ℕ) : Type 0 where
  pub edges : Edges
  pub flows : Flows i s edges
  pub settles : Settles old new next to edges

-- the instruction at the unit `at` is visited
pub record VisitedAt (i : Insn) (s : State) (old new : States) (at : ℕ) : Type 0 where
  pub to : ℕ
  pub far : (k : ℕ) → distance_of i ≡ pos k → to ≡ at + 1 + k
  pub taken : Visited i s old new (at + units_of i) to

-- the stored state of the unit u is the known state
pub record Ready (known kept : States) (u : ℕ) : Type 0 where
  pub within : u < length kept
  pub noted : u < length known
  pub same : state_at kept u ≡ state_at known u

-- The states that a pass stores when it has reached the unit `at`: all known states, or those from `at` on.
pub record Keeps (all : Bool) (at : ℕ) (known kept : States) : Type 0 where
  pub long : length kept ≡ length known
  pub whole : all ≡ true → kept ≡ known
  pub rest : (u : ℕ) → at ≤ u → state_at kept u ≡ state_at known u

-- Configurations that fit the old states fit the new ones, and up to the unit `at` the states are unchanged.
pub record Grows (old new : States) (at : ℕ) : Type 0 where
  pub long : length new ≡ length old
  pub same : (u : ℕ) → u ≤ at → state_at new u ≡ state_at old u
  pub more : (c : Config) → FitsAt old c → FitsAt new c

-- The states have grown, and are states of the code.
pub record Adds (code : List Insn) (old new : States) (at : ℕ) : Type 0 where
  pub grows : Grows old new at
  pub are : AreStates code new

-- the configuration is at a unit after `at`, an instruction begins there, and the configuration fits the state there
pub record Arrived (code : List Insn) (states : States) (at : ℕ) (c : Config) : Type 0 where
  pub later : at < c.place
  pub begins : IsSome (fetch code c.place)
  pub fits : FitsAt states c

-- From a configuration that fits at this unit, the run ends or continues to a configuration that fits.
abbrev pub ConsistentAt : List Insn → States → ℕ → Type 0
ConsistentAt code states at = (c : Config) → c.place ≡ at → FitsAt states c → IsSome (ended code c) ⊎ GoesOn code states c
