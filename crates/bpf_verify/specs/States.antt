-- The states of a program, by unit.
use Rattle.std.specs.Prelude.{ℕ, List, map, slice_get, Option, Box}
use Rattle.std.specs.Option.{option_map, option_flatten}
use Rattle.std.specs.Box.{box_value}
use Rattle.bpf_flow.specs.declared.state.State.{State}

-- The states of a program: at most one for each unit.
abbrev pub States : Type 0
States = List (Option State)

abbrev pub state_at : States → ℕ → Option State
state_at states at = option_flatten (slice_get states at)

-- the states without their boxes
abbrev pub unboxed : {A : Type 0} → List (Option (Box State A)) → States
unboxed boxes = map (option_map box_value) boxes
