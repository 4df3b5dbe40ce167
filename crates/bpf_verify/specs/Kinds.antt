-- The kinds of a program's registers, in a table: a pool of kinds, and for each unit a row of indices into the pool.
use Rattle.std.specs.Prelude.{ℕ, ◌≡◌, ◌<◌, ◌≤◌, ◌+◌, ◌++◌, List, [], ◌∷◌, length, slice_get, slice_index_or, Option, Some, None}
use Rattle.std.specs.Option.{option_flatten}
use Rattle.bpf_range.specs.declared.kinds.Kind.{Kind}
use Rattle.bpf_flow.specs.declared.state.State.{State}
use Rattle.bpf_flow.specs.States.{kind_in}
use Rattle.bpf_verify.specs.States.{States, state_at}

-- the pool has the kind at the index `place`
abbrev pub IsAt : List Kind → ℕ → Kind → Type 0
IsAt pool place kind = slice_get pool place ≡ Some kind

-- The new pool has each kind of the old pool at the same index.
abbrev pub Extends : List Kind → List Kind → Type 0
Extends old new = (place : ℕ) (kind : Kind) → IsAt old place kind → IsAt new place kind

-- The row has, for each register, the pool index of the register's kind in the state.
abbrev pub IsRowOf : List Kind → List ℕ → State → Type 0
IsRowOf pool row s = (r : ℕ) → r < 11 → IsAt pool (slice_index_or row r 0) (kind_in s r)

-- the row of a unit: `None` if and only if the unit has no state
abbrev pub IsRow : List Kind → Option (List ℕ) → Option State → Type 0
IsRow pool None None = Unit {0}
IsRow pool None (Some s) = ⊥
IsRow pool (Some row) None = ⊥
IsRow pool (Some row) (Some s) = IsRowOf pool row s

-- each row is the row of its unit; later units may have no row yet
abbrev pub AreRowsOf : List Kind → List (Option (List ℕ)) → States → Type 0
AreRowsOf pool rows states = (u : ℕ) → u < length rows → IsRow pool (option_flatten (slice_get rows u)) (state_at states u)

-- one row for each unit
pub record AreRows (pool : List Kind) (rows : List (Option (List ℕ))) (states : States) : Type 0 where
  pub long : length rows ≡ length states
  pub each : AreRowsOf pool rows states

-- one more row, for a unit with or without a state
pub record AddsRow (old new : List Kind) (rows rows' : List (Option (List ℕ))) (state : Option State) : Type 0 where
  pub row : Option (List ℕ)
  pub is_row : IsRow new row state
  pub rows_are : rows' ≡ rows ++ row ∷ []
  pub extends : Extends old new
  pub few : length new ≤ length old + 11
