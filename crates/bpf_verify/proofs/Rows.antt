-- The rows of a table of kinds.
use Rattle.std.proofs.Common.{◌≡◌, ◌<◌, ◌+◌, ℕ, zero, suc, List, [], ◌∷◌, ◌++◌, length, length-append, Option, Some, None, arith, below_more}
use Rattle.std.specs.Prelude.{slice_index_or, slice_set, slice_get}
use Rattle.std.specs.Option.{option_flatten}
use Rattle.std.proofs.lemmas.List.{get_or-set_same, get_or-set_other}
use Rattle.bpf_range.specs.declared.kinds.Kind.{Kind}
use Rattle.bpf_flow.specs.declared.state.State.{State}
use Rattle.bpf_flow.specs.States.{kind_in}
use Rattle.bpf_verify.specs.States.{States, state_at}
use Rattle.bpf_verify.specs.Kinds.{IsAt, Extends, IsRow, IsRowOf, AreRowsOf, AddsRow}

-- a row with the place of the next register
pub one_place : (pool : List Kind) (row : List ℕ) (n place : ℕ) (s : State) → n < length row → ((r : ℕ) → r < n → IsAt pool (slice_index_or row r 0) (kind_in s r)) → IsAt pool place (kind_in s n) → (r : ℕ) → r < n + 1 → IsAt pool (slice_index_or (slice_set row n place) r 0) (kind_in s r)
one_place pool row n place s long before here =
    below_more (λ r. IsAt pool (slice_index_or (slice_set row n place) r 0) (kind_in s r)) n
    (λ r l. rw (get_or-set_other row n r place 0 (omega arith)) (before r l))
    (rw (get_or-set_same row n place 0 long) here)

-- a row is one in a pool that has more
row_stays : (old new : List Kind) (row : Option (List ℕ)) (o : Option State) → Extends old new → IsRow old row o → IsRow new row o
row_stays old new None None more is = tt
row_stays old new None (Some s) more is = is
row_stays old new (Some row) None more is = is
row_stays old new (Some row) (Some s) more is = λ r l. more _ _ (is r l)

-- the rows of one more unit
at_end : (P : ℕ → Option (List ℕ) → Type 0) (xs : List (Option (List ℕ))) (x : Option (List ℕ)) → ((u : ℕ) → u < length xs → P u (option_flatten (slice_get xs u))) → P (length xs) x → (u : ℕ) → u < length xs + 1 → P u (option_flatten (slice_get (xs ++ x ∷ []) u))
at_end P [] x h l zero b = l
at_end P [] x h l (suc u) b = absurd (omega arith)
at_end P (y ∷ ys) x h l zero b = h zero (omega arith)
at_end P (y ∷ ys) x h l (suc u) b = at_end (λ n. P (suc n)) ys x (λ n c. h (suc n) (omega arith)) l u (omega arith)

pub one_row : (old new : List Kind) (rows rows' : List (Option (List ℕ))) (states states' : States) → AreRowsOf old rows states → AddsRow old new rows rows' (state_at states (length rows)) → ((u : ℕ) → u < length rows + 1 → state_at states' u ≡ state_at states u) → length rows' ≡ length rows + 1 → AreRowsOf new rows' states'
one_row old new rows rows' states states' are adds same long = λ u h.
    rw adds.rows_are (rw (same u (omega (arith, long)))
    (at_end (λ n row. IsRow new row (state_at states n)) rows adds.row (λ n l. row_stays old new _ _ adds.extends (are n l)) adds.is_row u (omega (arith, long))))

-- adding a row increases the number of rows by one
pub row_counted : {old new : List Kind} {rows rows' : List (Option (List ℕ))} {o : Option State} → AddsRow old new rows rows' o → length rows' ≡ length rows + 1
row_counted {rows = rows} adds = rw adds.rows_are (length-append rows (adds.row ∷ []))
