-- Pairs whose bytes are borrowed.
use Rattle.std.specs.Prelude.{ℕ, List, map}
use Rattle.std.specs.Borrow.{Bor}
use Rattle.sdbm_addr.specs.Pairs.{Pair}

-- the pair of a borrowed key and a borrowed value
abbrev pub pair_lent : Bor (List ℕ) × Bor (List ℕ) → Pair
pair_lent lent = (lent.0.now, lent.1.now)

abbrev pub pairs_lent : List (Bor (List ℕ) × Bor (List ℕ)) → List Pair
pairs_lent = map pair_lent
