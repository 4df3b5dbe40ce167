-- Borrowed pairs, sorted by their keys.
use Rattle.std.proofs.Common.{ℕ, ◌+◌, ◌<◌, List, [], ◌∷◌, length, arith}
use Rattle.std.specs.Borrow.{Bor}
use Rattle.std.specs.List.Sorted.{IsSortedBy}
use Rattle.std.specs.Ordering.{is_lt}
use Rattle.std.proofs.lemmas.List.{get_or-map, length-map}
use Rattle.sdbm_addr.specs.Pairs.{Pair, key_cmp}
use Rattle.sdbm_files.specs.Lent.{pair_lent, pairs_lent}

-- sorting borrowed pairs is sorting the pairs
pub sorted_lent : (lent : List (Bor (List ℕ) × Bor (List ℕ))) → IsSortedBy (λ x y. is_lt (key_cmp x.0.now y.0.now)) lent → IsSortedBy (λ (x y : Pair). is_lt (key_cmp x.0 y.0)) (pairs_lent lent)
sorted_lent [] sorted = λ k d low high. absurd (omega arith)
sorted_lent (x ∷ xs) sorted = λ k d low high.
    let inside : k + 1 < length (x ∷ xs) = rw (length-map (x ∷ xs)) at high in
    rw (get_or-map pair_lent (x ∷ xs) (k + 1) x d inside, get_or-map pair_lent (x ∷ xs) k x d (omega arith)) (sorted k x low inside)
