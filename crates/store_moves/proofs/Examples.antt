-- The definitions, computed on values.
use Rattle.std.proofs.Common.{◌≡◌, ℕ, List, [], ◌∷◌, true, false, Some, None, refl}
use Rattle.sdbm_addr.specs.declared.PageSize.TheVariants.{Small}
use Rattle.sdbm_addr.specs.Pairs.{Pair}
use Rattle.bpf_helpers.specs.Runs.{Outcome}
use Rattle.store_cmd.specs.Answers.{saves, removes}
use Rattle.store_moves.specs.Works.{in_place, leaf_alone, left_on}

-- three pairs with the keys 1, 2 and 3, and the end of a run on the value of 2 with this number
abbrev pairs : List Pair
pairs = (1 ∷ [], 10 ∷ []) ∷ (2 ∷ [], 20 ∷ 21 ∷ []) ∷ (3 ∷ [], []) ∷ []

abbrev ended : ℕ → Outcome
ended code = record { code = code; word = 9; bytes = 7 ∷ 8 ∷ []; steps = 4 }

-- only the key's value changes, in place; a missing key changes nothing
its_place : (in_place (2 ∷ []) (7 ∷ 8 ∷ []) pairs ≡ (1 ∷ [], 10 ∷ []) ∷ (2 ∷ [], 7 ∷ 8 ∷ []) ∷ (3 ∷ [], []) ∷ []) × (in_place (4 ∷ []) (7 ∷ 8 ∷ []) pairs ≡ pairs)
its_place = (refl, refl)

-- exit number 1 saves the record, 2 removes the pair, and any other leaves the page unchanged
after_one : left_on Small pairs (2 ∷ []) (ended 1) ≡ Some (leaf_alone Small ((1 ∷ [], 10 ∷ []) ∷ (2 ∷ [], 7 ∷ 8 ∷ []) ∷ (3 ∷ [], []) ∷ []))
after_one = refl

after_two : left_on Small pairs (2 ∷ []) (ended 2) ≡ Some (leaf_alone Small ((1 ∷ [], 10 ∷ []) ∷ (3 ∷ [], []) ∷ []))
after_two = refl

after_others : (left_on Small pairs (2 ∷ []) (ended 0) ≡ None) × (left_on Small pairs (2 ∷ []) (ended 3) ≡ None)
after_others = (refl, refl)

numbers : ((saves 1 ≡ true) × (saves 2 ≡ false)) × ((removes 2 ≡ true) × (removes 18446744073709551615 ≡ false))
numbers = ((refl, refl), (refl, refl))
