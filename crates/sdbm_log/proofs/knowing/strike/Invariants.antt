use Rattle.std.proofs.Common.{◌≡◌, ◌⊎◌, ◌<◌, ℕ, get_or, true, nat_eq}
use Rattle.std.specs.HashSet.{contains}
use Rattle.sdbm_saves.specs.Redo.{rest_after, changes_of, Offers, HasByte}
use Rattle.sdbm_log.proofs.knowing.strike.Given as goal

abbrev pub invariant-loop-index : goal.invariant-loop-index
invariant-loop-index l = record {
  rest : l.rest ≡ rest_after l.index (changes_of l.plan);
  kept : (at : ℕ) → contains nat_eq l.places at ≡ true → contains nat_eq l.fn.places at ≡ true;
  so_far : (k : ℕ) → k < l.index → (at : ℕ) → contains nat_eq l.places at ≡ true → Offers (rest_after k (changes_of l.plan)) l.file at (get_or l.bytes at 0) → ⊥;
  some : (at : ℕ) → contains nat_eq l.fn.places at ≡ true → (contains nat_eq l.places at ≡ true) ⊎ HasByte l.plan l.file at (get_or l.bytes at 0);
}
