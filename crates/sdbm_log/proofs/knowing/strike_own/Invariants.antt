use Rattle.std.proofs.Common.{◌≡◌, ◌⊎◌, ◌<◌, ◌+◌, ℕ, get_or, true, nat_eq}
use Rattle.std.specs.HashSet.{contains}
use Rattle.sdbm_saves.specs.Redo.{offset_of, Offers}
use Rattle.sdbm_log.specs.Places.{HasOwn}
use Rattle.sdbm_log.proofs.knowing.strike_own.Given as goal

abbrev pub invariant-loop-index : goal.invariant-loop-index
invariant-loop-index l = record {
  kept : (at : ℕ) → contains nat_eq l.places at ≡ true → contains nat_eq l.fn.places at ≡ true;
  so_far : (at : ℕ) → contains nat_eq l.places at ≡ true → (i : ℕ) → i < l.index → offset_of l.change + i ≡ at → HasOwn l.change i (get_or l.bytes at 0) → ⊥;
  rest : (at : ℕ) → contains nat_eq l.fn.places at ≡ true → (contains nat_eq l.places at ≡ true) ⊎ Offers l.change l.fn.file at (get_or l.bytes at 0);
}
