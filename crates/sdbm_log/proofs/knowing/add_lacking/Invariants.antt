use Rattle.std.proofs.Common.{◌≡◌, ◌⊎◌, ◌<◌, ◌+◌, ℕ, get_or, true, nat_eq}
use Rattle.std.specs.HashSet.{contains}
use Rattle.sdbm_saves.specs.Redo.{offset_of}
use Rattle.sdbm_log.specs.Places.{HasOwn, IsIn}
use Rattle.sdbm_log.proofs.knowing.add_lacking.Given as goal

abbrev pub invariant-loop-index : goal.invariant-loop-index
invariant-loop-index l = record {
  kept : (at : ℕ) → contains nat_eq l.fn.places at ≡ true → contains nat_eq l.places at ≡ true;
  so_far : (i : ℕ) → i < l.index → (contains nat_eq l.places (offset_of l.change + i) ≡ true) ⊎ HasOwn l.change i (get_or l.bytes (offset_of l.change + i) 0);
  only : (at : ℕ) → contains nat_eq l.places at ≡ true → (contains nat_eq l.fn.places at ≡ true) ⊎ IsIn l.change at;
}
