use Rattle.std.proofs.Common.{◌≡◌, ◌⊎◌, ◌<◌, ◌+◌, ℕ, get_or, true, nat_eq}
use Rattle.std.specs.HashSet.{contains}
use Rattle.sdbm_saves.specs.Redo.{file_of, offset_of, size_of, rest_after, changes_of}
use Rattle.sdbm_log.specs.Places.{HasOwn, Covers}
use Rattle.sdbm_log.proofs.knowing.lacking.Given as goal

abbrev pub invariant-loop-index : goal.invariant-loop-index
invariant-loop-index l = record {
  rest : l.rest ≡ rest_after l.index (changes_of l.plan);
  so_far : (k : ℕ) → k < l.index → file_of (rest_after k (changes_of l.plan)) ≡ l.file → (i : ℕ) → i < size_of (rest_after k (changes_of l.plan))
      → (contains nat_eq l.places (offset_of (rest_after k (changes_of l.plan)) + i) ≡ true) ⊎ HasOwn (rest_after k (changes_of l.plan)) i (get_or l.bytes (offset_of (rest_after k (changes_of l.plan)) + i) 0);
  only : (at : ℕ) → contains nat_eq l.places at ≡ true → Covers l.plan l.file at;
}
