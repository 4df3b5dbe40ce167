use Rattle.std.proofs.Common.{◌≡◌, List, ℕ, length, false}
use Rattle.sdbm_saves.specs.Disk.{resized}
use Rattle.sdbm_saves.specs.Redo.{rest_after, changes_of, new_length, replayed}
use Rattle.sdbm_tail.specs.Tail.{IsPartFrom}
use Rattle.sdbm_tail.proofs.laying.lay_part.Given as goal

abbrev pub invariant-loop-index : goal.invariant-loop-index
invariant-loop-index l = record {
  rest : l.rest ≡ rest_after l.index (changes_of l.plan);
  laid : (old : List ℕ) → IsPartFrom l.from l.fn.part (resized (new_length l.file l.plan) old) → IsPartFrom l.from l.part (replayed l.file l.index (changes_of l.plan) (resized (new_length l.file l.plan) old));
  long : length l.part ≡ length l.fn.part;
  same : l.is_touched ≡ false → l.part ≡ l.fn.part;
}
