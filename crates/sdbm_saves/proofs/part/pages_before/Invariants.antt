use Rattle.std.proofs.Common.{◌≡◌, ◌≢◌, ◌<◌, ℕ, ◌+◌, ◌*◌, length, get_or}
use Rattle.sdbm_saves.proofs.part.pages_before.Given as goal

abbrev pub invariant-loop-index : goal.invariant-loop-index
invariant-loop-index g l = record {
  long : length l.pages.items ≡ l.index * l.size;
  own : (j i : ℕ) → j < l.index → i < l.size → get_or l.numbers j 0 ≡ l.old.number → get_or l.pages.items (j * l.size + i) 0 ≡ get_or l.old.page.now i 0;
  others : (j i : ℕ) → j < l.index → i < l.size → get_or l.numbers j 0 ≢ l.old.number → get_or l.pages.items (j * l.size + i) 0 ≡ 0;
}
