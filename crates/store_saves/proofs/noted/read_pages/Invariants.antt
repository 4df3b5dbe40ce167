use Rattle.std.proofs.Common.{◌≡◌, ◌<◌, ◌+◌, ◌*◌, ℕ, get_or, length}
use Rattle.sdbm_addr.specs.Pairs.{page_bytes}
use Rattle.store_saves.proofs.noted.read_pages.Given as goal

abbrev pub invariant-loop-number : goal.invariant-loop-number
invariant-loop-number l = record {
  long : length l.bytes.items ≡ l.number-index * page_bytes l.size;
  reads : (j : ℕ) → j < l.number-index → (i : ℕ) → i < page_bytes l.size → get_or l.bytes.items (j * page_bytes l.size + i) 0 ≡ get_or l.pag (get_or l.numbers j 0 * page_bytes l.size + i) 0;
}
