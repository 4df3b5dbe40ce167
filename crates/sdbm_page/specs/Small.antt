-- The bytes of a small page after some of them were mutably borrowed.
use Rattle.std.specs.Prelude.{ℕ, List, length}
use Rattle.std.specs.Borrow.{Lends, Fml, MutBor, Array, u8}
use Rattle.sdbm_page.specs.Edits.{written_from}
use Rattle.sdbm_page.specs.contracts.small.SmallBytes.{the_row}
use Rattle.sdbm_page.specs.declared.small.SmallBytes.{SmallBytes}

-- the result of writing `part` over the bytes from index `at` on
abbrev pub small_with : SmallBytes → ℕ → List ℕ → SmallBytes
small_with small at part = record { bytes = written_from (length small.bytes) small.bytes at part }

-- when the borrow `r` ends, the bytes from index `at` on are those written through `r`
abbrev pub lends_some : MutBor SmallBytes → ℕ → MutBor (List ℕ) → Fml
lends_some small at r = Lends the_row (Array u8 0) small r (small_with small.now at)
