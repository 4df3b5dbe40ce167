use Rattle.std.proofs.Common.{◌<◌, ℕ}
use Rattle.std.specs.List.{Contains}
use Rattle.sdbm_addr.specs.Layout.{bytes_of_page}
use Rattle.sdbm_addr.specs.Database.{pairs_at}
use Rattle.sdbm_saves.specs.Parts.{ReadsPage}
use Rattle.boddurci_c.proofs.opening.foreign_pages.Given as goal

abbrev pub invariant-loop-number : goal.invariant-loop-number
invariant-loop-number l = (n : ℕ) → n < l.number → (Contains l.marks n → ⊥) → ReadsPage l.image.size l.pag.bytes n (bytes_of_page l.image.size (pairs_at l.image n))
