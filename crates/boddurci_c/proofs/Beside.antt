-- A file that was read next to the base of a database.
use Rattle.std.proofs.Common.{ℕ, List, sym, subst}
use Rattle.sdbm_addr.specs.declared.PageSize.{PageSize}
use Rattle.sdbm_addr.specs.Pairs.{Pair}
use Rattle.sdbm_addr.specs.Layout.{bytes_of_page}
use Rattle.sdbm_addr.specs.Database.{pairs_at}
use Rattle.sdbm_saves.specs.declared.marked.Marked.{Marked}
use Rattle.sdbm_saves.specs.Parts.{ReadsPage, ReadPages, IsMarkedIn}
use Rattle.boddurci_handles.specs.declared.opened.Db.{Db}
use Rattle.store_marks.specs.Marks.{AreAmong}
use Rattle.boddurci_c.specs.Plans.{IsReadBeside}

-- the file has every other page as a save of the database would write it
pub read_marked : (d : Db) (old : Marked) → AreAmong d.marks old.numbers.now → (pag : List ℕ) → IsReadBeside d.base.database old.len old.numbers.now old.pages.now pag → IsMarkedIn old d.image pag
read_marked d old among pag read = record {
  long = read.long;
  reads = subst (λ (s : PageSize). ReadPages s old.numbers.now old.pages.now pag) (sym d.differ.size) read.reads;
  rest = λ n none. subst (λ (s : PageSize). ReadsPage s pag n (bytes_of_page s (pairs_at d.image n))) (sym d.differ.size)
      (subst (λ (ps : List Pair). ReadsPage d.base.database.size pag n (bytes_of_page d.base.database.size ps)) (sym (d.differ.rest n (λ there. none (among n there)))) (read.rest n none));
}
