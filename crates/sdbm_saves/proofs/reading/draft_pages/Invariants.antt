use Rattle.std.proofs.Common.{◌≡◌, ◌≤◌, ℕ, ◌+◌, ◌*◌, List, take}
use Rattle.sdbm_addr.specs.Files.{first_pages}
use Rattle.sdbm_saves.specs.declared.disk.DiskFile.TheVariants.{Pages}
use Rattle.sdbm_saves.specs.OldPages.{bytes_in}
use Rattle.sdbm_saves.specs.Drafts.{AreChanges, HasPut}
use Rattle.sdbm_saves.proofs.reading.draft_pages.Given as goal

abbrev pub invariant-loop-index : goal.invariant-loop-index
invariant-loop-index g l = record {
  put : (both : List ℕ × List ℕ) → both.0 ≡ (bytes_in l.old) → AreChanges l.fn.draft.pages l.fn.draft.directory both l.fn.draft.count l.fn.draft.changes.items
      → HasPut l.fn.draft.pages l.fn.draft.directory both Pages 0 (bytes_in l.old) (take (l.index * 1024) (first_pages l.image l.count)) l.fn.draft.count l.fn.draft.changes.items l.draft.count l.draft.changes.items;
  few : l.draft.count ≤ l.fn.draft.count + l.index;
  pages : l.draft.pages ≡ l.fn.draft.pages;
  directory : l.draft.directory ≡ l.fn.draft.directory;
}
