use Rattle.std.proofs.Common.{◌≡◌, ◌≤◌, ℕ, ◌+◌, ◌*◌, List}
use Rattle.sdbm_saves.specs.declared.disk.DiskFile.TheVariants.{Pages}
use Rattle.sdbm_saves.specs.Redo.{replayed}
use Rattle.sdbm_saves.specs.Drafts.{AreChanges}
use Rattle.sdbm_saves.specs.Parts.{ReadPages}
use Rattle.sdbm_saves.proofs.Parts.{IsPutting}
use Rattle.sdbm_saves.proofs.part.draft_parts.Given as goal

abbrev pub invariant-loop-index : goal.invariant-loop-index
invariant-loop-index g l = record {
  put : (both : List ℕ × List ℕ) → ReadPages l.image.size l.numbers l.pages both.0 → ((x : List ℕ) → replayed Pages l.fn.draft.count l.fn.draft.changes.items x ≡ x)
      → AreChanges l.fn.draft.pages l.fn.draft.directory both l.fn.draft.count l.fn.draft.changes.items
      → IsPutting l.image l.numbers l.index l.fn.draft.pages l.fn.draft.directory both l.fn.draft.count l.fn.draft.changes.items l.draft.count l.draft.changes.items;
  few : l.draft.count ≤ l.fn.draft.count + 8 * l.index;
  pages : l.draft.pages ≡ l.fn.draft.pages;
  directory : l.draft.directory ≡ l.fn.draft.directory;
}
