use Rattle.std.proofs.Common.{◌≡◌, ◌≤◌, ℕ, ◌+◌, ◌*◌, min, List, length, take}
use Rattle.sdbm_saves.specs.Redo.{data_in}
use Rattle.sdbm_saves.specs.Drafts.{AreChanges, ReadsAt, HasPut}
use Rattle.sdbm_saves.proofs.blocks.draft_bytes.Given as goal

abbrev pub invariant-loop-index : goal.invariant-loop-index
invariant-loop-index g l = record {
  put : (both : List ℕ × List ℕ) → ReadsAt l.from l.old (length l.new) (data_in both l.file) → AreChanges l.fn.draft.pages l.fn.draft.directory both l.fn.draft.count l.fn.draft.changes.items
      → HasPut l.fn.draft.pages l.fn.draft.directory both l.file l.from l.old (take (min (l.index * 1024) (length l.new)) l.new) l.fn.draft.count l.fn.draft.changes.items l.draft.count l.draft.changes.items;
  few : l.draft.count ≤ l.fn.draft.count + l.index;
  pages : l.draft.pages ≡ l.fn.draft.pages;
  directory : l.draft.directory ≡ l.fn.draft.directory;
}
