use Rattle.std.proofs.Common.{◌≡◌}
use Rattle.sdbm_saves.specs.Redo.{rest_after, changes_of}
use Rattle.dbm_files.proofs.sight.knows_pages.Given as goal

abbrev pub invariant-loop-index : goal.invariant-loop-index
invariant-loop-index l = record {
  rest : l.rest ≡ rest_after l.index (changes_of l.plan);
}
