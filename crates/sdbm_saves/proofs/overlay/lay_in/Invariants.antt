use Rattle.std.proofs.Common.{◌≡◌}
use Rattle.sdbm_saves.specs.Redo.{rest_after, changes_of, replayed}
use Rattle.sdbm_saves.proofs.overlay.lay_in.Given as goal

abbrev pub invariant-loop-index : goal.invariant-loop-index
invariant-loop-index l = record {
  rest : l.rest ≡ rest_after l.index (changes_of l.plan);
  laid : l.laid ≡ replayed l.file l.index (changes_of l.plan) l.fn.laid;
}
