use Rattle.std.proofs.Common.{◌*◌}
use Rattle.sdbm_saves.specs.Drafts.{AreOutside}
use Rattle.sdbm_saves.proofs.spans.differing_span.Given as goal

abbrev pub invariant-loop-index : goal.invariant-loop-index
invariant-loop-index l = record {
  outside : AreOutside l.known l.block l.span.start l.span.end (l.index * 32);
}
