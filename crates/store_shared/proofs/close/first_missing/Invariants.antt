use Rattle.std.specs.Prelude.{take}
use Rattle.store_shared.specs.Closed.{Covers}
use Rattle.store_shared.proofs.close.first_missing.Given as goal

abbrev pub invariant-loop-entry : goal.invariant-loop-entry
invariant-loop-entry g l = Covers (take l.entry-index l.entries) l.handed
