use Rattle.std.specs.Prelude.{take}
use Rattle.store_shared.specs.Closed.{AreOwn}
use Rattle.store_shared.proofs.close.first_strange.Given as goal

abbrev pub invariant-loop-at : goal.invariant-loop-at
invariant-loop-at g l = AreOwn l.made (take l.at l.handed)
