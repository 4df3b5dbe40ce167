use Rattle.store_shared.specs.Closed.{AreWhole}
use Rattle.store_shared.proofs.one_pass.are_whole.Given as goal

abbrev pub invariant-loop-at : goal.invariant-loop-at
invariant-loop-at g l = AreWhole l.handed l.counts l.at
