use Rattle.stock_histories.proofs.TrailTests.{Timed}
use Rattle.stock_histories.proofs.premises.never_falls.Given as goal

abbrev pub invariant-loop-entry : goal.invariant-loop-entry
invariant-loop-entry g l = Timed l.key l.entries l.entry-index l.from
