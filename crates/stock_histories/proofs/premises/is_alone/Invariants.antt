use Rattle.stock_histories.proofs.TrailTests.{Alone}
use Rattle.stock_histories.proofs.premises.is_alone.Given as goal

abbrev pub invariant-loop-entry : goal.invariant-loop-entry
invariant-loop-entry g l = Alone l.program l.key l.entries l.entry-index
