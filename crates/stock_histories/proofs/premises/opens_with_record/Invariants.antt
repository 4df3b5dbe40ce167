use Rattle.stock_histories.proofs.Openings.{IsFrom}
use Rattle.stock_histories.proofs.premises.opens_with_record.Given as goal

abbrev pub invariant-loop-pair : goal.invariant-loop-pair
invariant-loop-pair g l = IsFrom l.pairs l.key l.pair-index
