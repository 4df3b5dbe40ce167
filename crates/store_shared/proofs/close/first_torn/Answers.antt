use Rattle.std.proofs.Common.{subst}
use Rattle.std.specs.List.{All}
use Rattle.std.proofs.lemmas.List.{take_all}
use Rattle.std.proofs.lemmas.List.Elements.{All-more}
use Rattle.store_shared.specs.Closed.{Agrees}
use Rattle.store_shared.proofs.close.first_torn.Goals as goal

pub loop-calls-preserved : goal.loop-calls-preserved
loop-calls-preserved g c =
    All-more (Agrees c.args.entries.now) c.args.handed.now c.loop-calls.calls-index c.calls-item.result c.loop-calls-test.true c.loop-calls.invariant
    (subst (Agrees c.args.entries.now) c.calls-item.is (c.agrees.ensures.0 c.if-not-agrees.false))

pub returns-clause-none : goal.returns-clause-none
returns-clause-none g c = subst (All (Agrees c.args.entries.now)) (take_all c.loop-calls.calls-index c.args.handed.now c.loop-calls-test.false) c.loop-calls.invariant
