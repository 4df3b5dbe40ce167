use Rattle.std.specs.Prelude.{take}
use Rattle.std.specs.List.{All}
use Rattle.store_shared.specs.Closed.{Agrees}
use Rattle.store_shared.proofs.close.first_torn.Given as goal

abbrev pub invariant-loop-calls : goal.invariant-loop-calls
invariant-loop-calls g l = All (Agrees l.entries) (take l.calls-index l.handed)
