use Rattle.std.proofs.Common.{◌≤◌, ◌≡◌, length}
use Rattle.std.specs.Prelude.{take}
use Rattle.store_shared.specs.Closed.{calls_of}
use Rattle.store_shared.proofs.close.agrees.Given as goal

abbrev pub invariant-loop-entry : goal.invariant-loop-entry
invariant-loop-entry g l = record { same : calls_of l.number (take l.entry-index l.entries) ≡ take l.at l.made; within : l.at ≤ length l.made }
