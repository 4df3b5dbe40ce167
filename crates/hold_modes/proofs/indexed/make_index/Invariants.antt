use Rattle.std.proofs.Common.{◌≡◌, take}
use Rattle.hold_modes.proofs.indexed.make_index.Given as goal

abbrev pub invariant-loop-held : goal.invariant-loop-held
invariant-loop-held g l = l.many ≡ take l.held-index l.few
