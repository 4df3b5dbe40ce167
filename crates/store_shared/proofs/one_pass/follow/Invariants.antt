use Rattle.std.proofs.Common.{◌≡◌, length}
use Rattle.std.specs.Prelude.{take}
use Rattle.store_shared.specs.Closed.{AreFollowed, Covers}
use Rattle.store_shared.proofs.one_pass.follow.Given as goal

abbrev pub invariant-loop-entry : goal.invariant-loop-entry
invariant-loop-entry g l =
    record { followed : AreFollowed (take l.entry-index l.entries) l.handed l.counts.items; covered : Covers (take l.entry-index l.entries) l.handed; long : length l.counts.items ≡ length l.handed }
