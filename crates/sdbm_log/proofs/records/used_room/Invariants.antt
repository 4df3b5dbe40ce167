use Rattle.std.proofs.Common.{◌≡◌, ◌-◌, length, drop}
use Rattle.sdbm_log.specs.Log.{nonzero}
use Rattle.sdbm_log.proofs.records.used_room.Given as goal

abbrev pub invariant-loop-index : goal.invariant-loop-index
invariant-loop-index l = record {
  zeros : nonzero (drop (length l.log - l.index) l.log) ≡ 0;
}
