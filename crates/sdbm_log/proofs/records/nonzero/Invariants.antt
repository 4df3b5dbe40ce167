use Rattle.std.proofs.Common.{◌≡◌, ◌≤◌, take}
use Rattle.sdbm_log.specs.Log.{nonzero}
use Rattle.sdbm_log.proofs.records.nonzero.Given as goal

abbrev pub invariant-loop-index : goal.invariant-loop-index
invariant-loop-index l = record {
  so_far : l.count ≡ nonzero (take l.index l.bytes);
  few : l.count ≤ l.index;
}
