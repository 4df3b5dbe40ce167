use Rattle.std.proofs.Common.{◌≡◌, ◌+◌, ◌-◌, length}
use Rattle.sdbm_log.specs.Log.{number_in, wholes}
use Rattle.sdbm_log.proofs.records.wholes.Given as goal

abbrev pub invariant-loop-index : goal.invariant-loop-index
invariant-loop-index l = record {
  so_far : number_in l.log ≡ l.index + wholes (length l.log - l.index) l.rest;
}
