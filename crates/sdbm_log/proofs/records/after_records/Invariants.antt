use Rattle.std.proofs.Common.{◌≡◌, ◌-◌}
use Rattle.sdbm_log.specs.Log.{after_records}
use Rattle.sdbm_log.proofs.records.after_records.Given as goal

abbrev pub invariant-loop-index : goal.invariant-loop-index
invariant-loop-index l = record {
  so_far : after_records (l.count - l.index) l.rest ≡ after_records l.count l.log;
}
