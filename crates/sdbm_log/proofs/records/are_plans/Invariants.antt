use Rattle.std.proofs.Common.{◌-◌, ◌↔◌}
use Rattle.sdbm_log.specs.Log.{ArePlans}
use Rattle.sdbm_log.proofs.records.are_plans.Given as goal

abbrev pub invariant-loop-index : goal.invariant-loop-index
invariant-loop-index l = record {
  so_far : ArePlans l.count l.log ↔ ArePlans (l.count - l.index) l.rest;
}
