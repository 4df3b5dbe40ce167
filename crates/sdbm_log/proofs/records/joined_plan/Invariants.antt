use Rattle.std.proofs.Common.{◌≡◌, ◌≤◌, ◌-◌, length}
use Rattle.sdbm_log.specs.Log.{ArePlans, joined_all, log_plan}
use Rattle.sdbm_log.proofs.records.joined_plan.Given as goal

abbrev pub invariant-loop-index : goal.invariant-loop-index
invariant-loop-index g l = record {
  so_far : joined_all l.plan.items (l.count - l.index) l.rest ≡ log_plan l.count l.log;
  whole : ArePlans (l.count - l.index) l.rest;
  long : 28 ≤ length l.plan.items;
}
