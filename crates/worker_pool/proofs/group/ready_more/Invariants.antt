use Rattle.std.proofs.Common.{◌≡◌, ◌<◌, ◌+◌, ◌-◌, length}
use Rattle.worker_pool.specs.Groups.{AreRunsFrom, place_behind}
use Rattle.worker_pool.proofs.group.ready_more.Given as goal

abbrev pub invariant-loop-alloc : goal.invariant-loop-alloc
invariant-loop-alloc g l = record {
  within : l.last < length l.tasks;
  runs : AreRunsFrom l.registry.programs l.tasks l.workers l.at l.calls.items;
  behind : place_behind l.workers l.at l.calls.items ≡ l.last + l.workers;
  any : 0 < length l.calls.items;
}

abbrev pub decreases-loop-alloc : goal.decreases-loop-alloc
decreases-loop-alloc g l = length l.tasks - l.last
