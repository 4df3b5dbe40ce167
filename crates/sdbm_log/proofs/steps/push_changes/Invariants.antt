use Rattle.std.proofs.Common.{◌≡◌, ◌++◌, ℕ, List, length, drop, ◌+◌, ◌-◌}
use Rattle.sdbm_saves.specs.Redo.{rest_after, changes_of}
use Rattle.sdbm_log.specs.Steps.{acts_of}
use Rattle.sdbm_log.specs.Protocol.{change_acts}
use Rattle.sdbm_log.proofs.steps.push_changes.Given as goal

abbrev pub invariant-loop-index : goal.invariant-loop-index
invariant-loop-index l = record {
  rest : l.rest ≡ rest_after l.index (changes_of l.plan);
  place : l.here + length l.rest ≡ l.from + length l.plan;
  buffer : (bytes : List ℕ) → drop l.from bytes ≡ l.plan → drop l.here bytes ≡ l.rest;
  acts : (bytes : List ℕ) → drop l.from bytes ≡ l.plan → acts_of bytes l.steps.items ++ change_acts (l.count - l.index) l.rest ≡ acts_of bytes l.fn.steps.items ++ change_acts l.count (changes_of l.plan);
}
