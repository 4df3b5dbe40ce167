use Rattle.std.proofs.Common.{◌≡◌, ◌≤◌, ◌<◌, ◌+◌, ℕ, length}
use Rattle.std.specs.Prelude.{slice_index_or}
use Rattle.bpf_flow.specs.States.{kind_in}
use Rattle.bpf_verify.specs.Kinds.{Extends, IsAt}
use Rattle.bpf_verify.proofs.kinds.Kinds.add.Given as goal

abbrev pub invariant-loop-register : goal.invariant-loop-register
invariant-loop-register g l = record {
  places : (r : ℕ) → r < l.register → IsAt l.self.pool.items (slice_index_or l.row r 0) (kind_in l.state r);
  extends : Extends l.initial.self.pool.items l.self.pool.items;
  eleven : length l.row ≡ 11;
  few : length l.self.pool.items ≤ length l.initial.self.pool.items + l.register;
  rows : l.self.rows ≡ l.initial.self.rows;
}
