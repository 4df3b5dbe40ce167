use Rattle.std.proofs.Common.{◌≡◌, ◌<◌, ◌≤◌, ◌+◌, ◌*◌, ℕ, length}
use Rattle.std.specs.Prelude.{slice_index_or, vec_capacity}
use Rattle.bpf_insn.specs.Code.{unit_count}
use Rattle.bpf_flat.specs.declared.form.Flat.TheVariants.{Other}
use Rattle.bpf_verify.specs.Flats.{StandsFor}
use Rattle.bpf_verify.specs.Kinds.{AreRowsOf}
use Rattle.bpf_verify.specs.Verified.{Starts}
use Rattle.bpf_verify.specs.Visits.{AreStates, ConsistentAt, Keeps}
use Rattle.bpf_verify.proofs.visits.pass_over.Given as goal

abbrev pub invariant-loop-at : goal.invariant-loop-at
invariant-loop-at g l = record {
  units : l.units ≡ unit_count l.code;
  are : AreStates l.code l.pass.noted.states;
  starts : Starts l.pass.noted.states;
  keeps : Keeps l.all l.at l.pass.noted.states l.pass.kept;
  each : (p : ℕ) → p < l.at → ConsistentAt l.code l.pass.noted.states p;
  long : length l.flats.items ≡ l.at;
  room : l.units ≤ vec_capacity l.flats;
  stand : (u : ℕ) → u < length l.flats.items → StandsFor l.code l.pass.noted.states u (slice_index_or l.flats.items u Other);
  counted : length l.kinds.rows.items ≡ l.at;
  rows_room : l.units ≤ vec_capacity l.kinds.rows;
  few : length l.kinds.pool.items ≤ 11 * l.at + 1;
  rows : AreRowsOf l.kinds.pool.items l.kinds.rows.items l.pass.noted.states;
}
