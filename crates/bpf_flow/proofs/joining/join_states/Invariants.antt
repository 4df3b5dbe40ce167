use Rattle.std.proofs.Common.{◌≡◌, ◌≤◌, ℕ}
use Rattle.bpf_flow.specs.States.{kind_in}
use Rattle.bpf_flow.proofs.Joined.{WiderBelow}
use Rattle.bpf_flow.proofs.joining.join_states.Given as goal

abbrev pub invariant-loop-r : goal.invariant-loop-r
invariant-loop-r l = record {
  first : WiderBelow l.initial.a l.a.kinds l.r;
  second : WiderBelow l.b l.a.kinds l.r;
  behind : (k : ℕ) → l.r ≤ k → kind_in l.a k ≡ kind_in l.initial.a k;
  bytes : l.a.bytes ≡ l.initial.a.bytes;
  argument : l.a.argument ≡ l.initial.a.argument;
}
