use Rattle.std.proofs.Common.{◌≡◌, None}
use Rattle.std.specs.Prelude.{replicate}
use Rattle.bpf_verify.proofs.table.States.none.Given as goal

abbrev pub invariant-loop : goal.invariant-loop
invariant-loop g l = l.boxes.items ≡ replicate l.counter None
