use Rattle.std.proofs.Common.{◌≡◌, ℕ, ◌<◌}
use Rattle.bpf_insn.specs.Code.{fetch}
use Rattle.bpf_insn.proofs.equality.same_code.Given as goal

abbrev pub invariant-loop-unit : goal.invariant-loop-unit
invariant-loop-unit g l = (u : ℕ) → u < l.unit → fetch l.a u ≡ fetch l.b u
