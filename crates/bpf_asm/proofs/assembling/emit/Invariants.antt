use Rattle.std.proofs.Common.{map}
use Rattle.bpf_asm.specs.Views.{view_line}
use Rattle.bpf_asm.proofs.Emitting.{IsEmitted}
use Rattle.bpf_asm.proofs.assembling.emit.Given as goal

abbrev pub invariant-loop-at : goal.invariant-loop-at
invariant-loop-at g l = IsEmitted (map view_line l.lines) l.labels l.at l.code
