use Rattle.std.proofs.Common.{length}
use Rattle.bpf_insn.proofs.Images.{IsRead}
use Rattle.bpf_insn.proofs.decoding.decode_units.Given as goal

abbrev pub invariant-loop-rest : goal.invariant-loop-rest
invariant-loop-rest g l = IsRead l.image l.code l.rest

abbrev pub decreases-loop-rest : goal.decreases-loop-rest
decreases-loop-rest g l = length l.rest
