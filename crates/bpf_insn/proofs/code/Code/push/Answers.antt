use Rattle.std.proofs.Common.{arith}
use Rattle.bpf_insn.specs.Stored.{insns_of}
use Rattle.bpf_insn.proofs.Codes.{few}
use Rattle.bpf_insn.proofs.code.Code.push.Goals as goal

pub overflow_add-self : goal.overflow_add-self
overflow_add-self g c = omega (arith, few (insns_of c.self.inside.slots.items), c.self.invariant.counted, c.self.invariant.is_code.short)
