use Rattle.std.proofs.Common.{arith, ap, length}
use Rattle.bpf_insn.specs.Stored.{insns_of}
use Rattle.bpf_insn.proofs.Codes.{few}
use Rattle.bpf_insn.proofs.code.Code.units.Goals as goal

pub returns-clause-few : goal.returns-clause-few
returns-clause-few g c = rw (← c.self.view_is) (omega (arith, few (insns_of c.self.inside.slots.items), ap length c.self.invariant.whole, c.self.inside.slots.ok.0))
