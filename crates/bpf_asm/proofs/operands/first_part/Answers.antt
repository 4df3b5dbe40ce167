use Rattle.bpf_asm.proofs.operands.first_part.Goals as goal

pub returns-in_default-None : goal.returns-in_default-None
returns-in_default-None c = (c.cut.result.0.now, rw c.in_default-None.is-1 at c.cut.ensures.parts)
