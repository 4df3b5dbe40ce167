use Rattle.std.proofs.Common.{rules, arith}
use Rattle.bpf_asm.specs.Lines.{is_sign}
use Rattle.bpf_asm.proofs.Parts.{stops, reaches_end}
use Rattle.bpf_asm.proofs.operands.sign_place.Goals as goal

pub returns-then-sign-clause-value : goal.returns-then-sign-clause-value
returns-then-sign-clause-value c = stops is_sign c.args.bytes.now c.loop-i.i (omega arith) c.loop-i.invariant (search rules)

pub returns-clause-value : goal.returns-clause-value
returns-clause-value c = reaches_end is_sign c.args.bytes.now c.loop-i.i (omega arith) c.loop-i.invariant
