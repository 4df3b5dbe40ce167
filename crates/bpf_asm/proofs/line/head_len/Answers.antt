use Rattle.std.proofs.Common.{rules, arith}
use Rattle.bpf_asm.specs.Text.{is_margin}
use Rattle.bpf_asm.proofs.Parts.{stops, reaches_end}
use Rattle.bpf_asm.proofs.line.head_len.Goals as goal

pub returns-then-margin-clause-value : goal.returns-then-margin-clause-value
returns-then-margin-clause-value c = stops is_margin c.args.bytes.now c.loop-i.i (omega arith) c.loop-i.invariant (search rules)

pub returns-clause-value : goal.returns-clause-value
returns-clause-value c = reaches_end is_margin c.args.bytes.now c.loop-i.i (omega arith) c.loop-i.invariant
