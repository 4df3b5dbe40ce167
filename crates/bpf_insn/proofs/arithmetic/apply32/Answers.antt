use Rattle.std.proofs.Common.{arith}
use Rattle.std.proofs.lemmas.Nat.{or_lt, xor_lt}
use Rattle.bpf_insn.proofs.arithmetic.apply32.Goals as goal

pub returns-in-Or : goal.returns-in-Or
returns-in-Or c = grind (arith, or_lt 32 c.args.a c.args.b)

pub returns-in-Xor : goal.returns-in-Xor
returns-in-Xor c = grind (arith, xor_lt 32 c.args.a c.args.b)
