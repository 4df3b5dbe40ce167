use Rattle.std.proofs.Common.{◌≡◌, take}
use Rattle.stock_programs.proofs.codes.code_from.Given as goal

abbrev pub invariant-loop-insn : goal.invariant-loop-insn
invariant-loop-insn g l = l.code ≡ take l.insn-index l.insns
