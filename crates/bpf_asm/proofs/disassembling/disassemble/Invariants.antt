use Rattle.std.proofs.Common.{◌≡◌, string_bytes}
use Rattle.bpf_asm.proofs.Written.{text_below}
use Rattle.bpf_asm.proofs.disassembling.disassemble.Given as goal

abbrev pub invariant-loop-unit : goal.invariant-loop-unit
invariant-loop-unit g l = string_bytes l.text ≡ text_below l.code l.unit
