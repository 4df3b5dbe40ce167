-- The operands that a conditional jump tests.
use Rattle.std.specs.Prelude.{◌%◌}
use Rattle.std.specs.Int.{w64, cast_unsigned}
use Rattle.bpf_insn.specs.declared.insn.Width.{Width}
use Rattle.bpf_insn.specs.declared.insn.Operand.{Operand}
use Rattle.bpf_insn.specs.declared.insn.Operand.TheVariants.{Imm, Reg}
use Rattle.bpf_insn.specs.Arithmetic.{modulus}
use Rattle.bpf_helpers.specs.declared.values.Value.{Value}
use Rattle.bpf_helpers.specs.declared.values.Value.TheVariants.{Number}
use Rattle.bpf_helpers.specs.Machine.{Config, register}

-- A 32-bit test reads only the low 32 bits of an immediate (RFC 9669, section 4.3).
abbrev pub tested : Width → Config → Operand → Value
tested w c (Imm k) = Number (cast_unsigned w64 k % modulus w)
tested w c (Reg r) = register c r
