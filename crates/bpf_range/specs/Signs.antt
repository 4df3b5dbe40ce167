-- The numbers whose sign bit is 0.
use Rattle.std.specs.Prelude.{ℕ, ◌^◌}
use Rattle.bpf_insn.specs.declared.insn.Width.{Width}
use Rattle.bpf_insn.specs.declared.insn.Width.TheVariants.{W32, W64}
use Rattle.bpf_insn.specs.declared.insn.Test.{Test}
use Rattle.bpf_insn.specs.declared.insn.Test.TheVariants.{SGt, SGe, SLt, SLe}
use Rattle.bpf_insn.specs.Arithmetic.{modulus}

-- Half of a width's modulus. Numbers below it have a sign bit of 0, so they do not change when read
-- as signed (two's complement).
abbrev pub half : Width → ℕ
half W32 = 2 ^ 31
half W64 = 2 ^ 63

-- On numbers below `reach`, a test equals the corresponding unsigned 64-bit test.
abbrev pub reach : Test → Width → ℕ
reach SGt w = half w
reach SGe w = half w
reach SLt w = half w
reach SLe w = half w
reach t w = modulus w
