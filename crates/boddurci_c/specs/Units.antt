-- The offending unit of an invalid program image (own).
use Rattle.std.specs.Prelude.{◌^◌, ◌-◌, ℕ, Option, Some, None}
use Rattle.bpf_insn.specs.declared.fault.DecodeFault.{DecodeFault}
use Rattle.bpf_insn.specs.declared.fault.DecodeFault.TheVariants as decoding
use Rattle.bpf_verify.specs.Fault.{place_of}
use Rattle.prog_registry.specs.declared.fault.RegFault.{RegFault}
use Rattle.prog_registry.specs.declared.fault.RegFault.TheVariants as faults

-- the unit at which decoding a program image fails
abbrev pub unit_decoded : DecodeFault → Option ℕ
unit_decoded decoding.NoMemory = None
unit_decoded decoding.Length = None
unit_decoded decoding.TooLong = None
unit_decoded (decoding.Opcode at) = Some at
unit_decoded (decoding.HalfWide at) = Some at
unit_decoded (decoding.Register at) = Some at
unit_decoded (decoding.Reserved at) = Some at

-- the unit at which a program image is invalid, if the fault has one
abbrev pub unit_in : RegFault → Option ℕ
unit_in faults.NoMemory = None
unit_in (faults.Decode fault) = unit_decoded fault
unit_in (faults.Verify fault) = place_of fault
unit_in faults.Full = None

-- the number that means no unit
abbrev pub nowhere : ℕ
nowhere = 2 ^ 64 - 1
