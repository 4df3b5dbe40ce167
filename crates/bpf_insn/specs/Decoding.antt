-- The faults of an image.
use Rattle.std.specs.Prelude.{ℕ, ◌≡◌, ◌≢◌, ◌≤◌, ◌<◌, ◌/◌, ◌%◌, ◌++◌, List, length, ⊤, Result, MatchResult, codes}
use Rattle.std.specs.Fmt.{decimal}
use Rattle.bpf_insn.specs.declared.insn.Insn.{Insn}
use Rattle.bpf_insn.specs.declared.operands.UnitFault.{UnitFault}
use Rattle.bpf_insn.specs.declared.operands.UnitFault.TheVariants as unit
use Rattle.bpf_insn.specs.declared.fault.DecodeFault.{DecodeFault}
use Rattle.bpf_insn.specs.declared.fault.DecodeFault.TheVariants.{NoMemory, Length, TooLong, Opcode, HalfWide, Register, Reserved}
use Rattle.bpf_insn.specs.Spelling.{NoneBegins}
use Rattle.bpf_insn.specs.Code.{IsCode, unit_count, unit_limit, image_of}

-- the fault of a unit, with the number of the unit
abbrev pub placed_fault : UnitFault → ℕ → DecodeFault
placed_fault unit.Opcode at = Opcode at
placed_fault unit.HalfWide at = HalfWide at
placed_fault unit.Register at = Register at
placed_fault unit.Reserved at = Reserved at

-- The bytes are a whole number of units of 8 bytes (RFC 9669, section 3), and no more units than a code may have.
abbrev pub IsWhole : List ℕ → Type 0
IsWhole bytes = length bytes % 8 ≡ 0

abbrev pub IsShort : List ℕ → Type 0
IsShort bytes = length bytes / 8 ≤ unit_limit

-- The units before the unit `at` are a code, and no spelling of an instruction begins at `at`.
pub record FailsAt (bytes : List ℕ) (at : ℕ) : Type 0 where
  pub whole : IsWhole bytes
  pub short : IsShort bytes
  pub before : List Insn
  pub rest : List ℕ
  pub is_code : IsCode before
  pub split : bytes ≡ image_of before ++ rest
  pub at_is : at ≡ unit_count before
  pub within : at < length bytes / 8
  pub none : NoneBegins rest

-- The condition of each fault.
abbrev pub HasFault : List ℕ → DecodeFault → Type 0
HasFault bytes NoMemory = ⊤
HasFault bytes Length = length bytes % 8 ≢ 0
HasFault bytes TooLong = IsWhole bytes × (unit_limit < length bytes / 8)
HasFault bytes (Opcode at) = FailsAt bytes at
HasFault bytes (HalfWide at) = FailsAt bytes at
HasFault bytes (Register at) = FailsAt bytes at
HasFault bytes (Reserved at) = FailsAt bytes at

-- The result is this code, unless memory ran out.
abbrev pub IsCodeUnlessMemory : Result (List Insn) DecodeFault → List Insn → Type 0
IsCodeUnlessMemory r code = MatchResult r (λ c. c ≡ code) (λ e. e ≡ NoMemory)

-- The text of a fault: its name, and its unit in brackets.
abbrev pub with_place : List ℕ → ℕ → List ℕ
with_place name at = name ++ (codes "(" ++ (decimal at ++ codes ")"))

abbrev pub fault_text : DecodeFault → List ℕ
fault_text NoMemory = codes "NoMemory"
fault_text Length = codes "Length"
fault_text TooLong = codes "TooLong"
fault_text (Opcode at) = with_place (codes "Opcode") at
fault_text (HalfWide at) = with_place (codes "HalfWide") at
fault_text (Register at) = with_place (codes "Register") at
fault_text (Reserved at) = with_place (codes "Reserved") at
