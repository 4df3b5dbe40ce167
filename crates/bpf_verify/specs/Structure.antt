-- The structural faults of instructions, reached or not, and the reasons to refuse a code.
use Rattle.std.specs.Prelude.{ℕ, ◌≡◌, ◌≢◌, ⊤, ◌+◌, ◌<◌, ◌⊎◌, ◌==◌, nat_le, if◌then◌else◌, ℤ, pos, negsuc, List, [], Option, Some, None, IsSome}
use Rattle.std.specs.Option.{option_and_then, is_some}
use Rattle.bpf_insn.specs.declared.insn.Insn.{Insn}
use Rattle.bpf_insn.specs.declared.insn.Insn.TheVariants.{Alu, Unary, Branch, Jump, JumpFar, Call, Exit, Load, LoadSigned, StoreImm, Store, Wide}
use Rattle.bpf_insn.specs.Code.{fetch, unit_count}
use Rattle.bpf_helpers.specs.Helpers.{numbered}
use Rattle.bpf_verify.specs.declared.fault.VerifyFault.{VerifyFault}
use Rattle.bpf_verify.specs.declared.fault.VerifyFault.TheVariants.{NoMemory, Empty, FrameWritten, NoHelper, Backward, JumpOut, JumpIntoWide, FallsOff, Unset, HelperArgument, ExitNotNumber, NotPointer, PointerOp, PointerRange, PointerStored, ArgumentWritten, OutOfRecord, OutOfArgument, OutOfStack}

-- ---- the structure

-- the first of two faults
abbrev pub first_of : Option VerifyFault → Option VerifyFault → Option VerifyFault
first_of None b = b
first_of (Some f) b = Some f

-- R10 must not be written.
abbrev pub frame_fault : ℕ → ℕ → Option VerifyFault
frame_fault at d = if d == 10 then Some (FrameWritten at) else None

-- The called helper must exist.
abbrev pub helper_fault : ℕ → ℤ → Option VerifyFault
helper_fault at id = if is_some (numbered id) then None else Some (NoHelper at)

-- A jump must lead forward to a unit at which an instruction begins.
abbrev pub jump_fault : List Insn → ℕ → ℤ → Option VerifyFault
jump_fault code at (pos k) = if nat_le (unit_count code) (at + 1 + k) then Some (JumpOut at) else (if is_some (fetch code (at + 1 + k)) then None else Some (JumpIntoWide at))
jump_fault code at (negsuc k) = Some (Backward at)

-- An instruction of n units that continues at the next unit must not be the last instruction of the code.
abbrev pub end_fault : List Insn → ℕ → ℕ → Option VerifyFault
end_fault code at n = if at + n == unit_count code then Some (FallsOff at) else None

abbrev pub insn_fault : List Insn → ℕ → Insn → Option VerifyFault
insn_fault code at (Alu op w d s) = first_of (frame_fault at d) (end_fault code at 1)
insn_fault code at (Unary op w d) = first_of (frame_fault at d) (end_fault code at 1)
insn_fault code at (Branch t w d s off) = first_of (jump_fault code at off) (end_fault code at 1)
insn_fault code at (Jump off) = jump_fault code at off
insn_fault code at (JumpFar off) = jump_fault code at off
insn_fault code at (Call id) = first_of (helper_fault at id) (end_fault code at 1)
insn_fault code at Exit = None
insn_fault code at (Load n d b off) = first_of (frame_fault at d) (end_fault code at 1)
insn_fault code at (LoadSigned n d b off) = first_of (frame_fault at d) (end_fault code at 1)
insn_fault code at (StoreImm n b off k) = end_fault code at 1
insn_fault code at (Store n b off s) = end_fault code at 1
insn_fault code at (Wide d n) = first_of (frame_fault at d) (end_fault code at 2)

-- the fault of the instruction that begins at a unit, if there is one
abbrev pub unit_fault : List Insn → ℕ → Option VerifyFault
unit_fault code at = option_and_then (insn_fault code at) (fetch code at)

-- There is an instruction, and no instruction has a fault.
pub record IsBuilt (code : List Insn) : Type 0 where
  pub some : code ≢ []
  pub each : (at : ℕ) → unit_fault code at ≡ None

-- The fault is the fault of the first invalid instruction.
pub record IsFirst (code : List Insn) (fault : VerifyFault) : Type 0 where
  pub at : ℕ
  pub is : unit_fault code at ≡ Some fault
  pub before : (u : ℕ) → u < at → unit_fault code u ≡ None

-- The structure is invalid: there is no instruction, or the fault is that of the first invalid instruction.
abbrev pub IsMisbuilt : List Insn → VerifyFault → Type 0
IsMisbuilt code fault = ((code ≡ []) × (fault ≡ Empty)) ⊎ IsFirst code fault

-- ---- refusals

-- A fault that the pass may report: the fault names a unit at which an instruction begins, or memory ran out.
abbrev pub IsMet : List Insn → VerifyFault → Type 0
IsMet code NoMemory = ⊤
IsMet code Empty = ⊥
IsMet code (FrameWritten at) = ⊥
IsMet code (NoHelper at) = ⊥
IsMet code (Backward at) = ⊥
IsMet code (JumpOut at) = ⊥
IsMet code (JumpIntoWide at) = ⊥
IsMet code (FallsOff at) = ⊥
IsMet code (Unset at) = IsSome (fetch code at)
IsMet code (HelperArgument at) = IsSome (fetch code at)
IsMet code (ExitNotNumber at) = IsSome (fetch code at)
IsMet code (NotPointer at) = IsSome (fetch code at)
IsMet code (PointerOp at) = IsSome (fetch code at)
IsMet code (PointerRange at) = IsSome (fetch code at)
IsMet code (PointerStored at) = IsSome (fetch code at)
IsMet code (ArgumentWritten at) = IsSome (fetch code at)
IsMet code (OutOfRecord at) = IsSome (fetch code at)
IsMet code (OutOfArgument at) = IsSome (fetch code at)
IsMet code (OutOfStack at) = IsSome (fetch code at)

-- A code is refused because its structure is invalid, or because the pass over its instructions met a fault.
abbrev pub IsRefused : List Insn → VerifyFault → Type 0
IsRefused code fault = IsMisbuilt code fault ⊎ (IsBuilt code × IsMet code fault)
