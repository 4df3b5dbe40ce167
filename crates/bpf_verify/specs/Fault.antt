-- The faults of instructions that are reached, and the text of a fault.
use Rattle.std.specs.Prelude.{ℕ, List, Option, Some, None, codes}
use Rattle.bpf_insn.specs.Decoding.{with_place}
use Rattle.bpf_flow.specs.declared.fault.FlowFault.{FlowFault}
use Rattle.bpf_flow.specs.declared.fault.FlowFault.TheVariants as flow
use Rattle.bpf_verify.specs.declared.fault.VerifyFault.{VerifyFault}
use Rattle.bpf_verify.specs.declared.fault.VerifyFault.TheVariants.{NoMemory, Empty, FrameWritten, NoHelper, Backward, JumpOut, JumpIntoWide, FallsOff, Unset, HelperArgument, ExitNotNumber, NotPointer, PointerOp, PointerRange, PointerStored, ArgumentWritten, OutOfRecord, OutOfArgument, OutOfStack}

-- the fault of an instruction, with its unit
abbrev pub placed_fault : FlowFault → ℕ → VerifyFault
placed_fault flow.Unset at = Unset at
placed_fault flow.HelperArgument at = HelperArgument at
placed_fault flow.ExitNotNumber at = ExitNotNumber at
placed_fault flow.NotPointer at = NotPointer at
placed_fault flow.PointerOp at = PointerOp at
placed_fault flow.PointerRange at = PointerRange at
placed_fault flow.PointerStored at = PointerStored at
placed_fault flow.ArgumentWritten at = ArgumentWritten at
placed_fault flow.OutOfRecord at = OutOfRecord at
placed_fault flow.OutOfArgument at = OutOfArgument at
placed_fault flow.OutOfStack at = OutOfStack at

-- the unit that a fault names
abbrev pub place_of : VerifyFault → Option ℕ
place_of NoMemory = None
place_of Empty = None
place_of (FrameWritten at) = Some at
place_of (NoHelper at) = Some at
place_of (Backward at) = Some at
place_of (JumpOut at) = Some at
place_of (JumpIntoWide at) = Some at
place_of (FallsOff at) = Some at
place_of (Unset at) = Some at
place_of (HelperArgument at) = Some at
place_of (ExitNotNumber at) = Some at
place_of (NotPointer at) = Some at
place_of (PointerOp at) = Some at
place_of (PointerRange at) = Some at
place_of (PointerStored at) = Some at
place_of (ArgumentWritten at) = Some at
place_of (OutOfRecord at) = Some at
place_of (OutOfArgument at) = Some at
place_of (OutOfStack at) = Some at

-- a name, followed by a unit in brackets if there is one
abbrev pub placed_text : List ℕ → Option ℕ → List ℕ
placed_text name None = name
placed_text name (Some at) = with_place name at

-- A fault's text: its name, and its unit in brackets.
abbrev pub fault_text : VerifyFault → List ℕ
fault_text NoMemory = codes "NoMemory"
fault_text Empty = codes "Empty"
fault_text (FrameWritten at) = with_place (codes "FrameWritten") at
fault_text (NoHelper at) = with_place (codes "NoHelper") at
fault_text (Backward at) = with_place (codes "Backward") at
fault_text (JumpOut at) = with_place (codes "JumpOut") at
fault_text (JumpIntoWide at) = with_place (codes "JumpIntoWide") at
fault_text (FallsOff at) = with_place (codes "FallsOff") at
fault_text (Unset at) = with_place (codes "Unset") at
fault_text (HelperArgument at) = with_place (codes "HelperArgument") at
fault_text (ExitNotNumber at) = with_place (codes "ExitNotNumber") at
fault_text (NotPointer at) = with_place (codes "NotPointer") at
fault_text (PointerOp at) = with_place (codes "PointerOp") at
fault_text (PointerRange at) = with_place (codes "PointerRange") at
fault_text (PointerStored at) = with_place (codes "PointerStored") at
fault_text (ArgumentWritten at) = with_place (codes "ArgumentWritten") at
fault_text (OutOfRecord at) = with_place (codes "OutOfRecord") at
fault_text (OutOfArgument at) = with_place (codes "OutOfArgument") at
fault_text (OutOfStack at) = with_place (codes "OutOfStack") at
