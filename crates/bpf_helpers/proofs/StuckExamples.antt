-- Programs that get stuck, and the unit at which they do.
use Rattle.std.proofs.Common.{refl, List, [], ◌∷◌}
use Rattle.std.specs.Prelude.{pos, negsuc, replicate}
use Rattle.bpf_insn.specs.declared.insn.Width.TheVariants.{W32, W64}
use Rattle.bpf_insn.specs.declared.insn.Size.TheVariants.{Byte, Half, Double}
use Rattle.bpf_insn.specs.declared.insn.Op.TheVariants.{Add, Sub, Mul, Mov}
use Rattle.bpf_insn.specs.declared.insn.Test.TheVariants.{Eq, Lt}
use Rattle.bpf_insn.specs.declared.insn.Operand.TheVariants.{Imm, Reg}
use Rattle.bpf_insn.specs.declared.insn.Insn.{Insn}
use Rattle.bpf_insn.specs.declared.insn.Insn.TheVariants.{Alu, Branch, Jump, JumpFar, Call, Exit, Load, LoadSigned, Store, StoreImm, Wide}
use Rattle.bpf_helpers.specs.Runs.{Ends, Sticks}
use Rattle.bpf_helpers.proofs.Running.{ends, stops, here, set, move}

-- an instruction followed by the end
abbrev lone : Insn → List Insn
lone i = i ∷ set 0 (pos 0) ∷ Exit ∷ []

-- stuck at the unit 0, with a record and an argument of one byte each
abbrev SticksAtOnce : List Insn → Type 0
SticksAtOnce program = Sticks program (7 ∷ []) (9 ∷ []) here 0 (7 ∷ [])

-- stuck after one instruction
abbrev SticksNext : List Insn → Type 0
SticksNext program = Sticks program (7 ∷ []) (9 ∷ []) here 1 (7 ∷ [])

empty : SticksAtOnce []
empty = stops 0 _ _ _ _ _ refl refl refl

unset_register : SticksAtOnce (lone (move 0 6))
unset_register = stops 0 _ _ _ _ _ refl refl refl

frame_written : SticksAtOnce (lone (set 10 (pos 0)))
frame_written = stops 0 _ _ _ _ _ refl refl refl

frame_loaded : SticksAtOnce (lone (Load Byte 10 1 (pos 0)))
frame_loaded = stops 0 _ _ _ _ _ refl refl refl

frame_loaded_with_sign : SticksAtOnce (lone (LoadSigned Byte 10 1 (pos 0)))
frame_loaded_with_sign = stops 0 _ _ _ _ _ refl refl refl

frame_from_a_constant : SticksAtOnce (lone (Wide 10 1))
frame_from_a_constant = stops 0 _ _ _ _ _ refl refl refl

pointer_multiplied : SticksAtOnce (lone (Alu Mul W64 1 (Imm (pos 2))))
pointer_multiplied = stops 0 _ _ _ _ _ refl refl refl

pointer_compared : SticksAtOnce (lone (Branch Lt W64 1 (Imm (pos 2)) (pos 0)))
pointer_compared = stops 0 _ _ _ _ _ refl refl refl

pointer_copied_by_32_bits : SticksAtOnce (lone (Alu Mov W32 6 (Reg 1)))
pointer_copied_by_32_bits = stops 0 _ _ _ _ _ refl refl refl

pointer_stored : SticksAtOnce (lone (Store Double 10 (negsuc 7) 1))
pointer_stored = stops 0 _ _ _ _ _ refl refl refl

pointer_moved_too_far : SticksAtOnce (lone (Alu Add W64 1 (Imm (pos 65537))))
pointer_moved_too_far = stops 0 _ _ _ _ _ refl refl refl

pointer_moved_back_too_far : SticksAtOnce (lone (Alu Sub W64 1 (Imm (pos 65537))))
pointer_moved_back_too_far = stops 0 _ _ _ _ _ refl refl refl

-- a pointer may move 65,536 bytes to either side
moved_forth : Ends (Alu Add W64 1 (Imm (pos 65536)) ∷ set 0 (pos 0) ∷ Exit ∷ []) [] [] here (record { code = 0; word = 0; bytes = []; steps = 3 })
moved_forth = ends 2 _ [] [] here _ refl

moved_back : Ends (Alu Sub W64 1 (Imm (pos 65536)) ∷ set 0 (pos 0) ∷ Exit ∷ []) [] [] here (record { code = 0; word = 0; bytes = []; steps = 3 })
moved_back = ends 2 _ [] [] here _ refl

sum_of_pointers : SticksAtOnce (lone (Alu Add W64 1 (Reg 3)))
sum_of_pointers = stops 0 _ _ _ _ _ refl refl refl

difference_of_pointers : SticksAtOnce (lone (Alu Sub W64 1 (Reg 1)))
difference_of_pointers = stops 0 _ _ _ _ _ refl refl refl

pointer_from_a_number : SticksAtOnce (lone (Alu Sub W64 2 (Reg 1)))
pointer_from_a_number = stops 0 _ _ _ _ _ refl refl refl

number_as_address : SticksAtOnce (lone (Load Byte 6 2 (pos 0)))
number_as_address = stops 0 _ _ _ _ _ refl refl refl

past_the_record : SticksAtOnce (lone (Load Byte 6 1 (pos 1)))
past_the_record = stops 0 _ _ _ _ _ refl refl refl

past_the_argument : SticksAtOnce (lone (Load Half 6 3 (pos 0)))
past_the_argument = stops 0 _ _ _ _ _ refl refl refl

above_the_stack : SticksAtOnce (lone (Load Byte 6 10 (pos 0)))
above_the_stack = stops 0 _ _ _ _ _ refl refl refl

below_the_stack : SticksAtOnce (lone (Load Byte 6 10 (negsuc 512)))
below_the_stack = stops 0 _ _ _ _ _ refl refl refl

argument_written : SticksAtOnce (lone (StoreImm Byte 3 (pos 0) (pos 1)))
argument_written = stops 0 _ _ _ _ _ refl refl refl

out_of_the_code : SticksAtOnce (Jump (pos 1) ∷ Exit ∷ [])
out_of_the_code = stops 0 _ _ _ _ _ refl refl refl

into_a_constant : SticksAtOnce (Jump (pos 1) ∷ Wide 0 1 ∷ Exit ∷ [])
into_a_constant = stops 0 _ _ _ _ _ refl refl refl

backward : SticksNext (set 0 (pos 0) ∷ Jump (negsuc 1) ∷ Exit ∷ [])
backward = stops 1 _ _ _ _ _ refl refl refl

branch_backward : SticksNext (set 0 (pos 0) ∷ Branch Eq W64 0 (Imm (pos 0)) (negsuc 1) ∷ Exit ∷ [])
branch_backward = stops 1 _ _ _ _ _ refl refl refl

far_backward : SticksNext (set 0 (pos 0) ∷ JumpFar (negsuc 1) ∷ Exit ∷ [])
far_backward = stops 1 _ _ _ _ _ refl refl refl

no_helper : SticksAtOnce (lone (Call (pos 9)))
no_helper = stops 0 _ _ _ _ _ refl refl refl

pointer_replied : SticksAtOnce (lone (Call (pos 1)))
pointer_replied = stops 0 _ _ _ _ _ refl refl refl

pointer_at_the_end : SticksNext (move 0 1 ∷ Exit ∷ [])
pointer_at_the_end = stops 1 _ _ _ _ _ refl refl refl

no_exit : SticksAtOnce (set 0 (pos 0) ∷ [])
no_exit = stops 0 _ _ _ _ _ refl refl refl

-- a call leaves R1 unset
unset_by_a_call : SticksNext (Call (pos 2) ∷ move 0 1 ∷ Exit ∷ [])
unset_by_a_call = stops 1 _ _ _ _ _ refl refl refl

copy_from_a_number : SticksAtOnce (lone (Call (pos 5)))
copy_from_a_number = stops 0 _ _ _ _ _ refl refl refl

copy_from_above_the_stack : Sticks (move 2 10 ∷ set 3 (pos 1) ∷ lone (Call (pos 5))) (7 ∷ []) [] here 2 (7 ∷ [])
copy_from_above_the_stack = stops 2 _ _ _ _ _ refl refl refl

copy_of_too_many : Sticks (move 2 1 ∷ set 3 (pos 1025) ∷ lone (Call (pos 5))) (replicate 2000 0) [] here 2 (replicate 2000 0)
copy_of_too_many = stops 2 _ _ _ _ _ refl refl refl

copy_to_the_argument : Sticks (move 2 1 ∷ move 1 3 ∷ set 3 (pos 0) ∷ lone (Call (pos 5))) (7 ∷ []) (9 ∷ []) here 3 (7 ∷ [])
copy_to_the_argument = stops 3 _ _ _ _ _ refl refl refl

-- a copy of no bytes from one past the record's end
copy_of_nothing_past_the_end : Sticks (Alu Add W64 1 (Imm (pos 2)) ∷ move 2 1 ∷ set 3 (pos 0) ∷ lone (Call (pos 5))) (7 ∷ []) [] here 3 (7 ∷ [])
copy_of_nothing_past_the_end = stops 3 _ _ _ _ _ refl refl refl
