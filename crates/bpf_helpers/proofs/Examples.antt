-- The results of programs that access memory and call helpers.
use Rattle.std.proofs.Common.{ℕ, ◌≡◌, refl, List, [], ◌∷◌, Some, None}
use Rattle.std.specs.Prelude.{pos, false, replicate}
use Rattle.bpf_insn.specs.declared.insn.Width.TheVariants.{W64}
use Rattle.bpf_insn.specs.declared.insn.Size.TheVariants.{Byte, Half, Word, Double}
use Rattle.bpf_insn.specs.declared.insn.Op.TheVariants.{Add}
use Rattle.bpf_insn.specs.declared.insn.Test.TheVariants.{Lt}
use Rattle.bpf_insn.specs.declared.insn.Operand.TheVariants.{Imm}
use Rattle.bpf_insn.specs.declared.insn.Insn.{Insn}
use Rattle.bpf_insn.specs.declared.insn.Insn.TheVariants.{Alu, Branch, Call, Exit, Load, LoadSigned, Store}
use Rattle.bpf_helpers.specs.Runs.{Ends, run_outcome}
use Rattle.bpf_helpers.proofs.Running.{ends, here, set, move}

-- ---- a counter in the record

abbrev jump_if_short : ℕ → ℕ → Insn
jump_if_short n units = Branch Lt W64 2 (Imm (pos n)) (pos units)

abbrev counter : List Insn
counter =
    jump_if_short 8 5 ∷ Load Double 6 1 (pos 0) ∷ Alu Add W64 6 (Imm (pos 1)) ∷ Store Double 1 (pos 0) 6
    ∷ set 0 (pos 1) ∷ Exit ∷ set 0 (pos 0) ∷ Exit ∷ []

counts : Ends counter (replicate 8 255) [] here (record { code = 1; word = 0; bytes = replicate 8 0; steps = 6 })
counts = ends 5 counter (replicate 8 255) [] here _ refl

-- a record of 7 bytes is too short, and is unchanged
counts_nothing : Ends counter (replicate 7 255) [] here (record { code = 0; word = 0; bytes = replicate 7 255; steps = 3 })
counts_nothing = ends 2 counter (replicate 7 255) [] here _ refl

answers_two : Ends (set 0 (pos 2) ∷ Exit ∷ []) (1 ∷ []) [] here (record { code = 2; word = 0; bytes = 1 ∷ []; steps = 2 })
answers_two = ends 1 _ (1 ∷ []) [] here _ refl

-- ---- sign-extending loads

-- a program that replies a number loaded from the record
abbrev loads : Insn → List Insn
loads load = load ∷ move 1 6 ∷ Call (pos 1) ∷ Exit ∷ []

-- a negative byte, half and word of a record, and a positive one
loaded_byte : Ends (loads (LoadSigned Byte 6 1 (pos 1))) (0 ∷ 128 ∷ []) [] here (record { code = 0; word = 18446744073709551488; bytes = 0 ∷ 128 ∷ []; steps = 4 })
loaded_byte = ends 3 _ (0 ∷ 128 ∷ []) [] here _ refl

loaded_half : Ends (loads (LoadSigned Half 6 1 (pos 0))) (0 ∷ 128 ∷ []) [] here (record { code = 0; word = 18446744073709518848; bytes = 0 ∷ 128 ∷ []; steps = 4 })
loaded_half = ends 3 _ (0 ∷ 128 ∷ []) [] here _ refl

loaded_word : Ends (loads (LoadSigned Word 6 1 (pos 0))) (replicate 4 255) [] here (record { code = 0; word = 18446744073709551615; bytes = replicate 4 255; steps = 4 })
loaded_word = ends 3 _ (replicate 4 255) [] here _ refl

loaded_positive : Ends (loads (LoadSigned Byte 6 1 (pos 0))) (127 ∷ []) [] here (record { code = 0; word = 127; bytes = 127 ∷ []; steps = 4 })
loaded_positive = ends 3 _ (127 ∷ []) [] here _ refl

-- ---- helpers

abbrev replies_helper : ℕ → List Insn
replies_helper id = Call (pos id) ∷ move 1 0 ∷ Call (pos 1) ∷ Exit ∷ []

tells_now : Ends (replies_helper 2) [] [] here (record { code = 0; word = 1700000000; bytes = []; steps = 4 })
tells_now = ends 3 _ [] [] here _ refl

tells_who : Ends (replies_helper 4) [] [] here (record { code = 0; word = 3; bytes = []; steps = 4 })
tells_who = ends 3 _ [] [] here _ refl

tells_present : Ends (replies_helper 3) [] [] here (record { code = 0; word = 1; bytes = []; steps = 4 })
tells_present = ends 3 _ [] [] here _ refl

tells_absent : Ends (replies_helper 3) [] [] (record { now = 0; present = false; who = 0 }) (record { code = 0; word = 0; bytes = []; steps = 4 })
tells_absent = ends 3 _ [] [] _ _ refl

-- ---- copies

abbrev copies_argument : List Insn
copies_argument =
    jump_if_short 8 6 ∷ Branch Lt W64 4 (Imm (pos 8)) (pos 5) ∷ move 2 3 ∷ set 3 (pos 8)
    ∷ Call (pos 5) ∷ set 0 (pos 1) ∷ Exit ∷ set 0 (pos 0) ∷ Exit ∷ []

record_becomes_argument : Ends copies_argument (replicate 8 0) (1 ∷ 2 ∷ 3 ∷ 4 ∷ 5 ∷ 6 ∷ 7 ∷ 8 ∷ []) here (record { code = 1; word = 0; bytes = 1 ∷ 2 ∷ 3 ∷ 4 ∷ 5 ∷ 6 ∷ 7 ∷ 8 ∷ []; steps = 7 })
record_becomes_argument = ends 6 _ (replicate 8 0) _ here _ refl

-- the copied bytes are those before the call, even if the places overlap
overlap : Ends (jump_if_short 3 6 ∷ move 2 1 ∷ Alu Add W64 1 (Imm (pos 1)) ∷ set 3 (pos 2) ∷ Call (pos 5) ∷ set 0 (pos 1) ∷ Exit ∷ set 0 (pos 0) ∷ Exit ∷ [])
    (1 ∷ 2 ∷ 3 ∷ []) [] here (record { code = 1; word = 0; bytes = 1 ∷ 1 ∷ 2 ∷ []; steps = 7 })
overlap = ends 6 _ (1 ∷ 2 ∷ 3 ∷ []) [] here _ refl

-- a copy of no bytes at the end of the record, and its answer
copies_nothing : Ends (Alu Add W64 1 (Imm (pos 1)) ∷ move 2 1 ∷ set 3 (pos 0) ∷ Call (pos 5) ∷ Exit ∷ []) (7 ∷ []) [] here (record { code = 0; word = 0; bytes = 7 ∷ []; steps = 5 })
copies_nothing = ends 4 _ (7 ∷ []) [] here _ refl

-- ---- the outcome, as a function of the program and its input

outcome_counts : run_outcome counter (replicate 8 255) [] here ≡ Some (record { code = 1; word = 0; bytes = replicate 8 0; steps = 6 })
outcome_counts = refl

outcome_counts_nothing : run_outcome counter (replicate 7 255) [] here ≡ Some (record { code = 0; word = 0; bytes = replicate 7 255; steps = 3 })
outcome_counts_nothing = refl

outcome_replies : run_outcome (replies_helper 4) [] [] here ≡ Some (record { code = 0; word = 3; bytes = []; steps = 4 })
outcome_replies = refl

outcome_copies : run_outcome copies_argument (replicate 8 0) (1 ∷ 2 ∷ 3 ∷ 4 ∷ 5 ∷ 6 ∷ 7 ∷ 8 ∷ []) here ≡ Some (record { code = 1; word = 0; bytes = 1 ∷ 2 ∷ 3 ∷ 4 ∷ 5 ∷ 6 ∷ 7 ∷ 8 ∷ []; steps = 7 })
outcome_copies = refl

-- the last instruction is EXIT, and the number of steps is that of instructions
outcome_of_two : run_outcome (set 0 (pos 2) ∷ Exit ∷ []) [] [] here ≡ Some (record { code = 2; word = 0; bytes = []; steps = 2 })
outcome_of_two = refl

-- a stuck run has no outcome: no instruction, no number in R0, a load outside, no instruction after
-- the last
no_program_has_none : run_outcome [] [] [] here ≡ None
no_program_has_none = refl

no_number_has_none : run_outcome (Exit ∷ []) [] [] here ≡ None
no_number_has_none = refl

outside_has_none : run_outcome (Load Byte 0 1 (pos 0) ∷ Exit ∷ []) [] [] here ≡ None
outside_has_none = refl

no_end_has_none : run_outcome (set 0 (pos 2) ∷ []) [] [] here ≡ None
no_end_has_none = refl
