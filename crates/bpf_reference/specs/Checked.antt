-- The answers of the checked machine.
use Rattle.std.specs.Prelude.{ℕ, ◌≡◌, List, Some, None}
use Rattle.bpf_insn.specs.declared.insn.Insn.{Insn}
use Rattle.bpf_helpers.specs.declared.values.Env.{Env}
use Rattle.bpf_helpers.specs.Machine.{Config, exit_code}
use Rattle.bpf_helpers.specs.Runs.{Ends, Sticks}
use Rattle.bpf_helpers.specs.Ends.{outcome_in}
use Rattle.bpf_reference.specs.declared.checked.Checked.{Checked}
use Rattle.bpf_reference.specs.declared.checked.Checked.TheVariants.{Ended, Stuck}

-- The answer is true of the run of a program on a record, an argument and an environment: it says how the run ended, or at which unit it
-- is stuck. The run left the bytes `left` in the record.
abbrev pub Tells : List Insn → List ℕ → List ℕ → Env → Checked → List ℕ → Type 0
Tells program bytes argument env (Ended e) left = Ends program bytes argument env (outcome_in e left)
Tells program bytes argument env (Stuck at) left = Sticks program bytes argument env at left

-- A run stops at the instruction after `steps` instructions: the instruction is EXIT with a number in R0, or the run is stuck there.
abbrev pub Finishes : Insn → Config → ℕ → Checked → Type 0
Finishes insn c steps (Ended e) = (exit_code insn c ≡ Some e.code) × (e.word ≡ c.word) × (e.steps ≡ steps)
Finishes insn c steps (Stuck at) = (exit_code insn c ≡ None) × (at ≡ c.place)
