-- The counter adds 1 to the number in the first 8 bytes of the record.
use Rattle.std.specs.Prelude.{ℕ, ◌≡◌, ◌⊎◌, ◌+◌, ◌%◌, ◌^◌, pos, List, [], ◌∷◌}
use Rattle.bpf_insn.specs.declared.insn.Width.TheVariants.{W64}
use Rattle.bpf_insn.specs.declared.insn.Size.TheVariants.{Double}
use Rattle.bpf_insn.specs.declared.insn.Op.TheVariants.{Add, Mov}
use Rattle.bpf_insn.specs.declared.insn.Test.TheVariants.{Lt}
use Rattle.bpf_insn.specs.declared.insn.Operand.TheVariants.{Imm}
use Rattle.bpf_insn.specs.declared.insn.Insn.{Insn}
use Rattle.bpf_insn.specs.declared.insn.Insn.TheVariants.{Alu, Branch, Exit, Load, Store}
use Rattle.bpf_helpers.specs.declared.values.Env.{Env}
use Rattle.bpf_helpers.specs.Runs.{Outcome}
use Rattle.stock_programs.specs.Numbers.{number_at, with_number}
use Rattle.stock_programs.specs.Lengths.{HasLengths, IsShort}

-- The instructions of examples/counter.s.
abbrev pub counter : List Insn
counter =
    Branch Lt W64 2 (Imm (pos 8)) (pos 5)
    ∷ Load Double 6 1 (pos 0)
    ∷ Alu Add W64 6 (Imm (pos 1))
    ∷ Store Double 1 (pos 0) 6
    ∷ Alu Mov W64 0 (Imm (pos 1))
    ∷ Exit
    -- short
    ∷ Alu Mov W64 0 (Imm (pos 4))
    ∷ Exit
    ∷ []

-- The number is greater by 1, modulo 2 ^ 64.
pub record IsCounted (bytes argument : List ℕ) (o : Outcome) : Type 0 where
  pub long : HasLengths 8 0 bytes argument
  pub code_is : o.code ≡ 1
  pub word_is : o.word ≡ 0
  pub bytes_are : o.bytes ≡ with_number bytes 0 ((number_at 0 bytes + 1) % 2 ^ 64)

abbrev pub Counts : List ℕ → List ℕ → Env → Outcome → Type 0
Counts bytes argument env o = IsCounted bytes argument o ⊎ IsShort 8 0 bytes argument o
