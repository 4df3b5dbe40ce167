-- Compare and set: the number in the record is replaced if it is the expected one.
use Rattle.std.specs.Prelude.{ℕ, ◌≡◌, ◌≢◌, ◌⊎◌, pos, List, [], ◌∷◌}
use Rattle.bpf_insn.specs.declared.insn.Width.TheVariants.{W64}
use Rattle.bpf_insn.specs.declared.insn.Size.TheVariants.{Double}
use Rattle.bpf_insn.specs.declared.insn.Op.TheVariants.{Mov}
use Rattle.bpf_insn.specs.declared.insn.Test.TheVariants.{Lt, Ne}
use Rattle.bpf_insn.specs.declared.insn.Operand.TheVariants.{Imm, Reg}
use Rattle.bpf_insn.specs.declared.insn.Insn.{Insn}
use Rattle.bpf_insn.specs.declared.insn.Insn.TheVariants.{Alu, Branch, Call, Exit, Load, Store}
use Rattle.bpf_helpers.specs.declared.values.Env.{Env}
use Rattle.bpf_helpers.specs.Runs.{Outcome}
use Rattle.stock_programs.specs.Numbers.{number_at, with_number}
use Rattle.stock_programs.specs.Lengths.{HasLengths, IsShort}

-- The instructions of examples/compare_and_set.s.
abbrev pub compare_and_set : List Insn
compare_and_set =
    Branch Lt W64 2 (Imm (pos 8)) (pos 13)
    ∷ Branch Lt W64 4 (Imm (pos 16)) (pos 12)
    ∷ Alu Mov W64 6 (Reg 1)
    ∷ Load Double 7 3 (pos 0)
    ∷ Load Double 8 3 (pos 8)
    ∷ Load Double 9 6 (pos 0)
    ∷ Alu Mov W64 1 (Reg 9)
    ∷ Call (pos 1)
    ∷ Branch Ne W64 9 (Reg 7) (pos 3)
    ∷ Store Double 6 (pos 0) 8
    ∷ Alu Mov W64 0 (Imm (pos 1))
    ∷ Exit
    -- leave
    ∷ Alu Mov W64 0 (Imm (pos 0))
    ∷ Exit
    -- short
    ∷ Alu Mov W64 0 (Imm (pos 4))
    ∷ Exit
    ∷ []

-- ---- the argument

abbrev pub expected : List ℕ → ℕ
expected argument = number_at 0 argument

abbrev pub replacement : List ℕ → ℕ
replacement argument = number_at 8 argument

-- ---- the answers; the reply word is the old number

-- The number was the expected one, and is replaced.
pub record IsSet (bytes argument : List ℕ) (o : Outcome) : Type 0 where
  pub long : HasLengths 8 16 bytes argument
  pub same : number_at 0 bytes ≡ expected argument
  pub code_is : o.code ≡ 1
  pub word_is : o.word ≡ number_at 0 bytes
  pub bytes_are : o.bytes ≡ with_number bytes 0 (replacement argument)

-- The number is not the expected one, and is unchanged.
pub record IsOther (bytes argument : List ℕ) (o : Outcome) : Type 0 where
  pub long : HasLengths 8 16 bytes argument
  pub other : number_at 0 bytes ≢ expected argument
  pub code_is : o.code ≡ 0
  pub word_is : o.word ≡ number_at 0 bytes
  pub bytes_are : o.bytes ≡ bytes

abbrev pub ComparesAndSets : List ℕ → List ℕ → Env → Outcome → Type 0
ComparesAndSets bytes argument env o = IsSet bytes argument o ⊎ (IsOther bytes argument o ⊎ IsShort 8 16 bytes argument o)
