-- Bounded add: an amount is added to the number in the record, unless the sum would be above a bound.
use Rattle.std.specs.Prelude.{ℕ, ◌≡◌, ◌⊎◌, ◌+◌, ◌<◌, ◌≤◌, pos, List, [], ◌∷◌}
use Rattle.bpf_insn.specs.declared.insn.Width.TheVariants.{W64}
use Rattle.bpf_insn.specs.declared.insn.Size.TheVariants.{Double}
use Rattle.bpf_insn.specs.declared.insn.Op.TheVariants.{Add, Mov, Sub}
use Rattle.bpf_insn.specs.declared.insn.Test.TheVariants.{Gt, Lt}
use Rattle.bpf_insn.specs.declared.insn.Operand.TheVariants.{Imm, Reg}
use Rattle.bpf_insn.specs.declared.insn.Insn.{Insn}
use Rattle.bpf_insn.specs.declared.insn.Insn.TheVariants.{Alu, Branch, Exit, Load, Store}
use Rattle.bpf_helpers.specs.declared.values.Env.{Env}
use Rattle.bpf_helpers.specs.Runs.{Outcome}
use Rattle.stock_programs.specs.Numbers.{number_at, with_number}
use Rattle.stock_programs.specs.Lengths.{HasLengths, IsShort}

-- The instructions of examples/bounded_add.s.
abbrev pub bounded_add : List Insn
bounded_add =
    Branch Lt W64 2 (Imm (pos 8)) (pos 13)
    ∷ Branch Lt W64 4 (Imm (pos 16)) (pos 12)
    ∷ Load Double 6 1 (pos 0)
    ∷ Load Double 7 3 (pos 0)
    ∷ Load Double 8 3 (pos 8)
    ∷ Branch Gt W64 6 (Reg 8) (pos 6)
    ∷ Alu Sub W64 8 (Reg 6)
    ∷ Branch Gt W64 7 (Reg 8) (pos 4)
    ∷ Alu Add W64 6 (Reg 7)
    ∷ Store Double 1 (pos 0) 6
    ∷ Alu Mov W64 0 (Imm (pos 1))
    ∷ Exit
    -- leave
    ∷ Alu Mov W64 0 (Imm (pos 0))
    ∷ Exit
    -- short
    ∷ Alu Mov W64 0 (Imm (pos 4))
    ∷ Exit
    ∷ []

-- ---- the argument

abbrev pub amount : List ℕ → ℕ
amount argument = number_at 0 argument

abbrev pub bound : List ℕ → ℕ
bound argument = number_at 8 argument

-- ---- the answers

-- The sum is within the bound, and replaces the number.
pub record IsAdded (bytes argument : List ℕ) (o : Outcome) : Type 0 where
  pub long : HasLengths 8 16 bytes argument
  pub within : number_at 0 bytes + amount argument ≤ bound argument
  pub code_is : o.code ≡ 1
  pub word_is : o.word ≡ 0
  pub bytes_are : o.bytes ≡ with_number bytes 0 (number_at 0 bytes + amount argument)

-- The sum is above the bound, and the number is unchanged.
pub record IsTooMuch (bytes argument : List ℕ) (o : Outcome) : Type 0 where
  pub long : HasLengths 8 16 bytes argument
  pub above : bound argument < number_at 0 bytes + amount argument
  pub code_is : o.code ≡ 0
  pub word_is : o.word ≡ 0
  pub bytes_are : o.bytes ≡ bytes

abbrev pub AddsBounded : List ℕ → List ℕ → Env → Outcome → Type 0
AddsBounded bytes argument env o = IsAdded bytes argument o ⊎ (IsTooMuch bytes argument o ⊎ IsShort 8 16 bytes argument o)
