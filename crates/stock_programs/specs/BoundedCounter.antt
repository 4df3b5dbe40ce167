-- The bounded counter: a signed amount is added to the number in the record, unless the sum would be below a floor or above a ceiling.
use Rattle.std.specs.Prelude.{ℕ, ◌≡◌, ◌⊎◌, ◌+◌, ◌-◌, ◌^◌, ◌<◌, ◌≤◌, pos, negsuc, List, [], ◌∷◌}
use Rattle.bpf_insn.specs.declared.insn.Width.TheVariants.{W64}
use Rattle.bpf_insn.specs.declared.insn.Size.TheVariants.{Double}
use Rattle.bpf_insn.specs.declared.insn.Op.TheVariants.{Add, Mov, Rsh}
use Rattle.bpf_insn.specs.declared.insn.Test.TheVariants.{Ge, Gt, Lt}
use Rattle.bpf_insn.specs.declared.insn.Operand.TheVariants.{Imm, Reg}
use Rattle.bpf_insn.specs.declared.insn.Insn.{Insn}
use Rattle.bpf_insn.specs.declared.insn.Insn.TheVariants.{Alu, Branch, Call, Exit, Jump, Load, Store}
use Rattle.bpf_helpers.specs.declared.values.Env.{Env}
use Rattle.bpf_helpers.specs.Runs.{Outcome}
use Rattle.stock_programs.specs.Numbers.{number_at, with_number}
use Rattle.stock_programs.specs.Lengths.{HasLengths, IsShort}

-- The instructions of examples/bounded_counter.s.
abbrev pub bounded_counter : List Insn
bounded_counter =
    Branch Lt W64 2 (Imm (pos 8)) (pos 25)
    ∷ Branch Lt W64 4 (Imm (pos 24)) (pos 24)
    ∷ Alu Mov W64 6 (Reg 1)
    ∷ Load Double 7 6 (pos 0)
    ∷ Load Double 8 3 (pos 0)
    ∷ Load Double 9 3 (pos 8)
    ∷ Load Double 5 3 (pos 16)
    ∷ Alu Mov W64 0 (Imm (negsuc 0))
    ∷ Alu Rsh W64 0 (Imm (pos 1))
    ∷ Branch Gt W64 8 (Reg 0) (pos 3)
    ∷ Alu Add W64 8 (Reg 7)
    ∷ Branch Lt W64 8 (Reg 7) (pos 10)
    ∷ Jump (pos 2)
    -- down
    ∷ Alu Add W64 8 (Reg 7)
    ∷ Branch Ge W64 8 (Reg 7) (pos 7)
    -- test
    ∷ Branch Lt W64 8 (Reg 9) (pos 6)
    ∷ Branch Gt W64 8 (Reg 5) (pos 5)
    ∷ Store Double 6 (pos 0) 8
    ∷ Alu Mov W64 1 (Reg 8)
    ∷ Call (pos 1)
    ∷ Alu Mov W64 0 (Imm (pos 1))
    ∷ Exit
    -- refuse
    ∷ Alu Mov W64 1 (Reg 7)
    ∷ Call (pos 1)
    ∷ Alu Mov W64 0 (Imm (pos 0))
    ∷ Exit
    -- short
    ∷ Alu Mov W64 0 (Imm (pos 4))
    ∷ Exit
    ∷ []

-- ---- the argument

-- The amount in two's complement: 2 ^ 63 and above are negative.
abbrev pub amount : List ℕ → ℕ
amount argument = number_at 0 argument

abbrev pub floor : List ℕ → ℕ
floor argument = number_at 8 argument

abbrev pub ceiling : List ℕ → ℕ
ceiling argument = number_at 16 argument

-- ---- the answers

-- The sum of a number and a signed amount of 64 bits is this number.
abbrev pub SumIs : ℕ → ℕ → ℕ → Type 0
SumIs number amount sum = ((amount < 2 ^ 63) × (number + amount ≡ sum)) ⊎ ((2 ^ 63 ≤ amount) × (number ≡ sum + (2 ^ 64 - amount)))

-- The sum is at least the floor and at most the ceiling.
pub record IsWithin (bytes argument : List ℕ) (sum : ℕ) : Type 0 where
  pub is : SumIs (number_at 0 bytes) (amount argument) sum
  pub low : floor argument ≤ sum
  pub high : sum ≤ ceiling argument

-- The sum replaces the number, and is the reply word.
pub record IsMoved (bytes argument : List ℕ) (o : Outcome) : Type 0 where
  pub long : HasLengths 8 24 bytes argument
  pub within : IsWithin bytes argument o.word
  pub code_is : o.code ≡ 1
  pub bytes_are : o.bytes ≡ with_number bytes 0 o.word

-- The sum is below the floor or above the ceiling. The number is unchanged, and is the reply word.
pub record IsOutside (bytes argument : List ℕ) (o : Outcome) : Type 0 where
  pub long : HasLengths 8 24 bytes argument
  pub outside : (sum : ℕ) → IsWithin bytes argument sum → ⊥
  pub code_is : o.code ≡ 0
  pub word_is : o.word ≡ number_at 0 bytes
  pub bytes_are : o.bytes ≡ bytes

abbrev pub CountsWithin : List ℕ → List ℕ → Env → Outcome → Type 0
CountsWithin bytes argument env o = IsMoved bytes argument o ⊎ (IsOutside bytes argument o ⊎ IsShort 8 24 bytes argument o)
