-- The token bucket, counted in time: the record holds the time at which the bucket is full again.
use Rattle.std.specs.Prelude.{ℕ, ◌≡◌, ◌⊎◌, ◌+◌, ◌-◌, ◌^◌, ◌<◌, ◌≤◌, max, pos, negsuc, List, [], ◌∷◌}
use Rattle.bpf_insn.specs.declared.insn.Width.TheVariants.{W64}
use Rattle.bpf_insn.specs.declared.insn.Size.TheVariants.{Double}
use Rattle.bpf_insn.specs.declared.insn.Op.TheVariants.{Add, Mov, Sub}
use Rattle.bpf_insn.specs.declared.insn.Test.TheVariants.{Ge, Gt, Lt}
use Rattle.bpf_insn.specs.declared.insn.Operand.TheVariants.{Imm, Reg}
use Rattle.bpf_insn.specs.declared.insn.Insn.{Insn}
use Rattle.bpf_insn.specs.declared.insn.Insn.TheVariants.{Alu, Branch, Call, Exit, Load, Store}
use Rattle.bpf_helpers.specs.declared.values.Env.{Env}
use Rattle.bpf_helpers.specs.Runs.{Outcome}
use Rattle.stock_programs.specs.Numbers.{number_at, with_number}
use Rattle.stock_programs.specs.Lengths.{HasLengths, IsShort}

-- The instructions of examples/token_bucket.s.
abbrev pub token_bucket : List Insn
token_bucket =
    Branch Lt W64 2 (Imm (pos 8)) (pos 29)
    ∷ Branch Lt W64 4 (Imm (pos 16)) (pos 28)
    ∷ Alu Mov W64 6 (Reg 1)
    ∷ Load Double 7 3 (pos 0)
    ∷ Load Double 8 3 (pos 8)
    ∷ Call (pos 2)
    ∷ Load Double 9 6 (pos 0)
    ∷ Branch Ge W64 9 (Reg 0) (pos 1)
    ∷ Alu Mov W64 9 (Reg 0)
    -- take
    ∷ Branch Gt W64 7 (Reg 8) (pos 16)
    ∷ Alu Sub W64 8 (Reg 7)
    ∷ Alu Mov W64 1 (Reg 9)
    ∷ Alu Sub W64 1 (Reg 0)
    ∷ Branch Gt W64 1 (Reg 8) (pos 8)
    ∷ Alu Sub W64 8 (Reg 1)
    ∷ Alu Add W64 7 (Reg 9)
    ∷ Branch Lt W64 7 (Reg 9) (pos 9)
    ∷ Store Double 6 (pos 0) 7
    ∷ Alu Mov W64 1 (Reg 8)
    ∷ Call (pos 1)
    ∷ Alu Mov W64 0 (Imm (pos 1))
    ∷ Exit
    -- wait
    ∷ Alu Sub W64 1 (Reg 8)
    ∷ Call (pos 1)
    ∷ Alu Mov W64 0 (Imm (pos 0))
    ∷ Exit
    -- never
    ∷ Alu Mov W64 1 (Imm (negsuc 0))
    ∷ Call (pos 1)
    ∷ Alu Mov W64 0 (Imm (pos 0))
    ∷ Exit
    -- short
    ∷ Alu Mov W64 0 (Imm (pos 4))
    ∷ Exit
    ∷ []

-- ---- the record and the argument

abbrev pub full_at : List ℕ → ℕ
full_at bytes = number_at 0 bytes

-- The cost and the capacity, each as the time in which it flows in.
abbrev pub cost : List ℕ → ℕ
cost argument = number_at 0 argument

abbrev pub capacity : List ℕ → ℕ
capacity argument = number_at 8 argument

-- ---- the answers

-- The time at which the bucket is full, but not before now.
abbrev pub start_at : List ℕ → ℕ → ℕ
start_at bytes now = max (full_at bytes) now

-- The cost is taken. The reply word is the amount left.
pub record IsPoured (bytes argument : List ℕ) (now : ℕ) (o : Outcome) : Type 0 where
  pub long : HasLengths 8 16 bytes argument
  pub enough : start_at bytes now + cost argument ≤ now + capacity argument
  pub small : start_at bytes now + cost argument < 2 ^ 64
  pub code_is : o.code ≡ 1
  pub word_is : o.word ≡ now + capacity argument - (start_at bytes now + cost argument)
  pub bytes_are : o.bytes ≡ with_number bytes 0 (start_at bytes now + cost argument)

-- The bucket holds too little now. The reply word is the time to wait.
pub record IsTooLittle (bytes argument : List ℕ) (now : ℕ) (o : Outcome) : Type 0 where
  pub long : HasLengths 8 16 bytes argument
  pub possible : cost argument ≤ capacity argument
  pub little : now + capacity argument < start_at bytes now + cost argument
  pub code_is : o.code ≡ 0
  pub word_is : o.word ≡ start_at bytes now + cost argument - (now + capacity argument)
  pub bytes_are : o.bytes ≡ bytes

-- The cost can never be taken: it is above the capacity, or the new time does not fit in 64 bits.
pub record IsNever (bytes argument : List ℕ) (now : ℕ) (o : Outcome) : Type 0 where
  pub long : HasLengths 8 16 bytes argument
  pub never : (capacity argument < cost argument) ⊎ (2 ^ 64 ≤ start_at bytes now + cost argument)
  pub code_is : o.code ≡ 0
  pub word_is : o.word ≡ 2 ^ 64 - 1
  pub bytes_are : o.bytes ≡ bytes

abbrev pub Pours : List ℕ → List ℕ → Env → Outcome → Type 0
Pours bytes argument env o =
    IsPoured bytes argument env.now o ⊎ (IsTooLittle bytes argument env.now o ⊎ (IsNever bytes argument env.now o ⊎ IsShort 8 16 bytes argument o))
