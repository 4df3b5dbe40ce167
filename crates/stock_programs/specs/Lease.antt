-- The lease: the record holds the number of its owner, and the time at which it ends.
use Rattle.std.specs.Prelude.{ℕ, ◌≡◌, ◌≢◌, ◌⊎◌, ◌+◌, ◌-◌, ◌^◌, ◌<◌, ◌≤◌, min, pos, negsuc, List, [], ◌∷◌}
use Rattle.bpf_insn.specs.declared.insn.Width.TheVariants.{W64}
use Rattle.bpf_insn.specs.declared.insn.Size.TheVariants.{Double}
use Rattle.bpf_insn.specs.declared.insn.Op.TheVariants.{Add, Mov}
use Rattle.bpf_insn.specs.declared.insn.Test.TheVariants.{Eq, Ge, Le, Lt}
use Rattle.bpf_insn.specs.declared.insn.Operand.TheVariants.{Imm, Reg}
use Rattle.bpf_insn.specs.declared.insn.Insn.{Insn}
use Rattle.bpf_insn.specs.declared.insn.Insn.TheVariants.{Alu, Branch, Call, Exit, Load, Store}
use Rattle.bpf_helpers.specs.declared.values.Env.{Env}
use Rattle.bpf_helpers.specs.Runs.{Outcome}
use Rattle.stock_programs.specs.Numbers.{number_at, with_number}
use Rattle.stock_programs.specs.Lengths.{HasLengths, IsShort}

-- The instructions of examples/lease.s.
abbrev pub lease : List Insn
lease =
    Branch Lt W64 2 (Imm (pos 16)) (pos 25)
    ∷ Branch Lt W64 4 (Imm (pos 16)) (pos 24)
    ∷ Alu Mov W64 6 (Reg 1)
    ∷ Load Double 7 3 (pos 0)
    ∷ Load Double 8 3 (pos 8)
    ∷ Call (pos 2)
    ∷ Alu Mov W64 9 (Reg 0)
    ∷ Load Double 1 6 (pos 8)
    ∷ Branch Le W64 1 (Reg 9) (pos 5)
    ∷ Load Double 2 6 (pos 0)
    ∷ Branch Eq W64 2 (Reg 7) (pos 3)
    ∷ Call (pos 1)
    ∷ Alu Mov W64 0 (Imm (pos 0))
    ∷ Exit
    -- take
    ∷ Branch Eq W64 8 (Imm (pos 0)) (pos 9)
    ∷ Alu Add W64 8 (Reg 9)
    ∷ Branch Ge W64 8 (Reg 9) (pos 1)
    ∷ Alu Mov W64 8 (Imm (negsuc 0))
    -- write
    ∷ Store Double 6 (pos 0) 7
    ∷ Store Double 6 (pos 8) 8
    ∷ Alu Mov W64 1 (Reg 8)
    ∷ Call (pos 1)
    ∷ Alu Mov W64 0 (Imm (pos 1))
    ∷ Exit
    -- give_back
    ∷ Alu Mov W64 0 (Imm (pos 2))
    ∷ Exit
    -- short
    ∷ Alu Mov W64 0 (Imm (pos 4))
    ∷ Exit
    ∷ []

-- ---- the record and the argument

abbrev pub owner : List ℕ → ℕ
owner bytes = number_at 0 bytes

-- The time at which the lease ends.
abbrev pub until : List ℕ → ℕ
until bytes = number_at 8 bytes

-- The record with another owner and end.
abbrev pub with_lease : List ℕ → ℕ → ℕ → List ℕ
with_lease bytes who end = with_number (with_number bytes 0 who) 8 end

abbrev pub asker : List ℕ → ℕ
asker argument = number_at 0 argument

-- The time for which the asker wants the lease. A term of 0 gives it back.
abbrev pub term : List ℕ → ℕ
term argument = number_at 8 argument

-- ---- the answers

-- The end of a lease granted now: `now` plus the term, at most 2 ^ 64 - 1.
abbrev pub end_of : ℕ → ℕ → ℕ
end_of now n = min (now + n) (2 ^ 64 - 1)

-- The lease has ended, or the asker is its owner.
abbrev pub MayTake : List ℕ → List ℕ → ℕ → Type 0
MayTake bytes argument now = (until bytes ≤ now) ⊎ (owner bytes ≡ asker argument)

-- The asker has the lease until the time in the reply word.
pub record IsGranted (bytes argument : List ℕ) (now : ℕ) (o : Outcome) : Type 0 where
  pub long : HasLengths 16 16 bytes argument
  pub may : MayTake bytes argument now
  pub wanted : term argument ≢ 0
  pub code_is : o.code ≡ 1
  pub word_is : o.word ≡ end_of now (term argument)
  pub bytes_are : o.bytes ≡ with_lease bytes (asker argument) (end_of now (term argument))

-- The lease is given back: code 2 deletes the pair.
pub record IsGivenBack (bytes argument : List ℕ) (now : ℕ) (o : Outcome) : Type 0 where
  pub long : HasLengths 16 16 bytes argument
  pub may : MayTake bytes argument now
  pub unwanted : term argument ≡ 0
  pub code_is : o.code ≡ 2
  pub word_is : o.word ≡ 0
  pub bytes_are : o.bytes ≡ bytes

-- Another owner has the lease until the time in the reply word.
pub record IsRefused (bytes argument : List ℕ) (now : ℕ) (o : Outcome) : Type 0 where
  pub long : HasLengths 16 16 bytes argument
  pub held : now < until bytes
  pub other : owner bytes ≢ asker argument
  pub code_is : o.code ≡ 0
  pub word_is : o.word ≡ until bytes
  pub bytes_are : o.bytes ≡ bytes

abbrev pub Leases : List ℕ → List ℕ → Env → Outcome → Type 0
Leases bytes argument env o =
    IsGranted bytes argument env.now o
    ⊎ (IsGivenBack bytes argument env.now o ⊎ (IsRefused bytes argument env.now o ⊎ IsShort 16 16 bytes argument o))
