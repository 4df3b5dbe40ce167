-- The lease with a fencing token: the record holds its owner, the time at which it ends, and the last token.
use Rattle.std.specs.Prelude.{ℕ, ◌≡◌, ◌≢◌, ◌⊎◌, ◌+◌, ◌^◌, ◌<◌, ◌≤◌, pos, negsuc, List, [], ◌∷◌}
use Rattle.bpf_insn.specs.declared.insn.Width.TheVariants.{W64}
use Rattle.bpf_insn.specs.declared.insn.Size.TheVariants.{Double}
use Rattle.bpf_insn.specs.declared.insn.Op.TheVariants.{Add, Mov}
use Rattle.bpf_insn.specs.declared.insn.Test.TheVariants.{Eq, Ge, Le, Lt}
use Rattle.bpf_insn.specs.declared.insn.Operand.TheVariants.{Imm, Reg}
use Rattle.bpf_insn.specs.declared.insn.Insn.{Insn}
use Rattle.bpf_insn.specs.declared.insn.Insn.TheVariants.{Alu, Branch, Call, Exit, Jump, Load, Store, StoreImm}
use Rattle.bpf_helpers.specs.declared.values.Env.{Env}
use Rattle.bpf_helpers.specs.Runs.{Outcome}
use Rattle.stock_programs.specs.Numbers.{number_at, with_number}
use Rattle.stock_programs.specs.Lengths.{HasLengths, IsShort}
use Rattle.stock_programs.specs.Lease.{owner, until, asker, term, end_of, MayTake}

-- The instructions of examples/fenced_lease.s.
abbrev pub fenced_lease : List Insn
fenced_lease =
    Branch Lt W64 2 (Imm (pos 24)) (pos 35)
    ∷ Branch Lt W64 4 (Imm (pos 16)) (pos 34)
    ∷ Alu Mov W64 6 (Reg 1)
    ∷ Load Double 7 3 (pos 0)
    ∷ Load Double 8 3 (pos 8)
    ∷ Call (pos 2)
    ∷ Alu Mov W64 9 (Reg 0)
    ∷ Load Double 1 6 (pos 8)
    ∷ Branch Le W64 1 (Reg 9) (pos 5)
    ∷ Load Double 2 6 (pos 0)
    ∷ Branch Eq W64 2 (Reg 7) (pos 10)
    ∷ Call (pos 1)
    ∷ Alu Mov W64 0 (Imm (pos 0))
    ∷ Exit
    -- free
    ∷ Branch Eq W64 8 (Imm (pos 0)) (pos 16)
    ∷ Load Double 2 6 (pos 16)
    ∷ Alu Add W64 2 (Imm (pos 1))
    ∷ Branch Eq W64 2 (Imm (pos 0)) (pos 16)
    ∷ Store Double 6 (pos 0) 7
    ∷ Store Double 6 (pos 16) 2
    ∷ Jump (pos 2)
    -- own
    ∷ Branch Eq W64 8 (Imm (pos 0)) (pos 9)
    ∷ Load Double 2 6 (pos 16)
    -- grant
    ∷ Alu Add W64 8 (Reg 9)
    ∷ Branch Ge W64 8 (Reg 9) (pos 1)
    ∷ Alu Mov W64 8 (Imm (negsuc 0))
    -- write
    ∷ Store Double 6 (pos 8) 8
    ∷ Alu Mov W64 1 (Reg 2)
    ∷ Call (pos 1)
    ∷ Alu Mov W64 0 (Imm (pos 1))
    ∷ Exit
    -- give_back
    ∷ StoreImm Double 6 (pos 8) (pos 0)
    ∷ Alu Mov W64 0 (Imm (pos 1))
    ∷ Exit
    -- used_up
    ∷ Alu Mov W64 0 (Imm (pos 3))
    ∷ Exit
    -- short
    ∷ Alu Mov W64 0 (Imm (pos 4))
    ∷ Exit
    ∷ []

-- ---- the record

-- The last token that was given out; 0 if there was none.
abbrev pub token : List ℕ → ℕ
token bytes = number_at 16 bytes

-- The record with another owner and token.
abbrev pub with_owner : List ℕ → ℕ → ℕ → List ℕ
with_owner bytes who new = with_number (with_number bytes 0 who) 16 new

-- ---- the answers

-- The lease has ended. The asker has it now, with a token greater than all earlier ones.
pub record IsTaken (bytes argument : List ℕ) (now : ℕ) (o : Outcome) : Type 0 where
  pub long : HasLengths 24 16 bytes argument
  pub ended : until bytes ≤ now
  pub wanted : term argument ≢ 0
  pub left : token bytes + 1 < 2 ^ 64
  pub code_is : o.code ≡ 1
  pub word_is : o.word ≡ token bytes + 1
  pub bytes_are : o.bytes ≡ with_number (with_owner bytes (asker argument) (token bytes + 1)) 8 (end_of now (term argument))

-- The asker already has the lease, and keeps the token. The end is new.
pub record IsRenewed (bytes argument : List ℕ) (now : ℕ) (o : Outcome) : Type 0 where
  pub long : HasLengths 24 16 bytes argument
  pub held : now < until bytes
  pub own : owner bytes ≡ asker argument
  pub wanted : term argument ≢ 0
  pub code_is : o.code ≡ 1
  pub word_is : o.word ≡ token bytes
  pub bytes_are : o.bytes ≡ with_number bytes 8 (end_of now (term argument))

-- The asker ends the lease, and the token stays in the record.
pub record IsFreed (bytes argument : List ℕ) (now : ℕ) (o : Outcome) : Type 0 where
  pub long : HasLengths 24 16 bytes argument
  pub may : MayTake bytes argument now
  pub unwanted : term argument ≡ 0
  pub code_is : o.code ≡ 1
  pub word_is : o.word ≡ 0
  pub bytes_are : o.bytes ≡ with_number bytes 8 0

-- Another owner has the lease until the time in the reply word.
pub record IsHeld (bytes argument : List ℕ) (now : ℕ) (o : Outcome) : Type 0 where
  pub long : HasLengths 24 16 bytes argument
  pub held : now < until bytes
  pub other : owner bytes ≢ asker argument
  pub code_is : o.code ≡ 0
  pub word_is : o.word ≡ until bytes
  pub bytes_are : o.bytes ≡ bytes

-- No token is left.
pub record IsUsedUp (bytes argument : List ℕ) (now : ℕ) (o : Outcome) : Type 0 where
  pub long : HasLengths 24 16 bytes argument
  pub ended : until bytes ≤ now
  pub wanted : term argument ≢ 0
  pub last : token bytes + 1 ≡ 2 ^ 64
  pub code_is : o.code ≡ 3
  pub word_is : o.word ≡ 0
  pub bytes_are : o.bytes ≡ bytes

abbrev pub LeasesFenced : List ℕ → List ℕ → Env → Outcome → Type 0
LeasesFenced bytes argument env o =
    IsTaken bytes argument env.now o
    ⊎ (IsRenewed bytes argument env.now o
    ⊎ (IsFreed bytes argument env.now o ⊎ (IsHeld bytes argument env.now o ⊎ (IsUsedUp bytes argument env.now o ⊎ IsShort 24 16 bytes argument o))))
