-- The semaphore: the record holds the number of holders. A run takes a permit or gives one back.
use Rattle.std.specs.Prelude.{ℕ, ◌≡◌, ◌≢◌, ◌⊎◌, ◌+◌, ◌-◌, ◌<◌, ◌≤◌, pos, List, [], ◌∷◌}
use Rattle.bpf_insn.specs.declared.insn.Width.TheVariants.{W64}
use Rattle.bpf_insn.specs.declared.insn.Size.TheVariants.{Double}
use Rattle.bpf_insn.specs.declared.insn.Op.TheVariants.{Add, Mov, Sub}
use Rattle.bpf_insn.specs.declared.insn.Test.TheVariants.{Eq, Ge, Lt}
use Rattle.bpf_insn.specs.declared.insn.Operand.TheVariants.{Imm, Reg}
use Rattle.bpf_insn.specs.declared.insn.Insn.{Insn}
use Rattle.bpf_insn.specs.declared.insn.Insn.TheVariants.{Alu, Branch, Call, Exit, Jump, Load, Store}
use Rattle.bpf_helpers.specs.declared.values.Env.{Env}
use Rattle.bpf_helpers.specs.Runs.{Outcome}
use Rattle.stock_programs.specs.Numbers.{number_at, with_number}
use Rattle.stock_programs.specs.Lengths.{HasLengths, IsShort}

-- The instructions of examples/semaphore.s.
abbrev pub semaphore : List Insn
semaphore =
    Branch Lt W64 2 (Imm (pos 8)) (pos 20)
    ∷ Branch Lt W64 4 (Imm (pos 16)) (pos 19)
    ∷ Alu Mov W64 6 (Reg 1)
    ∷ Load Double 7 6 (pos 0)
    ∷ Load Double 8 3 (pos 0)
    ∷ Load Double 9 3 (pos 8)
    ∷ Branch Eq W64 8 (Imm (pos 0)) (pos 3)
    ∷ Branch Ge W64 7 (Reg 9) (pos 9)
    ∷ Alu Add W64 7 (Imm (pos 1))
    ∷ Jump (pos 2)
    -- give_back
    ∷ Branch Eq W64 7 (Imm (pos 0)) (pos 6)
    ∷ Alu Sub W64 7 (Imm (pos 1))
    -- write
    ∷ Store Double 6 (pos 0) 7
    ∷ Alu Mov W64 1 (Reg 7)
    ∷ Call (pos 1)
    ∷ Alu Mov W64 0 (Imm (pos 1))
    ∷ Exit
    -- refuse
    ∷ Alu Mov W64 1 (Reg 7)
    ∷ Call (pos 1)
    ∷ Alu Mov W64 0 (Imm (pos 0))
    ∷ Exit
    -- short
    ∷ Alu Mov W64 0 (Imm (pos 4))
    ∷ Exit
    ∷ []

-- ---- the record and the argument

abbrev pub holders : List ℕ → ℕ
holders bytes = number_at 0 bytes

-- Nonzero to take a permit, 0 to give one back.
abbrev pub wanted : List ℕ → ℕ
wanted argument = number_at 0 argument

abbrev pub permits : List ℕ → ℕ
permits argument = number_at 8 argument

-- ---- the answers; the reply word is the number of holders

pub record IsAcquired (bytes argument : List ℕ) (o : Outcome) : Type 0 where
  pub long : HasLengths 8 16 bytes argument
  pub wants : wanted argument ≢ 0
  pub free : holders bytes < permits argument
  pub code_is : o.code ≡ 1
  pub word_is : o.word ≡ holders bytes + 1
  pub bytes_are : o.bytes ≡ with_number bytes 0 (holders bytes + 1)

pub record IsReleased (bytes argument : List ℕ) (o : Outcome) : Type 0 where
  pub long : HasLengths 8 16 bytes argument
  pub gives : wanted argument ≡ 0
  pub held : 0 < holders bytes
  pub code_is : o.code ≡ 1
  pub word_is : o.word ≡ holders bytes - 1
  pub bytes_are : o.bytes ≡ with_number bytes 0 (holders bytes - 1)

-- No permit is free, or there is no holder to give one back.
pub record IsDenied (bytes argument : List ℕ) (o : Outcome) : Type 0 where
  pub long : HasLengths 8 16 bytes argument
  pub denied : ((wanted argument ≢ 0) × (permits argument ≤ holders bytes)) ⊎ ((wanted argument ≡ 0) × (holders bytes ≡ 0))
  pub code_is : o.code ≡ 0
  pub word_is : o.word ≡ holders bytes
  pub bytes_are : o.bytes ≡ bytes

abbrev pub Permits : List ℕ → List ℕ → Env → Outcome → Type 0
Permits bytes argument env o =
    IsAcquired bytes argument o ⊎ (IsReleased bytes argument o ⊎ (IsDenied bytes argument o ⊎ IsShort 8 16 bytes argument o))
