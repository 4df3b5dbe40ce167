-- The rate limit: each window of time admits at most a given number of runs.
use Rattle.std.specs.Prelude.{ℕ, ◌≡◌, ◌⊎◌, ◌+◌, ◌-◌, ◌<◌, ◌≤◌, pos, List, [], ◌∷◌}
use Rattle.bpf_insn.specs.declared.insn.Width.TheVariants.{W64}
use Rattle.bpf_insn.specs.declared.insn.Size.TheVariants.{Double}
use Rattle.bpf_insn.specs.declared.insn.Op.TheVariants.{Add, Mov, Sub}
use Rattle.bpf_insn.specs.declared.insn.Test.TheVariants.{Ge, Lt}
use Rattle.bpf_insn.specs.declared.insn.Operand.TheVariants.{Imm, Reg}
use Rattle.bpf_insn.specs.declared.insn.Insn.{Insn}
use Rattle.bpf_insn.specs.declared.insn.Insn.TheVariants.{Alu, Branch, Call, Exit, Load, Store, StoreImm}
use Rattle.bpf_helpers.specs.declared.values.Env.{Env}
use Rattle.bpf_helpers.specs.Runs.{Outcome}
use Rattle.stock_programs.specs.Numbers.{number_at, with_number}
use Rattle.stock_programs.specs.Lengths.{HasLengths, IsShort}

-- The instructions of examples/rate_limit.s.
abbrev pub rate_limit : List Insn
rate_limit =
    Branch Lt W64 2 (Imm (pos 16)) (pos 27)
    ∷ Branch Lt W64 4 (Imm (pos 16)) (pos 26)
    ∷ Alu Mov W64 6 (Reg 1)
    ∷ Load Double 7 3 (pos 0)
    ∷ Load Double 8 3 (pos 8)
    ∷ Call (pos 2)
    ∷ Alu Mov W64 9 (Reg 0)
    ∷ Load Double 1 6 (pos 0)
    ∷ Branch Lt W64 9 (Reg 1) (pos 2)
    ∷ Alu Sub W64 0 (Reg 1)
    ∷ Branch Lt W64 0 (Reg 7) (pos 3)
    -- begin
    ∷ Store Double 6 (pos 0) 9
    ∷ StoreImm Double 6 (pos 8) (pos 0)
    ∷ Alu Mov W64 0 (Imm (pos 0))
    -- count
    ∷ Load Double 2 6 (pos 8)
    ∷ Branch Ge W64 2 (Reg 8) (pos 7)
    ∷ Alu Add W64 2 (Imm (pos 1))
    ∷ Store Double 6 (pos 8) 2
    ∷ Alu Sub W64 8 (Reg 2)
    ∷ Alu Mov W64 1 (Reg 8)
    ∷ Call (pos 1)
    ∷ Alu Mov W64 0 (Imm (pos 1))
    ∷ Exit
    -- full
    ∷ Alu Sub W64 7 (Reg 0)
    ∷ Alu Mov W64 1 (Reg 7)
    ∷ Call (pos 1)
    ∷ Alu Mov W64 0 (Imm (pos 0))
    ∷ Exit
    -- short
    ∷ Alu Mov W64 0 (Imm (pos 4))
    ∷ Exit
    ∷ []

-- ---- the record and the argument

-- The time at which the window began, and the number of runs that it has admitted.
abbrev pub began : List ℕ → ℕ
began bytes = number_at 0 bytes

abbrev pub admitted : List ℕ → ℕ
admitted bytes = number_at 8 bytes

-- The length of a window, in units of time, and the number of runs that it admits.
abbrev pub window : List ℕ → ℕ
window argument = number_at 0 argument

abbrev pub most : List ℕ → ℕ
most argument = number_at 8 argument

-- ---- the answers

-- The window of the record is not over.
pub record Lasts (bytes argument : List ℕ) (now : ℕ) : Type 0 where
  pub after : began bytes ≤ now
  pub within : now - began bytes < window argument

-- The window is over, or it began later than now.
abbrev pub IsOver : List ℕ → List ℕ → ℕ → Type 0
IsOver bytes argument now = (now < began bytes) ⊎ (window argument ≤ now - began bytes)

-- A further run in a window that is not over. The reply word is the number of further runs that the window admits.
pub record IsAdmitted (bytes argument : List ℕ) (now : ℕ) (o : Outcome) : Type 0 where
  pub long : HasLengths 16 16 bytes argument
  pub lasts : Lasts bytes argument now
  pub below : admitted bytes < most argument
  pub code_is : o.code ≡ 1
  pub word_is : o.word ≡ most argument - (admitted bytes + 1)
  pub bytes_are : o.bytes ≡ with_number bytes 8 (admitted bytes + 1)

-- The first run of a window that begins now.
pub record IsFirst (bytes argument : List ℕ) (now : ℕ) (o : Outcome) : Type 0 where
  pub long : HasLengths 16 16 bytes argument
  pub over : IsOver bytes argument now
  pub below : 0 < most argument
  pub code_is : o.code ≡ 1
  pub word_is : o.word ≡ most argument - 1
  pub bytes_are : o.bytes ≡ with_number (with_number bytes 0 now) 8 1

-- The window has admitted its maximum number of runs. The reply word is the time until it is over.
pub record IsFull (bytes argument : List ℕ) (now : ℕ) (o : Outcome) : Type 0 where
  pub long : HasLengths 16 16 bytes argument
  pub lasts : Lasts bytes argument now
  pub full : most argument ≤ admitted bytes
  pub code_is : o.code ≡ 0
  pub word_is : o.word ≡ window argument - (now - began bytes)

-- The window is over, and a new one would admit no run.
pub record AdmitsNone (bytes argument : List ℕ) (now : ℕ) (o : Outcome) : Type 0 where
  pub long : HasLengths 16 16 bytes argument
  pub over : IsOver bytes argument now
  pub none : most argument ≡ 0
  pub code_is : o.code ≡ 0
  pub word_is : o.word ≡ window argument

abbrev pub Limits : List ℕ → List ℕ → Env → Outcome → Type 0
Limits bytes argument env o =
    IsAdmitted bytes argument env.now o
    ⊎ (IsFirst bytes argument env.now o ⊎ (IsFull bytes argument env.now o ⊎ (AdmitsNone bytes argument env.now o ⊎ IsShort 16 16 bytes argument o)))
