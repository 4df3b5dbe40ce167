-- The sequence: a message replaces the one in the record if its number is greater.
use Rattle.std.specs.Prelude.{ℕ, ◌≡◌, ◌⊎◌, ◌<◌, ◌≤◌, ◌++◌, take, drop, pos, List, [], ◌∷◌}
use Rattle.bpf_insn.specs.declared.insn.Width.TheVariants.{W64}
use Rattle.bpf_insn.specs.declared.insn.Size.TheVariants.{Double}
use Rattle.bpf_insn.specs.declared.insn.Op.TheVariants.{Mov}
use Rattle.bpf_insn.specs.declared.insn.Test.TheVariants.{Le, Lt}
use Rattle.bpf_insn.specs.declared.insn.Operand.TheVariants.{Imm, Reg}
use Rattle.bpf_insn.specs.declared.insn.Insn.{Insn}
use Rattle.bpf_insn.specs.declared.insn.Insn.TheVariants.{Alu, Branch, Call, Exit, Load}
use Rattle.bpf_helpers.specs.declared.values.Env.{Env}
use Rattle.bpf_helpers.specs.Runs.{Outcome}
use Rattle.stock_programs.specs.Numbers.{number_at}
use Rattle.stock_programs.specs.Lengths.{HasLengths, IsShort}

-- The instructions of examples/sequence.s.
abbrev pub sequence : List Insn
sequence =
    Branch Lt W64 2 (Imm (pos 24)) (pos 15)
    ∷ Branch Lt W64 4 (Imm (pos 24)) (pos 14)
    ∷ Load Double 6 1 (pos 0)
    ∷ Load Double 7 3 (pos 0)
    ∷ Branch Le W64 7 (Reg 6) (pos 7)
    ∷ Alu Mov W64 2 (Reg 3)
    ∷ Alu Mov W64 3 (Imm (pos 24))
    ∷ Call (pos 5)
    ∷ Alu Mov W64 1 (Reg 7)
    ∷ Call (pos 1)
    ∷ Alu Mov W64 0 (Imm (pos 1))
    ∷ Exit
    -- old
    ∷ Alu Mov W64 1 (Reg 6)
    ∷ Call (pos 1)
    ∷ Alu Mov W64 0 (Imm (pos 0))
    ∷ Exit
    -- short
    ∷ Alu Mov W64 0 (Imm (pos 4))
    ∷ Exit
    ∷ []

-- The size of a message in bytes: a number of 8, and a text of 16.
abbrev pub message_size : ℕ
message_size = 24

-- ---- the answers; the reply word is the number of the message in the record

-- The new message has a greater number, and replaces the old one.
pub record IsNewer (bytes argument : List ℕ) (o : Outcome) : Type 0 where
  pub long : HasLengths message_size message_size bytes argument
  pub newer : number_at 0 bytes < number_at 0 argument
  pub code_is : o.code ≡ 1
  pub word_is : o.word ≡ number_at 0 argument
  pub bytes_are : o.bytes ≡ take message_size argument ++ drop message_size bytes

-- The new message's number is at most that of the one in the record.
pub record IsOld (bytes argument : List ℕ) (o : Outcome) : Type 0 where
  pub long : HasLengths message_size message_size bytes argument
  pub old : number_at 0 argument ≤ number_at 0 bytes
  pub code_is : o.code ≡ 0
  pub word_is : o.word ≡ number_at 0 bytes
  pub bytes_are : o.bytes ≡ bytes

abbrev pub Sequences : List ℕ → List ℕ → Env → Outcome → Type 0
Sequences bytes argument env o = IsNewer bytes argument o ⊎ (IsOld bytes argument o ⊎ IsShort message_size message_size bytes argument o)
