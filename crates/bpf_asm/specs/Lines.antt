-- The meaning of a line of assembler text.
use Rattle.std.specs.Prelude.{ℕ, ℤ, pos, ◌≡◌, ◌-◌, ◌==◌, ◌&&◌, ◌||◌, not, Bool, nat_le, List, [], ◌∷◌, length, take, drop, Option, Some, None, slice_index, if◌then◌else◌, ⊤}
use Rattle.std.specs.Option.{option_map}
use Rattle.std.specs.List.{slice_split, prefix_len}
use Rattle.bpf_insn.specs.declared.insn.Op.TheVariants.{MovSx}
use Rattle.bpf_insn.specs.declared.insn.Operand.{Operand}
use Rattle.bpf_insn.specs.declared.insn.Operand.TheVariants.{Imm, Reg}
use Rattle.bpf_insn.specs.declared.insn.Insn.{Insn}
use Rattle.bpf_insn.specs.declared.insn.Insn.TheVariants as insns
use Rattle.bpf_insn.specs.Spelling.{HasSpelling}
use Rattle.bpf_asm.specs.Text.{uncommented, trimmed, is_margin}
use Rattle.bpf_asm.specs.Words.{register, word, long, near, far, is_name, ◌>>=◌}
use Rattle.bpf_asm.specs.Mnemonics.{row_named}
use Rattle.bpf_asm.specs.declared.row.Row.{Row}
use Rattle.bpf_asm.specs.declared.row.Row.TheVariants as rows

-- an empty line, a label, an instruction, or a jump to a label
pub data Meaning : Type 0 where
  Blank : Meaning
  Mark : List ℕ → Meaning
  Plain : Insn → Meaning
  Aimed : Insn → List ℕ → Meaning

-- ---- operands

abbrev pub operand_from : Option ℕ → List ℕ → Option Operand
operand_from (Some r) bs = Some (Reg r)
operand_from None bs = option_map (λ k. Imm k) (word bs)

-- a register or a number of 32 bits
unfoldable pub operand : List ℕ → Option Operand
operand bs = operand_from (register bs) bs

abbrev pub is_sign : ℕ → Bool
is_sign b = (b == 43) || (b == 45)

-- an offset with its sign; an empty text means 0
abbrev pub offset : List ℕ → Option ℤ
offset [] = Some (pos 0)
offset (b ∷ bs) = near (b ∷ bs)

-- a register, and an offset that begins with its sign
abbrev pub inner_address : List ℕ → Option (ℕ × ℤ)
inner_address bs = do
  r ← register (take (prefix_len (λ b. not (is_sign b)) bs) bs)
  n ← offset (drop (prefix_len (λ b. not (is_sign b)) bs) bs)
  Some (r, n)

-- `[rS]`, `[rS+N]` or `[rS-N]`
unfoldable pub address : List ℕ → Option (ℕ × ℤ)
address bs = if nat_le 2 (length bs) && (slice_index bs 0 == 91) && (slice_index bs (length bs - 1) == 93)
    then inner_address (take (length bs - 2) (drop 1 bs)) else None

-- the operands, separated by commas
abbrev pub parts : List ℕ → List (List ℕ)
parts rest = slice_split (λ b. b == 44) rest

-- at least two parts
abbrev pub HasMore : List (List ℕ) → Type 0
HasMore xs = (a : List ℕ) × (b : List ℕ) × (more : List (List ℕ)) × (xs ≡ a ∷ b ∷ more)

abbrev pub two_parts : List (List ℕ) → Option (List ℕ × List ℕ)
two_parts [] = None
two_parts (a ∷ []) = None
two_parts (a ∷ b ∷ []) = Some (trimmed a, trimmed b)
two_parts (a ∷ b ∷ c ∷ more) = None

abbrev pub three_parts : List (List ℕ) → Option (List ℕ × List ℕ × List ℕ)
three_parts [] = None
three_parts (a ∷ []) = None
three_parts (a ∷ b ∷ []) = None
three_parts (a ∷ b ∷ c ∷ []) = Some (trimmed a, trimmed b, trimmed c)
three_parts (a ∷ b ∷ c ∷ d ∷ more) = None

unfoldable pub two : List ℕ → Option (List ℕ × List ℕ)
two rest = two_parts (parts rest)

unfoldable pub three : List ℕ → Option (List ℕ × List ℕ × List ℕ)
three rest = three_parts (parts rest)

-- ---- instructions

-- a jump to a name or by a given distance
abbrev pub jump_to : List ℕ → Option ℤ → (ℤ → Insn) → Option Meaning
jump_to target distance f = if is_name target then Some (Aimed (f (pos 0)) target) else option_map (λ n. Plain (f n)) distance

-- the instruction of a row, given the text of its operands
unfoldable pub instruction : Row → List ℕ → Option Meaning
instruction (rows.Arith op w) rest = do
  ab ← two rest
  d ← register ab.0
  s ← operand ab.1
  Some (Plain (insns.Alu op w d s))
instruction (rows.SignMove n w) rest = do
  ab ← two rest
  d ← register ab.0
  s ← register ab.1
  Some (Plain (insns.Alu (MovSx n) w d (Reg s)))
instruction (rows.Unary op w) rest = do
  d ← register rest
  Some (Plain (insns.Unary op w d))
instruction rows.Wide rest = do
  ab ← two rest
  d ← register ab.0
  n ← long ab.1
  Some (Plain (insns.Wide d n))
instruction (rows.Load size) rest = do
  ab ← two rest
  d ← register ab.0
  a ← address ab.1
  Some (Plain (insns.Load size d a.0 a.1))
instruction (rows.LoadSigned size) rest = do
  ab ← two rest
  d ← register ab.0
  a ← address ab.1
  Some (Plain (insns.LoadSigned size d a.0 a.1))
instruction (rows.StoreImm size) rest = do
  ab ← two rest
  a ← address ab.0
  k ← word ab.1
  Some (Plain (insns.StoreImm size a.0 a.1 k))
instruction (rows.Store size) rest = do
  ab ← two rest
  a ← address ab.0
  s ← register ab.1
  Some (Plain (insns.Store size a.0 a.1 s))
instruction rows.Jump rest = jump_to rest (near rest) (λ n. insns.Jump n)
instruction rows.JumpFar rest = jump_to rest (far rest) (λ n. insns.JumpFar n)
instruction (rows.Branch t w) rest = do
  abc ← three rest
  d ← register abc.0
  s ← operand abc.1
  jump_to abc.2 (near abc.2) (λ n. insns.Branch t w d s n)
instruction rows.Call rest = do
  id ← word rest
  Some (Plain (insns.Call id))
instruction rows.Exit rest = if length rest == 0 then Some (Plain insns.Exit) else None

-- ---- lines

-- the length of a line's first word
abbrev pub head_len : List ℕ → ℕ
head_len body = prefix_len (λ b. not (is_margin b)) body

-- a name and a colon
abbrev pub is_label : List ℕ → Bool
is_label body = (slice_index body (length body - 1) == 58) && is_name (take (length body - 1) body)

-- a mnemonic and its operands
unfoldable pub statement : List ℕ → Option Meaning
statement body = do
  row ← row_named (take (head_len body) body)
  instruction row (trimmed (drop (head_len body) body))

-- the meaning of a line without its comment and margins
unfoldable pub meaning_of_body : List ℕ → Option Meaning
meaning_of_body body = if length body == 0 then Some Blank
    else (if is_label body then Some (Mark (take (length body - 1) body)) else statement body)

-- the meaning of a line, if it has one
unfoldable pub meaning : List ℕ → Option Meaning
meaning line = meaning_of_body (trimmed (uncommented line))

-- if the line has an instruction, the instruction table has it
abbrev pub HasSpellingIn : Option Meaning → Type 0
HasSpellingIn None = ⊤
HasSpellingIn (Some Blank) = ⊤
HasSpellingIn (Some (Mark name)) = ⊤
HasSpellingIn (Some (Plain i)) = HasSpelling i
HasSpellingIn (Some (Aimed i name)) = HasSpelling i
