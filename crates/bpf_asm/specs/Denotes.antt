-- The code that a text denotes: a relation between the meanings of its lines and the code.
use Rattle.std.specs.Prelude.{ℕ, ℤ, pos, ◌≡◌, ◌+◌, ◌≤◌, List, [], ◌∷◌, ◌++◌, take, map, Option, Some, None, slice_get}
use Rattle.std.specs.List.{sum_by}
use Rattle.bpf_insn.specs.declared.insn.Insn.{Insn}
use Rattle.bpf_insn.specs.declared.insn.Insn.TheVariants as insns
use Rattle.bpf_insn.specs.Code.{units_of, unit_count, unit_limit}
use Rattle.bpf_asm.specs.Text.{lines}
use Rattle.bpf_asm.specs.Lines.{Meaning, Blank, Mark, Plain, Aimed, meaning}

-- the number of units of a line's instruction
abbrev pub units : Option Meaning → ℕ
units None = 0
units (Some Blank) = 0
units (Some (Mark name)) = 0
units (Some (Plain i)) = units_of i
units (Some (Aimed i name)) = units_of i

-- the number of units above line i; lines are counted from 0
abbrev pub units_above : List (Option Meaning) → ℕ → ℕ
units_above ms i = sum_by units (take i ms)

-- line i is the label with this name
abbrev pub MarksAt : List (Option Meaning) → List ℕ → ℕ → Type 0
MarksAt ms name i = slice_get ms i ≡ Some (Some (Mark name))

-- each label is defined at most once
abbrev pub Once : List (Option Meaning) → Type 0
Once ms = (i j : ℕ) (name : List ℕ) → MarksAt ms name i → MarksAt ms name j → i ≡ j

-- `place` is the number of units above the label with this name
abbrev pub Stands : List (Option Meaning) → List ℕ → ℕ → Type 0
Stands ms name place = (i : ℕ) × MarksAt ms name i × (place ≡ units_above ms i)

-- a jump with this distance; any other instruction is unchanged
abbrev pub with_distance : Insn → ℤ → Insn
with_distance (insns.Branch t w d s n) m = insns.Branch t w d s m
with_distance (insns.Jump n) m = insns.Jump m
with_distance (insns.JumpFar n) m = insns.JumpFar m
with_distance i m = i

-- `here` are the instructions of a line that begins at the unit `own`, among the lines `ms`. The distance of a jump to a label is the
-- number of units between the jump and the label.
abbrev pub Yields : List (Option Meaning) → ℕ → Option Meaning → List Insn → Type 0
Yields ms own None here = ⊥
Yields ms own (Some Blank) here = here ≡ []
Yields ms own (Some (Mark name)) here = here ≡ []
Yields ms own (Some (Plain i)) here = here ≡ i ∷ []
Yields ms own (Some (Aimed i name)) here = (distance : ℕ) × Stands ms name (own + 1 + distance) × (here ≡ with_distance i (pos distance) ∷ [])

-- the code of consecutive lines of `ms`; the first of them begins at the unit `own`
abbrev pub Gives : List (Option Meaning) → ℕ → List (Option Meaning) → List Insn → Type 0
Gives ms own [] code = code ≡ []
Gives ms own (m ∷ below) code = (here : List Insn) × (rest : List Insn) × Yields ms own m here × (code ≡ here ++ rest) × Gives ms (own + units m) below rest

-- lines with these meanings denote the code
pub record Says (ms : List (Option Meaning)) (code : List Insn) : Type 0 where
  pub once : Once ms
  pub gives : Gives ms 0 ms code
  pub short : unit_count code ≤ unit_limit

-- the meanings of the lines of a text
abbrev pub meanings : List ℕ → List (Option Meaning)
meanings text = map meaning (lines text)

-- the text denotes the code
abbrev pub Denotes : List ℕ → List Insn → Type 0
Denotes text code = Says (meanings text) code

-- the text does not denote any code
abbrev pub DenotesNone : List ℕ → Type 0
DenotesNone text = (code : List Insn) → Denotes text code → ⊥

-- the text denotes no other code
abbrev pub IsOnlyCode : List ℕ → List Insn → Type 0
IsOnlyCode text code = (other : List Insn) → Denotes text other → other ≡ code
