-- The effect of the assembler's steps.
use Rattle.std.specs.Prelude.{ℕ, ◌≡◌, ◌+◌, ◌<◌, ◌≤◌, List, ◌++◌, MatchOption, IfSome, Option, Some, None, false, ⊤, slice_get, unwrap_or}
use Rattle.std.specs.Borrow.{Bor}
use Rattle.std.specs.BTreeMap.{BTreeMap, get_by}
use Rattle.std.specs.Cmp.Lexicographic.{slice_cmp}
use Rattle.std.specs.Ordering.{nat_cmp}
use Rattle.std.specs.List.{sum_by}
use Rattle.std.specs.Str.{bytes_eq}
use Rattle.bpf_insn.specs.declared.insn.Insn.{Insn}
use Rattle.bpf_insn.specs.Code.{unit_count, unit_limit}
use Rattle.bpf_asm.specs.declared.labels.Definition.{Definition}
use Rattle.bpf_asm.specs.Lines.{Meaning, Blank, Mark, Plain, Aimed}
use Rattle.bpf_asm.specs.Denotes.{units, units_above, MarksAt, Once, Yields}

abbrev pub Labels : Type 0
Labels = BTreeMap (Bor (List ℕ)) Definition

-- the definition of a name, if the labels have one
abbrev pub definition_of : Labels → List ℕ → Option Definition
definition_of labels name = get_by (λ k. slice_cmp nat_cmp name k.now) labels

-- The table defines each label of the first n lines. A definition has a line of that label, and the number of units above that line.
abbrev pub IsTableBelow : List (Option Meaning) → ℕ → Labels → Type 0
IsTableBelow ms n labels = (name : List ℕ) → MatchOption (definition_of labels name)
    ((i : ℕ) → i < n → MarksAt ms name i → ⊥)
    (λ d. MarksAt ms name d.line × (d.unit ≡ units_above ms d.line))

-- the same for the labels of all lines
abbrev pub IsTableOf : List (Option Meaning) → Labels → Type 0
IsTableOf ms labels = (name : List ℕ) → MatchOption (definition_of labels name)
    ((i : ℕ) → MarksAt ms name i → ⊥)
    (λ d. MarksAt ms name d.line × (d.unit ≡ units_above ms d.line))

-- if the line is a label that the table defines, the definition is on this line
abbrev pub IsDefinition : Labels → ℕ → Option Meaning → Type 0
IsDefinition labels at None = ⊤
IsDefinition labels at (Some Blank) = ⊤
IsDefinition labels at (Some (Mark name)) = IfSome (definition_of labels name) (λ d. d.line ≡ at)
IsDefinition labels at (Some (Plain i)) = ⊤
IsDefinition labels at (Some (Aimed i name)) = ⊤

-- in every text with these labels, line `at` appends these instructions to the code
pub record Emits (labels : Labels) (at : ℕ) (m : Option Meaning) (old new : List Insn) : Type 0 where
  pub here : List Insn
  pub more : new ≡ old ++ here
  pub yields : (ms : List (Option Meaning)) → IsTableOf ms labels → sum_by units ms ≤ unit_limit → Yields ms (unit_count old) m here
  pub units : unit_count here ≡ units m
  pub definition : IsDefinition labels at m
  pub short : unit_count new ≤ unit_limit

-- no text with these labels and this line denotes a code
abbrev pub Refuses : Labels → ℕ → Option Meaning → List Insn → Type 0
Refuses labels at m old = (ms : List (Option Meaning)) → IsTableOf ms labels → slice_get ms at ≡ Some m → Once ms
    → unit_count old + units m ≤ unit_limit → (here : List Insn) → Yields ms (unit_count old) m here → ⊥

-- A label is added to the table, unless the table has it already.
pub record Defines (old new : Labels) (name : List ℕ) (d : Definition) : Type 0 where
  pub own : definition_of new name ≡ Some (unwrap_or (definition_of old name) d)
  pub others : (other : List ℕ) → bytes_eq name other ≡ false → definition_of new other ≡ definition_of old other

-- a label is added as in `Defines`; any other line changes no definition
abbrev pub Records : Labels → Labels → Option Meaning → Definition → Type 0
Records old new None d = (name : List ℕ) → definition_of new name ≡ definition_of old name
Records old new (Some Blank) d = (name : List ℕ) → definition_of new name ≡ definition_of old name
Records old new (Some (Mark name)) d = Defines old new name d
Records old new (Some (Plain i)) d = (name : List ℕ) → definition_of new name ≡ definition_of old name
Records old new (Some (Aimed i name)) d = (name : List ℕ) → definition_of new name ≡ definition_of old name

-- each text with these labels and this line defines some label twice
abbrev pub IsSecond : Labels → ℕ → Option Meaning → Type 0
IsSecond labels at m = (ms : List (Option Meaning)) → IsTableOf ms labels → slice_get ms at ≡ Some m → Once ms → ⊥
