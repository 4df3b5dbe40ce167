-- The machine's data as a configuration.
use Rattle.std.specs.Prelude.{ℕ, ◌≡◌, ◌<◌, List, ◌∷◌, drop, Option, Some, None, MatchOption}
use Rattle.std.specs.Option.{option_and_then}
use Rattle.bpf_insn.specs.declared.insn.Insn.{Insn}
use Rattle.bpf_insn.specs.Code.{fetch, unit_limit}
use Rattle.bpf_insn.specs.Spelling.{HasSpelling}
use Rattle.bpf_helpers.specs.declared.values.Env.{Env}
use Rattle.bpf_helpers.specs.declared.values.Region.{Region}
use Rattle.bpf_helpers.specs.declared.values.Region.TheVariants.{Record, Argument, Stack}
use Rattle.bpf_helpers.specs.declared.values.Value.TheVariants.{Nothing, Number}
use Rattle.bpf_helpers.specs.Helpers.{Answer}
use Rattle.bpf_helpers.specs.Machine.{Config, arrives}
use Rattle.bpf_reference.specs.declared.cpu.Cpu.{Cpu}

abbrev pub config_of : Cpu → List ℕ → List ℕ → Env → Config
config_of cpu bytes argument env = record { place = cpu.place; registers = cpu.registers; bytes = bytes; argument = argument; stack = cpu.stack; word = cpu.word; env = env }

-- An instruction of the table begins at a unit.
pub record Begins (code : List Insn) (place : ℕ) (insn : Insn) : Type 0 where
  pub is : fetch code place ≡ Some insn
  pub has : HasSpelling insn
  pub short : place < unit_limit

-- The machine continues at a unit if an instruction begins there; otherwise it is unchanged.
abbrev pub GoesTo : List Insn → ℕ → Cpu → Cpu → Option Insn → Type 0
GoesTo code place old new result =
    MatchOption result
    ((fetch code place ≡ None) × (new ≡ old))
    (λ next. Begins code place next × (new ≡ record old { place = place }))

-- If an effect leads to an instruction at a later unit, the effect is carried out, and that instruction is returned. Otherwise the
-- configuration is unchanged.
abbrev pub Leads : List Insn → Option Config → Config → Config → Option Insn → Type 0
Leads code reached old new result =
    MatchOption result
    ((option_and_then (arrives code) reached ≡ None) × (new ≡ old))
    (λ next. (reached ≡ Some new) × Begins code new.place next × (old.place < new.place))

-- The machine after a helper's answer, at the same unit: R0 and the reply word are set, and R1 to R5 are unset.
abbrev pub answered_cpu : Answer → Cpu → Cpu
answered_cpu a cpu = record cpu { registers = Number a.value ∷ Nothing ∷ Nothing ∷ Nothing ∷ Nothing ∷ Nothing ∷ drop 6 cpu.registers; word = a.word }

-- the bytes of a region
abbrev pub memory_of : Region → Cpu → List ℕ → List ℕ → List ℕ
memory_of Record cpu bytes argument = bytes
memory_of Argument cpu bytes argument = argument
memory_of Stack cpu bytes argument = cpu.stack
