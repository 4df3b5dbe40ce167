-- The definition of a program that obeys a relation.
use Rattle.std.specs.Prelude.{ℕ, List}
use Rattle.bpf_insn.specs.declared.insn.Insn.{Insn}
use Rattle.bpf_helpers.specs.declared.values.Env.{Env}
use Rattle.bpf_helpers.specs.Runs.{Outcome, Ends, IsInput}

-- Every run of the program on a valid record, argument and environment ends, and its outcome obeys the relation.
pub record Means (program : List Insn) (Relation : List ℕ → List ℕ → Env → Outcome → Type 0) : Type 0 where
  pub obeys : (bytes argument : List ℕ) (env : Env) (o : Outcome) → IsInput bytes argument env → Ends program bytes argument env o
      → Relation bytes argument env o
  pub ends : (bytes argument : List ℕ) (env : Env) → IsInput bytes argument env → (o : Outcome) × Ends program bytes argument env o
