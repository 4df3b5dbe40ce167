-- A program means a relation if each of its runs is found, by going forward, to end with an outcome that obeys it.
use Rattle.std.proofs.Common.{ℕ, ◌≡◌, sym, subst, List, replicate, Some}
use Rattle.bpf_helpers.specs.Machine.{stack_size}
use Rattle.bpf_insn.specs.declared.insn.Insn.{Insn}
use Rattle.bpf_helpers.specs.declared.values.Env.{Env}
use Rattle.bpf_helpers.specs.Runs.{Outcome, IsInput}
use Rattle.stock_programs.specs.Meaning.{Means}
use Rattle.stock_programs.proofs.Forward.{run, found, found_alone}

-- An outcome that is found within n instructions, and that obeys the relation. A run that sets no reply word keeps the one at its start.
pub record Found (program : List Insn) (Relation : List ℕ → List ℕ → Env → Outcome → Type 0) (bytes argument : List ℕ) (env : Env) : Type 0 where
  pub n : ℕ
  pub outcome : ℕ → Outcome
  pub is : (stack : List ℕ) (word : ℕ) → run n program stack word bytes argument env ≡ Some (outcome word)
  pub says : Relation bytes argument env (outcome 0)

pub means : (program : List Insn) (Relation : List ℕ → List ℕ → Env → Outcome → Type 0)
    → ((bytes argument : List ℕ) (env : Env) → IsInput bytes argument env → Found program Relation bytes argument env) → Means program Relation
means program Relation each = record {
  obeys = λ bytes argument env o i ends.
      let f = each bytes argument env i in
      subst (λ (p : Outcome). Relation bytes argument env p) (sym (found_alone f.n program bytes argument env (f.outcome 0) o (f.is (replicate stack_size 0) 0) ends)) f.says;
  ends = λ bytes argument env i.
      let f = each bytes argument env i in
      (f.outcome 0, found f.n program bytes argument env (f.outcome 0) (f.is (replicate stack_size 0) 0));
}
