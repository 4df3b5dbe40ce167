-- Computed runs are runs.
use Rattle.std.proofs.Common.{ℕ, ◌≡◌, ◌+◌, refl, ap, sym, ◌∙◌, List}
use Rattle.std.specs.Prelude.{ℤ, true, Option, Some, None}
use Rattle.std.specs.Option.{option_and_then, option_map}
use Rattle.std.proofs.lemmas.Option.{same_Some}
use Rattle.bpf_insn.specs.declared.insn.Width.TheVariants.{W64}
use Rattle.bpf_insn.specs.declared.insn.Op.TheVariants.{Mov}
use Rattle.bpf_insn.specs.declared.insn.Operand.TheVariants.{Imm, Reg}
use Rattle.bpf_insn.specs.declared.insn.Insn.{Insn}
use Rattle.bpf_insn.specs.declared.insn.Insn.TheVariants.{Alu}
use Rattle.bpf_helpers.specs.declared.values.Env.{Env}
use Rattle.bpf_helpers.specs.Machine.{Config, step, ended}
use Rattle.bpf_helpers.specs.Runs.{start, Outcome, Ends, Sticks, after, outcome_at}
use Rattle.bpf_helpers.proofs.OneEnd.{reaches}

-- the outcome after n steps, if that is the end
abbrev pub given : ℕ → List Insn → Config → Option Outcome
given n program c = option_and_then (outcome_at n program) (after n program c)

ended_with : (n : ℕ) (program : List Insn) (o : Option Config) (out : Outcome)
    → option_and_then (outcome_at n program) o ≡ Some out
    → (last : Config) × (o ≡ Some last) × (ended program last ≡ Some out.code) × (out.word ≡ last.word) × (out.bytes ≡ last.bytes) × (out.steps ≡ n + 1)
ended_with n program None out e = absurd cc
ended_with n program (Some last) out e = at_end (ended program last) refl e
  where
    at_end : (code : Option ℕ) → ended program last ≡ code → option_map (λ (k : ℕ). record { code = k; word = last.word; bytes = last.bytes; steps = n + 1 }) code ≡ Some out
        → (c : Config) × (Some last ≡ Some c) × (ended program c ≡ Some out.code) × (out.word ≡ c.word) × (out.bytes ≡ c.bytes) × (out.steps ≡ n + 1)
    at_end None was h = absurd cc
    at_end (Some code) was h =
        let same = same_Some _ out h in
        (last, refl, was ∙ ap (λ (x : Outcome). Some x.code) same, ap (λ (x : Outcome). x.word) (sym same), ap (λ (x : Outcome). x.bytes) (sym same), ap (λ (x : Outcome). x.steps) (sym same))

-- a computed run is a run
pub ends : (n : ℕ) (program : List Insn) (bytes argument : List ℕ) (env : Env) (out : Outcome) → given n program (start bytes argument env) ≡ Some out → Ends program bytes argument env out
ends n program bytes argument env out e =
    let found = ended_with n program (after n program (start bytes argument env)) out e in
    record {
      before = n;
      last = found.0;
      chain = reaches n program (start bytes argument env) found.0 found.1;
      end = found.2;
      word_is = found.3;
      bytes_are = found.4;
      steps_are = found.5;
    }

-- a run that is computed until it is stuck
pub stops : (n : ℕ) (program : List Insn) (bytes argument : List ℕ) (env : Env) (c : Config)
    → after n program (start bytes argument env) ≡ Some c → step program c ≡ None → ended program c ≡ None → Sticks program bytes argument env c.place c.bytes
stops n program bytes argument env c e no_step no_end = record {
  before = n;
  last = c;
  chain = reaches n program (start bytes argument env) c e;
  stuck = record { no_step = no_step; no_end = no_end };
  place_is = refl;
  bytes_are = refl;
}

-- ---- parts of programs

abbrev pub here : Env
here = record { now = 1700000000; present = true; who = 3 }

abbrev pub set : ℕ → ℤ → Insn
set r k = Alu Mov W64 r (Imm k)

abbrev pub move : ℕ → ℕ → Insn
move r s = Alu Mov W64 r (Reg s)
