-- The machine's steps form a chain.
use Rattle.std.proofs.Common.{ℕ, suc, ◌≡◌, ◌+◌, List, Some, None, refl, arith}
use Rattle.std.specs.Option.{option_and_then}
use Rattle.bpf_insn.specs.declared.insn.Insn.{Insn}
use Rattle.bpf_insn.specs.Code.{fetch}
use Rattle.bpf_helpers.specs.declared.values.Env.{Env}
use Rattle.bpf_helpers.specs.Machine.{Config, effect, arrives}
use Rattle.bpf_helpers.specs.Runs.{Reaches, start}
use Rattle.bpf_reference.specs.declared.checked.Checked.{Checked}
use Rattle.bpf_reference.specs.declared.checked.Checked.TheVariants.{Ended, Stuck}
use Rattle.bpf_reference.specs.Checked.{Tells, Finishes}

-- one more step
pub goes_on : (code : List Insn) (n : ℕ) (first c d : Config) (insn next : Insn)
    → Reaches code n first c → fetch code c.place ≡ Some insn → effect insn c ≡ Some d → fetch code d.place ≡ Some next → Reaches code (n + 1) first d
goes_on code n first c d insn next chain here does there =
    let one : n + 1 ≡ suc n = omega arith in
    rw one (c, chain, rw here (rw does (rw there refl)))

-- no further step
pub told : (code : List Insn) (bytes argument : List ℕ) (env : Env) (n : ℕ) (c : Config) (insn : Insn) (answer : Checked)
    → Reaches code n (start bytes argument env) c → fetch code c.place ≡ Some insn → option_and_then (arrives code) (effect insn c) ≡ None → Finishes insn c (n + 1) answer
    → Tells code bytes argument env answer c.bytes
told code bytes argument env n c insn (Ended e) chain here no_step end = record {
  before = n;
  last = c;
  chain = chain;
  end = rw here end.0;
  word_is = end.1;
  bytes_are = refl;
  steps_are = end.2;
}
told code bytes argument env n c insn (Stuck at) chain here no_step end = record {
  before = n;
  last = c;
  chain = chain;
  stuck = record { no_step = rw here no_step; no_end = rw here end.0 };
  place_is = end.1;
  bytes_are = refl;
}

-- a code without instructions
pub told_empty : (code : List Insn) (bytes argument : List ℕ) (env : Env) → fetch code 0 ≡ None → Tells code bytes argument env (Stuck 0) bytes
told_empty code bytes argument env e = record {
  before = 0;
  last = start bytes argument env;
  chain = refl;
  stuck = record { no_step = rw e refl; no_end = rw e refl };
  place_is = refl;
  bytes_are = refl;
}
