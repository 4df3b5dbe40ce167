-- The counter, run by computation.
use Rattle.std.proofs.Common.{ℕ, ◌≡◌, inl, inr, ◌+◌, ◌<◌, ◌≤◌, ◌^◌, ◌%◌, refl, List, length, arith}
use Rattle.std.proofs.lemmas.Bool.{cases_lt}
use Rattle.bpf_helpers.specs.declared.values.Env.{Env}
use Rattle.bpf_helpers.specs.Runs.{IsInput}
use Rattle.stock_programs.specs.Numbers.{number_at, with_number}
use Rattle.stock_programs.specs.Counter.{Counts, counter}
use Rattle.stock_programs.specs.Meaning.{Means}
use Rattle.stock_programs.proofs.LengthFacts.{few, many, in_bytes}
use Rattle.stock_programs.proofs.Meaning.{Found, means}
use Rattle.stock_programs.proofs.NumberFacts.{reads, fits, small}

abbrev Finds : List ℕ → List ℕ → Env → Type 0
Finds bytes argument env = Found counter Counts bytes argument env

short : (bytes argument : List ℕ) (env : Env) → length bytes < 8 → Finds bytes argument env
short bytes argument env h = record {
  n = 3;
  outcome = λ word. record { code = 4; word = word; bytes = bytes; steps = 3 };
  is = λ stack word. simp (few bytes 8 h (omega arith));
  says = inr (record { short = inl h; code_is = refl; word_is = refl; bytes_are = refl });
}

long : (bytes argument : List ℕ) (env : Env) → IsInput bytes argument env → 8 ≤ length bytes → Finds bytes argument env
unfolding with_number
long bytes argument env i h = record {
  n = 6;
  outcome = λ word. record { code = 1; word = word; bytes = with_number bytes 0 ((number_at 0 bytes + 1) % 2 ^ 64); steps = 6 };
  is = λ stack word. simp (many bytes 8 i.bytes_fit h, in_bytes bytes 8 8 h (omega arith), reads 0 bytes, small (number_at 0 bytes) (fits 0 bytes i.are_bytes));
  says = inl (record { long = record { of_record = h; of_argument = omega arith }; code_is = refl; word_is = refl; bytes_are = refl });
}

each : (bytes argument : List ℕ) (env : Env) → IsInput bytes argument env → Finds bytes argument env
each bytes argument env i = elim (cases_lt (length bytes) 8) [ inl h ↦ short bytes argument env h | inr h ↦ long bytes argument env i h ]

pub counts : Means counter Counts
counts = means counter Counts each
