-- Compare and set, run by computation.
use Rattle.std.proofs.Common.{ℕ, ◌≡◌, ◌≢◌, inl, inr, ◌<◌, ◌≤◌, ◌==◌, ◌^◌, ◌%◌, refl, List, length, arith}
use Rattle.std.specs.Prelude.{true, false, nat_lt, nat_le}
use Rattle.std.proofs.lemmas.Bool.{eq-eqb, ne_eqb, cases_lt, cases_eq}
use Rattle.bpf_helpers.specs.declared.values.Env.{Env}
use Rattle.bpf_helpers.specs.Runs.{IsInput}
use Rattle.stock_programs.specs.Numbers.{number_at, with_number}
use Rattle.stock_programs.specs.Lengths.{HasLengths}
use Rattle.stock_programs.specs.CompareAndSet.{compare_and_set, expected, replacement, ComparesAndSets}
use Rattle.stock_programs.specs.Meaning.{Means}
use Rattle.stock_programs.proofs.LengthFacts.{few, many, in_bytes}
use Rattle.stock_programs.proofs.Meaning.{Found, means}
use Rattle.stock_programs.proofs.NumberFacts.{reads, fits}

abbrev Finds : List ℕ → List ℕ → Env → Type 0
Finds bytes argument env = Found compare_and_set ComparesAndSets bytes argument env

short_record : (bytes argument : List ℕ) (env : Env) → length bytes < 8 → Finds bytes argument env
short_record bytes argument env h = record {
  n = 3;
  outcome = λ word. record { code = 4; word = word; bytes = bytes; steps = 3 };
  is = λ stack word. simp (few bytes 8 h (omega arith));
  says = inr (inr (record { short = inl h; code_is = refl; word_is = refl; bytes_are = refl }));
}

short_argument : (bytes argument : List ℕ) (env : Env) → IsInput bytes argument env → 8 ≤ length bytes → length argument < 16 → Finds bytes argument env
short_argument bytes argument env i long h = record {
  n = 4;
  outcome = λ word. record { code = 4; word = word; bytes = bytes; steps = 4 };
  is = λ stack word. simp (many bytes 8 i.bytes_fit long, few argument 16 h (omega arith));
  says = inr (inr (record { short = inr h; code_is = refl; word_is = refl; bytes_are = refl }));
}

module _ (bytes argument : List ℕ) (env : Env) (i : IsInput bytes argument env) (long : HasLengths 8 16 bytes argument) where
  record Facts : Type 0 where
    record_passes : nat_lt (length bytes % 2 ^ 64) 8 ≡ false
    argument_passes : nat_lt (length argument % 2 ^ 64) 16 ≡ false
    in_record : nat_le 8 (length bytes) ≡ true
    in_argument : nat_le 8 (length argument) ≡ true
    in_argument_2 : nat_le 16 (length argument) ≡ true
    number_fits : number_at 0 bytes < 2 ^ 64
    expected_fits : expected argument < 2 ^ 64

  facts : Facts
  facts =
      let limit : length argument ≤ 1024 = i.argument_fits in
      record {
        record_passes = many bytes 8 i.bytes_fit long.of_record;
        argument_passes = many argument 16 (omega arith) long.of_argument;
        in_record = in_bytes bytes 8 8 long.of_record (omega arith);
        in_argument = in_bytes argument 16 8 long.of_argument (omega arith);
        in_argument_2 = in_bytes argument 16 16 long.of_argument (omega arith);
        number_fits = fits 0 bytes i.are_bytes;
        expected_fits = fits 0 argument i.are_argument;
      }

  sets : number_at 0 bytes ≡ expected argument → Finds bytes argument env
  unfolding with_number
  sets same =
      let f = facts in
      let is : (number_at 0 bytes % 2 ^ 64) == (expected argument % 2 ^ 64) ≡ true = eq-eqb _ _ (omega arith) in
      record {
        n = 12;
        outcome = λ word. record { code = 1; word = number_at 0 bytes; bytes = with_number bytes 0 (replacement argument); steps = 12 };
        is = λ stack word. simp (f.record_passes, f.argument_passes, f.in_record, f.in_argument, f.in_argument_2, reads, is);
        says = inl (record { long = long; same = same; code_is = refl; word_is = refl; bytes_are = refl });
      }

  stays : number_at 0 bytes ≢ expected argument → Finds bytes argument env
  stays other =
      let f = facts in
      let is : (number_at 0 bytes % 2 ^ 64) == (expected argument % 2 ^ 64) ≡ false = ne_eqb _ _ (λ e. other (omega arith)) in
      record {
        n = 11;
        outcome = λ word. record { code = 0; word = number_at 0 bytes; bytes = bytes; steps = 11 };
        is = λ stack word. simp (f.record_passes, f.argument_passes, f.in_record, f.in_argument, f.in_argument_2, reads, is);
        says = inr (inl (record { long = long; other = other; code_is = refl; word_is = refl; bytes_are = refl }));
      }

each : (bytes argument : List ℕ) (env : Env) → IsInput bytes argument env → Finds bytes argument env
each bytes argument env i = elim (cases_lt (length bytes) 8) [
  | inl h ↦ short_record bytes argument env h
  | inr enough ↦ elim (cases_lt (length argument) 16) [
    | inl h ↦ short_argument bytes argument env i enough h
    | inr also ↦ elim (cases_eq (number_at 0 bytes) (expected argument)) [
      | inl same ↦ sets bytes argument env i (record { of_record = enough; of_argument = also }) same
      | inr other ↦ stays bytes argument env i (record { of_record = enough; of_argument = also }) other
    ]
  ]
]

pub compares_and_sets : Means compare_and_set ComparesAndSets
compares_and_sets = means compare_and_set ComparesAndSets each
