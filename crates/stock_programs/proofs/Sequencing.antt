-- The sequence, run by computation.
use Rattle.std.proofs.Common.{ℕ, ◌≡◌, inl, inr, ◌<◌, ◌≤◌, ◌++◌, ◌^◌, ◌%◌, refl, List, length, take, drop, arith}
use Rattle.std.specs.Prelude.{true, false, nat_lt, nat_le}
use Rattle.std.proofs.lemmas.List.{length-take}
use Rattle.std.proofs.lemmas.Bool.{le-leb, lt-leb, cases_lt}
use Rattle.bpf_helpers.specs.declared.values.Env.{Env}
use Rattle.bpf_helpers.specs.Runs.{IsInput}
use Rattle.stock_programs.specs.Numbers.{number_at}
use Rattle.stock_programs.specs.Lengths.{HasLengths}
use Rattle.stock_programs.specs.Sequence.{sequence, Sequences}
use Rattle.stock_programs.specs.Meaning.{Means}
use Rattle.stock_programs.proofs.LengthFacts.{few, many, in_bytes}
use Rattle.stock_programs.proofs.Meaning.{Found, means}
use Rattle.stock_programs.proofs.NumberFacts.{reads, fits, small}

abbrev Finds : List ℕ → List ℕ → Env → Type 0
Finds bytes argument env = Found sequence Sequences bytes argument env

short_record : (bytes argument : List ℕ) (env : Env) → length bytes < 24 → Finds bytes argument env
short_record bytes argument env h = record {
  n = 3;
  outcome = λ word. record { code = 4; word = word; bytes = bytes; steps = 3 };
  is = λ stack word. simp (few bytes 24 h (omega arith));
  says = inr (inr (record { short = inl h; code_is = refl; word_is = refl; bytes_are = refl }));
}

short_argument : (bytes argument : List ℕ) (env : Env) → IsInput bytes argument env → 24 ≤ length bytes → length argument < 24 → Finds bytes argument env
short_argument bytes argument env i long h = record {
  n = 4;
  outcome = λ word. record { code = 4; word = word; bytes = bytes; steps = 4 };
  is = λ stack word. simp (many bytes 24 i.bytes_fit long, few argument 24 h (omega arith));
  says = inr (inr (record { short = inr h; code_is = refl; word_is = refl; bytes_are = refl }));
}

module _ (bytes argument : List ℕ) (env : Env) (i : IsInput bytes argument env) (long : HasLengths 24 24 bytes argument) where
  record Facts : Type 0 where
    record_passes : nat_lt (length bytes % 2 ^ 64) 24 ≡ false
    argument_passes : nat_lt (length argument % 2 ^ 64) 24 ≡ false
    in_record : nat_le 8 (length bytes) ≡ true
    whole_record : nat_le 24 (length bytes) ≡ true
    in_argument : nat_le 8 (length argument) ≡ true
    whole_argument : nat_le 24 (length argument) ≡ true
    old_fits : number_at 0 bytes < 2 ^ 64
    new_fits : number_at 0 argument < 2 ^ 64

  facts : Facts
  facts =
      let limit : length argument ≤ 1024 = i.argument_fits in
      record {
        record_passes = many bytes 24 i.bytes_fit long.of_record;
        argument_passes = many argument 24 (omega arith) long.of_argument;
        in_record = in_bytes bytes 24 8 long.of_record (omega arith);
        whole_record = in_bytes bytes 24 24 long.of_record (omega arith);
        in_argument = in_bytes argument 24 8 long.of_argument (omega arith);
        whole_argument = in_bytes argument 24 24 long.of_argument (omega arith);
        old_fits = fits 0 bytes i.are_bytes;
        new_fits = fits 0 argument i.are_argument;
      }

  newer : number_at 0 bytes < number_at 0 argument → Finds bytes argument env
  newer is =
      let t = facts in
      let g : nat_le (number_at 0 argument) (number_at 0 bytes) ≡ false = lt-leb _ _ is in
      let many : 24 ≤ length argument = long.of_argument in
      let count : length (take 24 argument) ≡ 24 = simp length-take (omega arith) in
      record {
        n = 12;
        outcome = λ word. record { code = 1; word = number_at 0 argument; bytes = take 24 argument ++ drop 24 bytes; steps = 12 };
        is = λ stack word. simp (
          t.record_passes,
          t.argument_passes,
          t.in_record,
          t.whole_record,
          t.in_argument,
          t.whole_argument,
          reads 0 bytes,
          reads 0 argument,
          small (number_at 0 bytes) t.old_fits,
          small (number_at 0 argument) t.new_fits,
          g,
          count,
        );
        says = inl (record { long = long; newer = is; code_is = refl; word_is = refl; bytes_are = refl });
      }

  old : number_at 0 argument ≤ number_at 0 bytes → Finds bytes argument env
  old is =
      let t = facts in
      let g : nat_le (number_at 0 argument) (number_at 0 bytes) ≡ true = le-leb _ _ is in
      record {
        n = 9;
        outcome = λ word. record { code = 0; word = number_at 0 bytes; bytes = bytes; steps = 9 };
        is = λ stack word. simp (
          t.record_passes,
          t.argument_passes,
          t.in_record,
          t.in_argument,
          reads 0 bytes,
          reads 0 argument,
          small (number_at 0 bytes) t.old_fits,
          small (number_at 0 argument) t.new_fits,
          g,
        );
        says = inr (inl (record { long = long; old = is; code_is = refl; word_is = refl; bytes_are = refl }));
      }

each : (bytes argument : List ℕ) (env : Env) → IsInput bytes argument env → Finds bytes argument env
each bytes argument env i = elim (cases_lt (length bytes) 24) [
  | inl h ↦ short_record bytes argument env h
  | inr enough ↦ elim (cases_lt (length argument) 24) [
    | inl h ↦ short_argument bytes argument env i enough h
    | inr also ↦ elim (cases_lt (number_at 0 bytes) (number_at 0 argument)) [
      | inl is ↦ newer bytes argument env i (record { of_record = enough; of_argument = also }) is
      | inr is ↦ old bytes argument env i (record { of_record = enough; of_argument = also }) is
    ]
  ]
]

pub sequences : Means sequence Sequences
sequences = means sequence Sequences each
