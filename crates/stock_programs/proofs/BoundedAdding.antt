-- Bounded add, run by computation.
use Rattle.std.proofs.Common.{ℕ, ◌≡◌, inl, inr, ◌+◌, ◌-◌, ◌<◌, ◌≤◌, ◌^◌, ◌%◌, refl, List, length, arith}
use Rattle.std.specs.Prelude.{true, false, nat_lt, nat_le}
use Rattle.std.proofs.lemmas.Bool.{le-ltb, lt-ltb, cases_lt}
use Rattle.bpf_helpers.specs.declared.values.Env.{Env}
use Rattle.bpf_helpers.specs.Runs.{IsInput}
use Rattle.stock_programs.specs.Numbers.{number_at, with_number}
use Rattle.stock_programs.specs.Lengths.{HasLengths}
use Rattle.stock_programs.specs.BoundedAdd.{bounded_add, amount, bound, AddsBounded}
use Rattle.stock_programs.specs.Meaning.{Means}
use Rattle.stock_programs.proofs.LengthFacts.{few, many, in_bytes}
use Rattle.stock_programs.proofs.Meaning.{Found, means}
use Rattle.stock_programs.proofs.NumberFacts.{reads, fits, small}

abbrev Finds : List ℕ → List ℕ → Env → Type 0
Finds bytes argument env = Found bounded_add AddsBounded bytes argument env

short_record : (bytes argument : List ℕ) (env : Env) → length bytes < 8 → Finds bytes argument env
short_record bytes argument env h = record {
  n = 3;
  outcome = λ word. record { code = 4; word = word; bytes = bytes; steps = 3 };
  is = λ stack word. simp (few bytes 8 h (omega arith));
  says = inr (inr (record { short = inl h; code_is = refl; word_is = refl; bytes_are = refl }));
}

short_argument : (bytes argument : List ℕ) (env : Env) → IsInput bytes argument env → 8 ≤ length bytes → length argument < 16 → Finds bytes argument env
short_argument bytes argument env i long h = record {
  n = 4;
  outcome = λ word. record { code = 4; word = word; bytes = bytes; steps = 4 };
  is = λ stack word. simp (many bytes 8 i.bytes_fit long, few argument 16 h (omega arith));
  says = inr (inr (record { short = inr h; code_is = refl; word_is = refl; bytes_are = refl }));
}

module _ (bytes argument : List ℕ) (env : Env) (i : IsInput bytes argument env) (long : HasLengths 8 16 bytes argument) where
  record Facts : Type 0 where
    record_passes : nat_lt (length bytes % 2 ^ 64) 8 ≡ false
    argument_passes : nat_lt (length argument % 2 ^ 64) 16 ≡ false
    in_record : nat_le 8 (length bytes) ≡ true
    in_argument : nat_le 8 (length argument) ≡ true
    whole_argument : nat_le 16 (length argument) ≡ true
    number_fits : number_at 0 bytes < 2 ^ 64
    amount_fits : amount argument < 2 ^ 64
    bound_fits : bound argument < 2 ^ 64

  facts : Facts
  facts =
      let limit : length argument ≤ 1024 = i.argument_fits in
      record {
        record_passes = many bytes 8 i.bytes_fit long.of_record;
        argument_passes = many argument 16 (omega arith) long.of_argument;
        in_record = in_bytes bytes 8 8 long.of_record (omega arith);
        in_argument = in_bytes argument 16 8 long.of_argument (omega arith);
        whole_argument = in_bytes argument 16 16 long.of_argument (omega arith);
        number_fits = fits 0 bytes i.are_bytes;
        amount_fits = fits 0 argument i.are_argument;
        bound_fits = fits 8 argument i.are_argument;
      }

  -- the number is already above the bound
  above : bound argument < number_at 0 bytes → Finds bytes argument env
  above is =
      let f = facts in
      let test : nat_lt (bound argument) (number_at 0 bytes) ≡ true = lt-ltb _ _ is in
      record {
        n = 8;
        outcome = λ word. record { code = 0; word = word; bytes = bytes; steps = 8 };
        is = λ stack word. simp (
          f.record_passes,
          f.argument_passes,
          f.in_record,
          f.in_argument,
          f.whole_argument,
          reads 0 bytes,
          reads 0 argument,
          reads 8 argument,
          small (number_at 0 bytes) f.number_fits,
          small (bound argument) f.bound_fits,
          test,
        );
        says = inr (inl (record { long = long; above = omega arith; code_is = refl; word_is = refl; bytes_are = refl }));
      }

  module _ (below : number_at 0 bytes ≤ bound argument) where
    record Room : Type 0 where
      test : nat_lt (bound argument) (number_at 0 bytes) ≡ false
      room : (bound argument + (2 ^ 64 - number_at 0 bytes)) % 2 ^ 64 ≡ bound argument - number_at 0 bytes
      room_fits : bound argument - number_at 0 bytes < 2 ^ 64

    room : Room
    room =
        let a : number_at 0 bytes < 2 ^ 64 = fits 0 bytes i.are_bytes in
        let b : bound argument < 2 ^ 64 = fits 8 argument i.are_argument in
        record { test = le-ltb _ _ below; room = omega arith; room_fits = omega arith }

    too_much : bound argument < number_at 0 bytes + amount argument → Finds bytes argument env
    too_much is =
        let f = facts in
        let r = room in
        let test : nat_lt (bound argument - number_at 0 bytes) (amount argument) ≡ true = lt-ltb _ _ (omega arith) in
        record {
          n = 10;
          outcome = λ word. record { code = 0; word = word; bytes = bytes; steps = 10 };
          is = λ stack word. simp (
            f.record_passes,
            f.argument_passes,
            f.in_record,
            f.in_argument,
            f.whole_argument,
            reads 0 bytes,
            reads 0 argument,
            reads 8 argument,
            small (number_at 0 bytes) f.number_fits,
            small (bound argument) f.bound_fits,
            small (amount argument) f.amount_fits,
            r.test,
            r.room,
            small (bound argument - number_at 0 bytes) r.room_fits,
            test,
          );
          says = inr (inl (record { long = long; above = is; code_is = refl; word_is = refl; bytes_are = refl }));
        }

    adds : number_at 0 bytes + amount argument ≤ bound argument → Finds bytes argument env
    unfolding with_number
    adds is =
        let f = facts in
        let r = room in
        let b : bound argument < 2 ^ 64 = fits 8 argument i.are_argument in
        let test : nat_lt (bound argument - number_at 0 bytes) (amount argument) ≡ false = le-ltb _ _ (omega arith) in
        let sum_fits : number_at 0 bytes + amount argument < 2 ^ 64 = omega arith in
        record {
          n = 12;
          outcome = λ word. record { code = 1; word = word; bytes = with_number bytes 0 (number_at 0 bytes + amount argument); steps = 12 };
          is = λ stack word. simp (
            f.record_passes,
            f.argument_passes,
            f.in_record,
            f.in_argument,
            f.whole_argument,
            reads 0 bytes,
            reads 0 argument,
            reads 8 argument,
            small (number_at 0 bytes) f.number_fits,
            small (bound argument) f.bound_fits,
            small (amount argument) f.amount_fits,
            r.test,
            r.room,
            small (bound argument - number_at 0 bytes) r.room_fits,
            test,
            small (number_at 0 bytes + amount argument) sum_fits,
          );
          says = inl (record { long = long; within = is; code_is = refl; word_is = refl; bytes_are = refl });
        }

  whole : Finds bytes argument env
  whole = elim (cases_lt (bound argument) (number_at 0 bytes)) [
    | inl is ↦ above is
    | inr below ↦ elim (cases_lt (bound argument) (number_at 0 bytes + amount argument)) [
      | inl much ↦ too_much below much
      | inr within ↦ adds below within
    ]
  ]

each : (bytes argument : List ℕ) (env : Env) → IsInput bytes argument env → Finds bytes argument env
each bytes argument env i = elim (cases_lt (length bytes) 8) [
  | inl h ↦ short_record bytes argument env h
  | inr enough ↦ elim (cases_lt (length argument) 16) [
    | inl h ↦ short_argument bytes argument env i enough h
    | inr also ↦ whole bytes argument env i (record { of_record = enough; of_argument = also })
  ]
]

pub adds_bounded : Means bounded_add AddsBounded
adds_bounded = means bounded_add AddsBounded each
