-- The semaphore, run by computation.
use Rattle.std.proofs.Common.{ℕ, ◌≡◌, ◌≢◌, inl, inr, ◌+◌, ◌-◌, ◌<◌, ◌≤◌, ◌==◌, ◌^◌, ◌%◌, refl, List, length, arith}
use Rattle.std.specs.Prelude.{true, false, nat_lt, nat_le}
use Rattle.std.proofs.lemmas.Bool.{le-leb, lt-leb, eq-eqb, ne_eqb, cases_lt, cases_eq}
use Rattle.bpf_helpers.specs.declared.values.Env.{Env}
use Rattle.bpf_helpers.specs.Runs.{IsInput}
use Rattle.stock_programs.specs.Numbers.{with_number}
use Rattle.stock_programs.specs.Lengths.{HasLengths}
use Rattle.stock_programs.specs.Semaphore.{semaphore, holders, wanted, permits, Permits}
use Rattle.stock_programs.specs.Meaning.{Means}
use Rattle.stock_programs.proofs.LengthFacts.{few, many, in_bytes}
use Rattle.stock_programs.proofs.Meaning.{Found, means}
use Rattle.stock_programs.proofs.NumberFacts.{reads, fits, small}

abbrev Finds : List ℕ → List ℕ → Env → Type 0
Finds bytes argument env = Found semaphore Permits bytes argument env

short_record : (bytes argument : List ℕ) (env : Env) → length bytes < 8 → Finds bytes argument env
short_record bytes argument env h = record {
  n = 3;
  outcome = λ word. record { code = 4; word = word; bytes = bytes; steps = 3 };
  is = λ stack word. simp (few bytes 8 h (omega arith));
  says = inr (inr (inr (record { short = inl h; code_is = refl; word_is = refl; bytes_are = refl })));
}

short_argument : (bytes argument : List ℕ) (env : Env) → IsInput bytes argument env → 8 ≤ length bytes → length argument < 16 → Finds bytes argument env
short_argument bytes argument env i long h = record {
  n = 4;
  outcome = λ word. record { code = 4; word = word; bytes = bytes; steps = 4 };
  is = λ stack word. simp (many bytes 8 i.bytes_fit long, few argument 16 h (omega arith));
  says = inr (inr (inr (record { short = inr h; code_is = refl; word_is = refl; bytes_are = refl })));
}

module _ (bytes argument : List ℕ) (env : Env) (i : IsInput bytes argument env) (long : HasLengths 8 16 bytes argument) where
  record Facts : Type 0 where
    record_passes : nat_lt (length bytes % 2 ^ 64) 8 ≡ false
    argument_passes : nat_lt (length argument % 2 ^ 64) 16 ≡ false
    in_record : nat_le 8 (length bytes) ≡ true
    in_argument : nat_le 8 (length argument) ≡ true
    whole_argument : nat_le 16 (length argument) ≡ true
    holders_fit : holders bytes < 2 ^ 64
    wanted_fits : wanted argument < 2 ^ 64
    permits_fit : permits argument < 2 ^ 64

  facts : Facts
  facts =
      let limit : length argument ≤ 1024 = i.argument_fits in
      record {
        record_passes = many bytes 8 i.bytes_fit long.of_record;
        argument_passes = many argument 16 (omega arith) long.of_argument;
        in_record = in_bytes bytes 8 8 long.of_record (omega arith);
        in_argument = in_bytes argument 16 8 long.of_argument (omega arith);
        whole_argument = in_bytes argument 16 16 long.of_argument (omega arith);
        holders_fit = fits 0 bytes i.are_bytes;
        wanted_fits = fits 0 argument i.are_argument;
        permits_fit = fits 8 argument i.are_argument;
      }

  acquires : wanted argument ≢ 0 → holders bytes < permits argument → Finds bytes argument env
  unfolding with_number
  acquires wants free =
      let f = facts in
      let limit : permits argument < 2 ^ 64 = fits 8 argument i.are_argument in
      let test : wanted argument == 0 ≡ false = ne_eqb _ _ wants in
      let test_2 : nat_le (permits argument) (holders bytes) ≡ false = lt-leb _ _ free in
      record {
        n = 15;
        outcome = λ word. record { code = 1; word = holders bytes + 1; bytes = with_number bytes 0 (holders bytes + 1); steps = 15 };
        is = λ stack word. simp (
          f.record_passes,
          f.argument_passes,
          f.in_record,
          f.in_argument,
          f.whole_argument,
          reads 0 bytes,
          reads 0 argument,
          reads 8 argument,
          small (holders bytes) f.holders_fit,
          small (wanted argument) f.wanted_fits,
          small (permits argument) f.permits_fit,
          small (holders bytes + 1) (omega arith),
          test,
          test_2,
        );
        says = inl (record { long = long; wants = wants; free = free; code_is = refl; word_is = refl; bytes_are = refl });
      }

  releases : wanted argument ≡ 0 → 0 < holders bytes → Finds bytes argument env
  unfolding with_number
  releases gives held =
      let f = facts in
      let limit : holders bytes < 2 ^ 64 = fits 0 bytes i.are_bytes in
      let test : holders bytes == 0 ≡ false = ne_eqb _ _ (omega arith) in
      let less : (holders bytes + (2 ^ 64 - 1)) % 2 ^ 64 ≡ holders bytes - 1 = omega arith in
      record {
        n = 14;
        outcome = λ word. record { code = 1; word = holders bytes - 1; bytes = with_number bytes 0 (holders bytes - 1); steps = 14 };
        is = λ stack word. simp (
          f.record_passes,
          f.argument_passes,
          f.in_record,
          f.in_argument,
          f.whole_argument,
          reads 0 bytes,
          reads 0 argument,
          reads 8 argument,
          small (holders bytes) f.holders_fit,
          gives,
          less,
          test,
        );
        says = inr (inl (record { long = long; gives = gives; held = held; code_is = refl; word_is = refl; bytes_are = refl }));
      }

  full : wanted argument ≢ 0 → permits argument ≤ holders bytes → Finds bytes argument env
  full wants above =
      let f = facts in
      let test : wanted argument == 0 ≡ false = ne_eqb _ _ wants in
      let test_2 : nat_le (permits argument) (holders bytes) ≡ true = le-leb _ _ above in
      record {
        n = 12;
        outcome = λ word. record { code = 0; word = holders bytes; bytes = bytes; steps = 12 };
        is = λ stack word. simp (
          f.record_passes,
          f.argument_passes,
          f.in_record,
          f.in_argument,
          f.whole_argument,
          reads 0 bytes,
          reads 0 argument,
          reads 8 argument,
          small (holders bytes) f.holders_fit,
          small (wanted argument) f.wanted_fits,
          small (permits argument) f.permits_fit,
          test,
          test_2,
        );
        says = inr (inr (inl (record { long = long; denied = inl (wants, above); code_is = refl; word_is = refl; bytes_are = refl })));
      }

  empty : wanted argument ≡ 0 → holders bytes ≡ 0 → Finds bytes argument env
  empty gives none =
      let f = facts in
      let test : holders bytes == 0 ≡ true = eq-eqb _ _ none in
      record {
        n = 12;
        outcome = λ word. record { code = 0; word = holders bytes; bytes = bytes; steps = 12 };
        is = λ stack word. simp (
          f.record_passes,
          f.argument_passes,
          f.in_record,
          f.in_argument,
          f.whole_argument,
          reads 0 bytes,
          reads 0 argument,
          reads 8 argument,
          small (holders bytes) f.holders_fit,
          gives,
          test,
        );
        says = inr (inr (inl (record { long = long; denied = inr (gives, none); code_is = refl; word_is = refl; bytes_are = refl })));
      }

  whole : Finds bytes argument env
  whole = elim (cases_eq (wanted argument) 0) [
    | inl gives ↦ elim (cases_eq (holders bytes) 0) [ inl none ↦ empty gives none | inr some ↦ releases gives (omega arith) ]
    | inr wants ↦ elim (cases_lt (holders bytes) (permits argument)) [ inl free ↦ acquires wants free | inr above ↦ full wants above ]
  ]

each : (bytes argument : List ℕ) (env : Env) → IsInput bytes argument env → Finds bytes argument env
each bytes argument env i = elim (cases_lt (length bytes) 8) [
  | inl h ↦ short_record bytes argument env h
  | inr enough ↦ elim (cases_lt (length argument) 16) [
    | inl h ↦ short_argument bytes argument env i enough h
    | inr also ↦ whole bytes argument env i (record { of_record = enough; of_argument = also })
  ]
]

pub holds_permits : Means semaphore Permits
holds_permits = means semaphore Permits each
