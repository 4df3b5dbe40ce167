-- The bounded counter, run by computation.
use Rattle.std.proofs.Common.{ℕ, ◌≡◌, inl, inr, ◌+◌, ◌-◌, ◌<◌, ◌≤◌, ◌^◌, ◌%◌, refl, sym, ◌∙◌, subst, List, [], ◌∷◌, pos, length, arith}
use Rattle.std.specs.Prelude.{true, false, Some, nat_lt, nat_le}
use Rattle.std.proofs.lemmas.Bool.{le-leb, lt-leb, le-ltb, lt-ltb, cases_lt}
use Rattle.bpf_helpers.specs.declared.values.Env.{Env}
use Rattle.bpf_helpers.specs.declared.values.Value.TheVariants.{Nothing, Number, Pointer}
use Rattle.bpf_helpers.specs.declared.values.Region.TheVariants.{Record, Argument, Stack}
use Rattle.bpf_helpers.specs.Machine.{Config}
use Rattle.bpf_helpers.specs.Runs.{IsInput}
use Rattle.stock_programs.specs.Numbers.{number_at, with_number}
use Rattle.stock_programs.specs.Lengths.{HasLengths}
use Rattle.stock_programs.specs.BoundedCounter.{bounded_counter, amount, floor, ceiling, SumIs, IsWithin, CountsWithin}
use Rattle.stock_programs.specs.Meaning.{Means}
use Rattle.stock_programs.proofs.Forward.{begin, forward, later, walk, walk_then}
use Rattle.stock_programs.proofs.LengthFacts.{few, many, in_bytes}
use Rattle.stock_programs.proofs.Meaning.{Found, means}
use Rattle.stock_programs.proofs.NumberFacts.{reads, fits, small}

abbrev Finds : List ℕ → List ℕ → Env → Type 0
Finds bytes argument env = Found bounded_counter CountsWithin bytes argument env

short_record : (bytes argument : List ℕ) (env : Env) → length bytes < 8 → Finds bytes argument env
short_record bytes argument env h = record {
  n = 3;
  outcome = λ word. record { code = 4; word = word; bytes = bytes; steps = 3 };
  is = λ stack word. simp (few bytes 8 h (omega arith));
  says = inr (inr (record { short = inl h; code_is = refl; word_is = refl; bytes_are = refl }));
}

short_argument : (bytes argument : List ℕ) (env : Env) → IsInput bytes argument env → 8 ≤ length bytes → length argument < 24 → Finds bytes argument env
short_argument bytes argument env i long h = record {
  n = 4;
  outcome = λ word. record { code = 4; word = word; bytes = bytes; steps = 4 };
  is = λ stack word. simp (many bytes 8 i.bytes_fit long, few argument 24 h (omega arith));
  says = inr (inr (record { short = inr h; code_is = refl; word_is = refl; bytes_are = refl }));
}

module _ (bytes argument : List ℕ) (env : Env) (i : IsInput bytes argument env) (long : HasLengths 8 24 bytes argument) where
  abbrev old : ℕ
  old = number_at 0 bytes

  record Facts : Type 0 where
    record_passes : nat_lt (length bytes % 2 ^ 64) 8 ≡ false
    argument_passes : nat_lt (length argument % 2 ^ 64) 24 ≡ false
    in_record : nat_le 8 (length bytes) ≡ true
    first_number : nat_le 8 (length argument) ≡ true
    second_number : nat_le 16 (length argument) ≡ true
    third_number : nat_le 24 (length argument) ≡ true

  facts : Facts
  facts =
      let limit : length argument ≤ 1024 = i.argument_fits in
      record {
        record_passes = many bytes 8 i.bytes_fit long.of_record;
        argument_passes = many argument 24 (omega arith) long.of_argument;
        in_record = in_bytes bytes 8 8 long.of_record (omega arith);
        first_number = in_bytes argument 24 8 long.of_argument (omega arith);
        second_number = in_bytes argument 24 16 long.of_argument (omega arith);
        third_number = in_bytes argument 24 24 long.of_argument (omega arith);
      }

  record Known : Type 0 where
    old_fits : old < 2 ^ 64
    amount_fits : amount argument < 2 ^ 64
    floor_fits : floor argument < 2 ^ 64
    ceiling_fits : ceiling argument < 2 ^ 64

  known : Known
  known = record {
    old_fits = fits 0 bytes i.are_bytes;
    amount_fits = fits 0 argument i.are_argument;
    floor_fits = fits 8 argument i.are_argument;
    ceiling_fits = fits 16 argument i.are_argument;
  }

  -- ---- the pieces of the paths

  module _ (stack : List ℕ) (word : ℕ) where
    abbrev at : ℕ → ℕ → Config
    at place r8 = record {
      place = place;
      registers = Number (2 ^ 63 - 1) ∷ Pointer Record (pos 0) ∷ Number (length bytes) ∷ Pointer Argument (pos 0) ∷ Number (length argument)
          ∷ Number (ceiling argument) ∷ Pointer Record (pos 0) ∷ Number old ∷ Number r8 ∷ Number (floor argument) ∷ Pointer Stack (pos 0) ∷ [];
      bytes = bytes;
      argument = argument;
      stack = stack;
      word = word;
      env = env;
    }

    -- the sign of the amount is tested at unit 9, the bounds at 15, and the sum is refused from 22 on
    to_sign : walk 9 bounded_counter (begin stack word bytes argument env) ≡ Some (at 9 (amount argument))
    to_sign =
        let t = facts in
        simp (
          t.record_passes,
          t.argument_passes,
          t.in_record,
          t.first_number,
          t.second_number,
          t.third_number,
          reads 0 bytes,
          reads 0 argument,
          reads 8 argument,
          reads 16 argument,
        )

    rises : amount argument < 2 ^ 63 → old + amount argument < 2 ^ 64 → walk 4 bounded_counter (at 9 (amount argument)) ≡ Some (at 15 (old + amount argument))
    rises up fit =
        let k : Known = known in
        let sign : nat_lt (2 ^ 63 - 1) (amount argument) ≡ false = le-ltb _ _ (omega arith) in
        let sum : (amount argument + old) % 2 ^ 64 ≡ old + amount argument = omega arith in
        let test : nat_lt (old + amount argument) old ≡ false = le-ltb _ _ (omega arith) in
        simp (small (amount argument) k.amount_fits, small old k.old_fits, small (old + amount argument) fit, sign, sum, test)

    overflows : amount argument < 2 ^ 63 → 2 ^ 64 ≤ old + amount argument
        → walk 3 bounded_counter (at 9 (amount argument)) ≡ Some (at 22 (old + amount argument - 2 ^ 64))
    overflows up past =
        let k : Known = known in
        let sign : nat_lt (2 ^ 63 - 1) (amount argument) ≡ false = le-ltb _ _ (omega arith) in
        let sum : (amount argument + old) % 2 ^ 64 ≡ old + amount argument - 2 ^ 64 = omega arith in
        let test : nat_lt (old + amount argument - 2 ^ 64) old ≡ true = lt-ltb _ _ (omega arith) in
        simp (small (amount argument) k.amount_fits, small old k.old_fits, small (old + amount argument - 2 ^ 64) (omega arith), sign, sum, test)

    falls : 2 ^ 63 ≤ amount argument → 2 ^ 64 - amount argument ≤ old
        → walk 3 bounded_counter (at 9 (amount argument)) ≡ Some (at 15 (old + amount argument - 2 ^ 64))
    falls down enough =
        let k : Known = known in
        let sign : nat_lt (2 ^ 63 - 1) (amount argument) ≡ true = lt-ltb _ _ (omega arith) in
        let sum : (amount argument + old) % 2 ^ 64 ≡ old + amount argument - 2 ^ 64 = omega arith in
        let test : nat_le old (old + amount argument - 2 ^ 64) ≡ false = lt-leb _ _ (omega arith) in
        simp (small (amount argument) k.amount_fits, small old k.old_fits, small (old + amount argument - 2 ^ 64) (omega arith), sign, sum, test)

    underflows : 2 ^ 63 ≤ amount argument → old < 2 ^ 64 - amount argument
        → walk 3 bounded_counter (at 9 (amount argument)) ≡ Some (at 22 (old + amount argument))
    underflows down less =
        let k : Known = known in
        let sign : nat_lt (2 ^ 63 - 1) (amount argument) ≡ true = lt-ltb _ _ (omega arith) in
        let sum : (amount argument + old) % 2 ^ 64 ≡ old + amount argument = omega arith in
        let test : nat_le old (old + amount argument) ≡ true = le-leb _ _ (omega arith) in
        simp (small (amount argument) k.amount_fits, small old k.old_fits, small (old + amount argument) (omega arith), sign, sum, test)

    refuses : (k r8 : ℕ) → forward 4 k bounded_counter (at 22 r8) ≡ Some (record { code = 0; word = old; bytes = bytes; steps = later 4 k })
    refuses k r8 = refl

    too_low : (k sum : ℕ) → sum < 2 ^ 64 → sum < floor argument
        → forward 5 k bounded_counter (at 15 sum) ≡ Some (record { code = 0; word = old; bytes = bytes; steps = later 5 k })
    too_low k sum fit low =
        let n : Known = known in
        let test : nat_lt sum (floor argument) ≡ true = lt-ltb _ _ low in
        simp (small sum fit, small (floor argument) n.floor_fits, test)

    too_high : (k sum : ℕ) → sum < 2 ^ 64 → floor argument ≤ sum → ceiling argument < sum
        → forward 6 k bounded_counter (at 15 sum) ≡ Some (record { code = 0; word = old; bytes = bytes; steps = later 6 k })
    too_high k sum fit above high =
        let n : Known = known in
        let test : nat_lt sum (floor argument) ≡ false = le-ltb _ _ above in
        let test_2 : nat_lt (ceiling argument) sum ≡ true = lt-ltb _ _ high in
        simp (small sum fit, small (floor argument) n.floor_fits, small (ceiling argument) n.ceiling_fits, test, test_2)

    adds : (k sum : ℕ) → sum < 2 ^ 64 → floor argument ≤ sum → sum ≤ ceiling argument
        → forward 7 k bounded_counter (at 15 sum) ≡ Some (record { code = 1; word = sum; bytes = with_number bytes 0 sum; steps = later 7 k })
    unfolding with_number
    adds k sum fit above below =
        let n : Known = known in
        let test : nat_lt sum (floor argument) ≡ false = le-ltb _ _ above in
        let test_2 : nat_lt (ceiling argument) sum ≡ false = le-ltb _ _ below in
        simp (facts.in_record, small sum fit, small (floor argument) n.floor_fits, small (ceiling argument) n.ceiling_fits, test, test_2)

  -- ---- all paths

  -- the sum is unique
  one_sum : (a b : ℕ) → SumIs old (amount argument) a → SumIs old (amount argument) b → a ≡ b
  one_sum a b (inl x) (inl y) = sym x.1 ∙ y.1
  one_sum a b (inl x) (inr y) = let less : amount argument < 2 ^ 63 = x.0 in let more : 2 ^ 63 ≤ amount argument = y.0 in absurd (omega arith)
  one_sum a b (inr x) (inl y) = let less : amount argument < 2 ^ 63 = y.0 in let more : 2 ^ 63 ≤ amount argument = x.0 in absurd (omega arith)
  one_sum a b (inr x) (inr y) = let p : old ≡ a + (2 ^ 64 - amount argument) = x.1 in let q : old ≡ b + (2 ^ 64 - amount argument) = y.1 in omega arith

  -- the sum is a number of 64 bits; a path of m steps leads to its test
  tests : (m sum : ℕ) → sum < 2 ^ 64 → SumIs old (amount argument) sum
      → ((stack : List ℕ) (word : ℕ) → walk m bounded_counter (at stack word 9 (amount argument)) ≡ Some (at stack word 15 sum)) → Finds bytes argument env
  tests m sum fit is way = elim (cases_lt sum (floor argument)) [
    | inl low ↦ record {
      n = 9 + (m + 5);
      outcome = λ word. record { code = 0; word = old; bytes = bytes; steps = later 5 (m + 9) };
      is = λ stack word. walk_then 9 (m + 5) 0 bounded_counter (begin stack word bytes argument env) (at stack word 9 (amount argument)) _ (to_sign stack word)
          (walk_then m 5 9 bounded_counter (at stack word 9 (amount argument)) (at stack word 15 sum) _ (way stack word) (too_low stack word (m + 9) sum fit low));
      says = inr (inl (record {
        long = long;
        outside = λ s within. let same : s ≡ sum = one_sum s sum within.is is in let up : floor argument ≤ s = within.low in omega arith;
        code_is = refl;
        word_is = refl;
        bytes_are = refl;
      }));
    }
    | inr above ↦ elim (cases_lt (ceiling argument) sum) [
      | inl high ↦ record {
        n = 9 + (m + 6);
        outcome = λ word. record { code = 0; word = old; bytes = bytes; steps = later 6 (m + 9) };
        is = λ stack word. walk_then 9 (m + 6) 0 bounded_counter (begin stack word bytes argument env) (at stack word 9 (amount argument)) _ (to_sign stack word)
            (walk_then m 6 9 bounded_counter (at stack word 9 (amount argument)) (at stack word 15 sum) _ (way stack word) (too_high stack word (m + 9) sum fit above high));
        says = inr (inl (record {
          long = long;
          outside = λ s within. let same : s ≡ sum = one_sum s sum within.is is in let down : s ≤ ceiling argument = within.high in omega arith;
          code_is = refl;
          word_is = refl;
          bytes_are = refl;
        }));
      }
      | inr below ↦ record {
        n = 9 + (m + 7);
        outcome = λ word. record { code = 1; word = sum; bytes = with_number bytes 0 sum; steps = later 7 (m + 9) };
        is = λ stack word. walk_then 9 (m + 7) 0 bounded_counter (begin stack word bytes argument env) (at stack word 9 (amount argument)) _ (to_sign stack word)
            (walk_then m 7 9 bounded_counter (at stack word 9 (amount argument)) (at stack word 15 sum) _ (way stack word) (adds stack word (m + 9) sum fit above below));
        says = inl (record { long = long; within = record { is = is; low = above; high = below }; code_is = refl; bytes_are = refl });
      }
    ]
  ]

  -- no number of 64 bits is the sum
  leaves : (r8 : ℕ) → ((s : ℕ) → IsWithin bytes argument s → ⊥)
      → ((stack : List ℕ) (word : ℕ) → walk 3 bounded_counter (at stack word 9 (amount argument)) ≡ Some (at stack word 22 r8)) → Finds bytes argument env
  leaves r8 none way = record {
    n = 16;
    outcome = λ word. record { code = 0; word = old; bytes = bytes; steps = 16 };
    is = λ stack word. walk_then 9 7 0 bounded_counter (begin stack word bytes argument env) (at stack word 9 (amount argument)) _ (to_sign stack word)
        (walk_then 3 4 9 bounded_counter (at stack word 9 (amount argument)) (at stack word 22 r8) _ (way stack word) (refuses stack word 12 r8));
    says = inr (inl (record { long = long; outside = none; code_is = refl; word_is = refl; bytes_are = refl }));
  }

  -- a sum above 2 ^ 64 - 1 or below 0 is not within the bounds
  past : amount argument < 2 ^ 63 → 2 ^ 64 ≤ old + amount argument → (s : ℕ) → IsWithin bytes argument s → ⊥
  past up over s within = elim within.is [
    | inl x ↦ let sum : old + amount argument ≡ s = x.1 in let down : s ≤ ceiling argument = within.high in let k : Known = known in omega (arith, k.ceiling_fits)
    | inr x ↦ let more : 2 ^ 63 ≤ amount argument = x.0 in omega arith
  ]

  under : 2 ^ 63 ≤ amount argument → old < 2 ^ 64 - amount argument → (s : ℕ) → IsWithin bytes argument s → ⊥
  under down less s within = elim within.is [
    | inl x ↦ let fewer : amount argument < 2 ^ 63 = x.0 in omega arith
    | inr x ↦ let sum : old ≡ s + (2 ^ 64 - amount argument) = x.1 in omega arith
  ]

  whole : Finds bytes argument env
  whole =
      let k : Known = known in
      elim (cases_lt (amount argument) (2 ^ 63)) [
        | inl up ↦ elim (cases_lt (old + amount argument) (2 ^ 64)) [
          | inl fit ↦ tests 4 (old + amount argument) fit (inl (up, refl)) (λ stack word. rises stack word up fit)
          | inr over ↦ leaves (old + amount argument - 2 ^ 64) (past up over) (λ stack word. overflows stack word up over)
        ]
        | inr down ↦ elim (cases_lt old (2 ^ 64 - amount argument)) [
          | inl less ↦ leaves (old + amount argument) (under down less) (λ stack word. underflows stack word down less)
          | inr enough ↦
              tests 3 (old + amount argument - 2 ^ 64) (omega (arith, k.old_fits, k.amount_fits)) (inr (down, omega (arith, k.amount_fits)))
              (λ stack word. falls stack word down enough)
        ]
      ]

each : (bytes argument : List ℕ) (env : Env) → IsInput bytes argument env → Finds bytes argument env
each bytes argument env i = elim (cases_lt (length bytes) 8) [
  | inl h ↦ short_record bytes argument env h
  | inr enough ↦ elim (cases_lt (length argument) 24) [
    | inl h ↦ short_argument bytes argument env i enough h
    | inr also ↦ whole bytes argument env i (record { of_record = enough; of_argument = also })
  ]
]

pub counts_within : Means bounded_counter CountsWithin
counts_within = means bounded_counter CountsWithin each
