-- The token bucket, run by computation.
use Rattle.std.proofs.Common.{ℕ, ◌≡◌, inl, inr, ap, ◌∙◌, ◌+◌, ◌-◌, ◌<◌, ◌≤◌, ◌^◌, ◌%◌, refl, List, [], ◌∷◌, pos, length, arith}
use Rattle.std.specs.Prelude.{true, false, Some, nat_lt, nat_le}
use Rattle.std.proofs.lemmas.Bool.{le-leb, lt-leb, le-ltb, lt-ltb, cases_lt}
use Rattle.bpf_helpers.specs.declared.values.Env.{Env}
use Rattle.bpf_helpers.specs.declared.values.Value.TheVariants.{Nothing, Number, Pointer}
use Rattle.bpf_helpers.specs.declared.values.Region.TheVariants.{Record, Stack}
use Rattle.bpf_helpers.specs.Machine.{Config}
use Rattle.bpf_helpers.specs.Runs.{IsInput}
use Rattle.stock_programs.specs.Numbers.{with_number}
use Rattle.stock_programs.specs.Lengths.{HasLengths}
use Rattle.stock_programs.specs.TokenBucket.{token_bucket, full_at, cost, capacity, start_at, Pours}
use Rattle.stock_programs.specs.Meaning.{Means}
use Rattle.stock_programs.proofs.Forward.{begin, forward, later, walk, walk_then}
use Rattle.stock_programs.proofs.LengthFacts.{few, many, in_bytes}
use Rattle.stock_programs.proofs.Meaning.{Found, means}
use Rattle.stock_programs.proofs.NumberFacts.{reads, fits, small}

abbrev Finds : List ℕ → List ℕ → Env → Type 0
Finds bytes argument env = Found token_bucket Pours bytes argument env

short_record : (bytes argument : List ℕ) (env : Env) → length bytes < 8 → Finds bytes argument env
short_record bytes argument env h = record {
  n = 3;
  outcome = λ word. record { code = 4; word = word; bytes = bytes; steps = 3 };
  is = λ stack word. simp (few bytes 8 h (omega arith));
  says = inr (inr (inr (record { short = inl h; code_is = refl; word_is = refl; bytes_are = refl })));
}

short_argument : (bytes argument : List ℕ) (env : Env) → IsInput bytes argument env → 8 ≤ length bytes → length argument < 16 → Finds bytes argument env
short_argument bytes argument env i long h = record {
  n = 4;
  outcome = λ word. record { code = 4; word = word; bytes = bytes; steps = 4 };
  is = λ stack word. simp (many bytes 8 i.bytes_fit long, few argument 16 h (omega arith));
  says = inr (inr (inr (record { short = inr h; code_is = refl; word_is = refl; bytes_are = refl })));
}

module _ (bytes argument : List ℕ) (env : Env) (i : IsInput bytes argument env) (long : HasLengths 8 16 bytes argument) where
  record Facts : Type 0 where
    record_passes : nat_lt (length bytes % 2 ^ 64) 8 ≡ false
    argument_passes : nat_lt (length argument % 2 ^ 64) 16 ≡ false
    in_record : nat_le 8 (length bytes) ≡ true
    in_argument : nat_le 8 (length argument) ≡ true
    whole_argument : nat_le 16 (length argument) ≡ true

  facts : Facts
  facts =
      let limit : length argument ≤ 1024 = i.argument_fits in
      record {
        record_passes = many bytes 8 i.bytes_fit long.of_record;
        argument_passes = many argument 16 (omega arith) long.of_argument;
        in_record = in_bytes bytes 8 8 long.of_record (omega arith);
        in_argument = in_bytes argument 16 8 long.of_argument (omega arith);
        whole_argument = in_bytes argument 16 16 long.of_argument (omega arith);
      }

  record Known : Type 0 where
    now_fits : env.now < 2 ^ 64
    full_fits : full_at bytes < 2 ^ 64
    cost_fits : cost argument < 2 ^ 64
    capacity_fits : capacity argument < 2 ^ 64

  known : Known
  known = record {
    now_fits = i.now_fits;
    full_fits = fits 0 bytes i.are_bytes;
    cost_fits = fits 0 argument i.are_argument;
    capacity_fits = fits 8 argument i.are_argument;
  }

  -- ---- the common point of the paths: the time at which the bucket is full is known

  -- the tests and numbers of a cost that is not above the capacity
  record Gap (start : ℕ) : Type 0 where
    test : nat_lt (capacity argument) (cost argument) ≡ false
    spare : (capacity argument + (2 ^ 64 - cost argument)) % 2 ^ 64 ≡ capacity argument - cost argument
    spare_fits : capacity argument - cost argument < 2 ^ 64
    missing : (start + (2 ^ 64 - env.now)) % 2 ^ 64 ≡ start - env.now
    missing_fits : start - env.now < 2 ^ 64

  gap : (start : ℕ) → start < 2 ^ 64 → env.now ≤ start → cost argument ≤ capacity argument → Gap start
  gap start fit late less =
      let cap : capacity argument < 2 ^ 64 = fits 8 argument i.are_argument in
      let now : env.now < 2 ^ 64 = i.now_fits in
      record { test = le-ltb _ _ less; spare = omega arith; spare_fits = omega arith; missing = omega arith; missing_fits = omega arith }

  module _ (stack : List ℕ) (word : ℕ) where
    abbrev at_take : ℕ → Config
    at_take start = record {
      place = 9;
      registers = Number env.now ∷ Nothing ∷ Nothing ∷ Nothing ∷ Nothing ∷ Nothing ∷ Pointer Record (pos 0)
          ∷ Number (cost argument) ∷ Number (capacity argument) ∷ Number start ∷ Pointer Stack (pos 0) ∷ [];
      bytes = bytes;
      argument = argument;
      stack = stack;
      word = word;
      env = env;
    }

    costs_more : (k start : ℕ) → capacity argument < cost argument
        → forward 5 k token_bucket (at_take start) ≡ Some (record { code = 0; word = 2 ^ 64 - 1; bytes = bytes; steps = later 5 k })
    costs_more k start more =
        let n : Known = known in
        let test : nat_lt (capacity argument) (cost argument) ≡ true = lt-ltb _ _ more in
        simp (small (cost argument) n.cost_fits, small (capacity argument) n.capacity_fits, test)

    waits : (k start : ℕ) → start < 2 ^ 64 → env.now ≤ start → cost argument ≤ capacity argument → capacity argument - cost argument < start - env.now
        → forward 9 k token_bucket (at_take start)
        ≡ Some (record { code = 0; word = start - env.now - (capacity argument - cost argument); bytes = bytes; steps = later 9 k })
    waits k start fit late less little =
        let n : Known = known in
        let g = gap start fit late less in
        let test : nat_lt (capacity argument - cost argument) (start - env.now) ≡ true = lt-ltb _ _ little in
        let wait : (start - env.now + (2 ^ 64 - (capacity argument - cost argument))) % 2 ^ 64 ≡ start - env.now - (capacity argument - cost argument) = omega arith in
        simp (
          small (cost argument) n.cost_fits,
          small (capacity argument) n.capacity_fits,
          small start fit,
          small env.now n.now_fits,
          small (capacity argument - cost argument) g.spare_fits,
          small (start - env.now) g.missing_fits,
          g.test,
          g.spare,
          g.missing,
          test,
          wait,
        )

    overflows : (k start : ℕ) → start < 2 ^ 64 → env.now ≤ start → cost argument ≤ capacity argument → start - env.now ≤ capacity argument - cost argument
        → 2 ^ 64 ≤ start + cost argument
        → forward 12 k token_bucket (at_take start) ≡ Some (record { code = 0; word = 2 ^ 64 - 1; bytes = bytes; steps = later 12 k })
    overflows k start fit late less enough past =
        let n : Known = known in
        let c : cost argument < 2 ^ 64 = n.cost_fits in
        let cap : capacity argument < 2 ^ 64 = n.capacity_fits in
        let g = gap start fit late less in
        let test : nat_lt (capacity argument - cost argument) (start - env.now) ≡ false = le-ltb _ _ enough in
        let left : (capacity argument - cost argument + (2 ^ 64 - (start - env.now))) % 2 ^ 64 ≡ capacity argument - cost argument - (start - env.now) = omega arith in
        let sum : (cost argument + start) % 2 ^ 64 ≡ start + cost argument - 2 ^ 64 = omega arith in
        let test_2 : nat_lt (start + cost argument - 2 ^ 64) start ≡ true = lt-ltb _ _ (omega arith) in
        simp (
          small (cost argument) n.cost_fits,
          small (capacity argument) n.capacity_fits,
          small start fit,
          small env.now n.now_fits,
          small (capacity argument - cost argument) g.spare_fits,
          small (start - env.now) g.missing_fits,
          small (start + cost argument - 2 ^ 64) (omega arith),
          g.test,
          g.spare,
          g.missing,
          test,
          left,
          sum,
          test_2,
        )

    pours : (k start : ℕ) → start < 2 ^ 64 → env.now ≤ start → cost argument ≤ capacity argument → start - env.now ≤ capacity argument - cost argument
        → start + cost argument < 2 ^ 64
        → forward 13 k token_bucket (at_take start) ≡ Some (record {
          code = 1;
          word = capacity argument - cost argument - (start - env.now);
          bytes = with_number bytes 0 (start + cost argument);
          steps = later 13 k;
        })
    unfolding with_number
    pours k start fit late less enough below =
        let n : Known = known in
        let c : cost argument < 2 ^ 64 = n.cost_fits in
        let cap : capacity argument < 2 ^ 64 = n.capacity_fits in
        let g = gap start fit late less in
        let test : nat_lt (capacity argument - cost argument) (start - env.now) ≡ false = le-ltb _ _ enough in
        let left : (capacity argument - cost argument + (2 ^ 64 - (start - env.now))) % 2 ^ 64 ≡ capacity argument - cost argument - (start - env.now) = omega arith in
        let sum : (cost argument + start) % 2 ^ 64 ≡ start + cost argument = omega arith in
        let test_2 : nat_lt (start + cost argument) start ≡ false = le-ltb _ _ (omega arith) in
        simp (
          facts.in_record,
          small (cost argument) n.cost_fits,
          small (capacity argument) n.capacity_fits,
          small start fit,
          small env.now n.now_fits,
          small (capacity argument - cost argument) g.spare_fits,
          small (start - env.now) g.missing_fits,
          small (start + cost argument) below,
          g.test,
          g.spare,
          g.missing,
          test,
          left,
          sum,
          test_2,
        )

  -- a path of m steps to `take`
  record Way (m start : ℕ) : Type 0 where
    leads : (stack : List ℕ) (word : ℕ) → walk m token_bucket (begin stack word bytes argument env) ≡ Some (at_take stack word start)
    is : start ≡ start_at bytes env.now

  full : full_at bytes < env.now → Way 9 env.now
  full past =
      let t = facts in
      let k : Known = known in
      let test : nat_le env.now (full_at bytes) ≡ false = lt-leb _ _ past in
      record {
        leads = λ stack word. simp (
          t.record_passes,
          t.argument_passes,
          t.in_record,
          t.in_argument,
          t.whole_argument,
          reads 0 bytes,
          reads 0 argument,
          reads 8 argument,
          small env.now k.now_fits,
          small (full_at bytes) k.full_fits,
          test,
        );
        is = omega arith;
      }

  filling : env.now ≤ full_at bytes → Way 8 (full_at bytes)
  filling ahead =
      let t = facts in
      let k : Known = known in
      let test : nat_le env.now (full_at bytes) ≡ true = le-leb _ _ ahead in
      record {
        leads = λ stack word. simp (
          t.record_passes,
          t.argument_passes,
          t.in_record,
          t.in_argument,
          t.whole_argument,
          reads 0 bytes,
          reads 0 argument,
          reads 8 argument,
          small env.now k.now_fits,
          small (full_at bytes) k.full_fits,
          test,
        );
        is = omega arith;
      }

  -- ---- all paths

  taken : (m start : ℕ) → Way m start → start < 2 ^ 64 → env.now ≤ start → Finds bytes argument env
  taken m start way fit late =
      let s : start ≡ start_at bytes env.now = way.is in
      elim (cases_lt (capacity argument) (cost argument)) [
        | inl more ↦ record {
          n = m + 5;
          outcome = λ word. record { code = 0; word = 2 ^ 64 - 1; bytes = bytes; steps = later 5 (m + 0) };
          is = λ stack word. walk_then m 5 0 token_bucket (begin stack word bytes argument env) _ _ (way.leads stack word) (costs_more stack word (m + 0) start more);
          says = inr (inr (inl (record { long = long; never = inl more; code_is = refl; word_is = refl; bytes_are = refl })));
        }
        | inr less ↦ elim (cases_lt (capacity argument - cost argument) (start - env.now)) [
          | inl little ↦ record {
            n = m + 9;
            outcome = λ word. record { code = 0; word = start - env.now - (capacity argument - cost argument); bytes = bytes; steps = later 9 (m + 0) };
            is = λ stack word. walk_then m 9 0 token_bucket (begin stack word bytes argument env) _ _ (way.leads stack word)
                (waits stack word (m + 0) start fit late less little);
            says = inr (inl (record { long = long; possible = less; little = omega arith; code_is = refl; word_is = omega arith; bytes_are = refl }));
          }
          | inr enough ↦ elim (cases_lt (start + cost argument) (2 ^ 64)) [
            | inl below ↦ record {
              n = m + 13;
              outcome = λ word. record {
                code = 1;
                word = capacity argument - cost argument - (start - env.now);
                bytes = with_number bytes 0 (start + cost argument);
                steps = later 13 (m + 0);
              };
              is = λ stack word. walk_then m 13 0 token_bucket (begin stack word bytes argument env) _ _ (way.leads stack word)
                  (pours stack word (m + 0) start fit late less enough below);
              says = inl (record {
                long = long;
                enough = omega arith;
                small = omega arith;
                code_is = refl;
                word_is = omega arith;
                bytes_are = ap (λ (x : ℕ). with_number bytes 0 (x + cost argument)) s;
              });
            }
            | inr past ↦ record {
              n = m + 12;
              outcome = λ word. record { code = 0; word = 2 ^ 64 - 1; bytes = bytes; steps = later 12 (m + 0) };
              is = λ stack word. walk_then m 12 0 token_bucket (begin stack word bytes argument env) _ _ (way.leads stack word)
                  (overflows stack word (m + 0) start fit late less enough past);
              says = inr (inr (inl (record { long = long; never = inr (omega arith); code_is = refl; word_is = refl; bytes_are = refl })));
            }
          ]
        ]
      ]

  whole : Finds bytes argument env
  whole = elim (cases_lt (full_at bytes) env.now) [
    | inl past ↦ taken 9 env.now (full past) i.now_fits (omega arith)
    | inr ahead ↦ taken 8 (full_at bytes) (filling ahead) (fits 0 bytes i.are_bytes) ahead
  ]

each : (bytes argument : List ℕ) (env : Env) → IsInput bytes argument env → Finds bytes argument env
each bytes argument env i = elim (cases_lt (length bytes) 8) [
  | inl h ↦ short_record bytes argument env h
  | inr enough ↦ elim (cases_lt (length argument) 16) [
    | inl h ↦ short_argument bytes argument env i enough h
    | inr also ↦ whole bytes argument env i (record { of_record = enough; of_argument = also })
  ]
]

pub pours_out : Means token_bucket Pours
pours_out = means token_bucket Pours each
