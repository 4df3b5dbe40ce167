-- The lease with a fencing token, run by computation.
use Rattle.std.proofs.Common.{ℕ, ◌≡◌, ◌≢◌, inl, inr, ap, ◌∙◌, ◌+◌, ◌-◌, ◌<◌, ◌≤◌, ◌==◌, ◌^◌, ◌%◌, refl, List, [], ◌∷◌, pos, length, arith}
use Rattle.std.specs.Prelude.{true, false, Some, nat_lt, nat_le}
use Rattle.std.proofs.lemmas.Bool.{le-leb, lt-leb, eq-eqb, ne_eqb, cases_lt, cases_eq}
use Rattle.byteorder.specs.Endian.{little_bytes}
use Rattle.bpf_helpers.specs.declared.values.Env.{Env}
use Rattle.bpf_helpers.specs.declared.values.Value.{Value}
use Rattle.bpf_helpers.specs.declared.values.Value.TheVariants.{Nothing, Number, Pointer}
use Rattle.bpf_helpers.specs.declared.values.Region.TheVariants.{Record, Stack}
use Rattle.bpf_helpers.specs.Machine.{Config, splice}
use Rattle.bpf_helpers.specs.Runs.{IsInput, Outcome}
use Rattle.stock_programs.specs.Numbers.{with_number}
use Rattle.stock_programs.specs.Lengths.{HasLengths}
use Rattle.stock_programs.specs.Lease.{owner, until, asker, term, end_of, MayTake}
use Rattle.stock_programs.specs.FencedLease.{fenced_lease, token, with_owner, LeasesFenced}
use Rattle.stock_programs.specs.Meaning.{Means}
use Rattle.stock_programs.proofs.Forward.{begin, forward, later, walk, walk_then}
use Rattle.stock_programs.proofs.LengthFacts.{few, many, in_bytes}
use Rattle.stock_programs.proofs.Meaning.{Found, means}
use Rattle.stock_programs.proofs.NumberFacts.{reads, fits, small, still_inside, length_written}

abbrev Finds : List ℕ → List ℕ → Env → Type 0
Finds bytes argument env = Found fenced_lease LeasesFenced bytes argument env

-- ---- a length is too short

short_record : (bytes argument : List ℕ) (env : Env) → length bytes < 24 → Finds bytes argument env
short_record bytes argument env h = record {
  n = 3;
  outcome = λ word. record { code = 4; word = word; bytes = bytes; steps = 3 };
  is = λ stack word. simp (few bytes 24 h (omega arith));
  says = inr (inr (inr (inr (inr (record { short = inl h; code_is = refl; word_is = refl; bytes_are = refl })))));
}

short_argument : (bytes argument : List ℕ) (env : Env) → IsInput bytes argument env → 24 ≤ length bytes → length argument < 16 → Finds bytes argument env
short_argument bytes argument env i long h = record {
  n = 4;
  outcome = λ word. record { code = 4; word = word; bytes = bytes; steps = 4 };
  is = λ stack word. simp (many bytes 24 i.bytes_fit long, few argument 16 h (omega arith));
  says = inr (inr (inr (inr (inr (record { short = inr h; code_is = refl; word_is = refl; bytes_are = refl })))));
}

module _ (bytes argument : List ℕ) (env : Env) (i : IsInput bytes argument env) (long : HasLengths 24 16 bytes argument) where
  record Facts : Type 0 where
    record_passes : nat_lt (length bytes % 2 ^ 64) 24 ≡ false
    argument_passes : nat_lt (length argument % 2 ^ 64) 16 ≡ false
    first_number : nat_le 8 (length bytes) ≡ true
    second_number : nat_le 16 (length bytes) ≡ true
    third_number : nat_le 24 (length bytes) ≡ true
    in_argument : nat_le 8 (length argument) ≡ true
    whole_argument : nat_le 16 (length argument) ≡ true
    still : nat_le 24 (length (splice bytes 0 (little_bytes 8 (asker argument)))) ≡ true

  facts : Facts
  facts =
      let limit : length argument ≤ 1024 = i.argument_fits in
      let enough : 24 ≤ length bytes = long.of_record in
      record {
        record_passes = many bytes 24 i.bytes_fit long.of_record;
        argument_passes = many argument 16 (omega arith) long.of_argument;
        first_number = in_bytes bytes 24 8 long.of_record (omega arith);
        second_number = in_bytes bytes 24 16 long.of_record (omega arith);
        third_number = in_bytes bytes 24 24 long.of_record (omega arith);
        in_argument = in_bytes argument 16 8 long.of_argument (omega arith);
        whole_argument = in_bytes argument 16 16 long.of_argument (omega arith);
        still = still_inside bytes 0 (asker argument) 24 (omega arith) (omega arith);
      }

  record Known : Type 0 where
    now_fits : env.now < 2 ^ 64
    owner_fits : owner bytes < 2 ^ 64
    until_fits : until bytes < 2 ^ 64
    token_fits : token bytes < 2 ^ 64
    asker_fits : asker argument < 2 ^ 64
    term_fits : term argument < 2 ^ 64

  known : Known
  known = record {
    now_fits = i.now_fits;
    owner_fits = fits 0 bytes i.are_bytes;
    until_fits = fits 8 bytes i.are_bytes;
    token_fits = fits 16 bytes i.are_bytes;
    asker_fits = fits 0 argument i.are_argument;
    term_fits = fits 8 argument i.are_argument;
  }

  -- ---- another owner has it

  refused : env.now < until bytes → owner bytes ≢ asker argument → Finds bytes argument env
  refused held other =
      let t = facts in
      let k : Known = known in
      let not_ended : nat_le (until bytes) env.now ≡ false = lt-leb _ _ held in
      let not_own : owner bytes == asker argument ≡ false = ne_eqb _ _ other in
      record {
        n = 14;
        outcome = λ word. record { code = 0; word = until bytes; bytes = bytes; steps = 14 };
        is = λ stack word. simp (
          t.record_passes,
          t.argument_passes,
          t.first_number,
          t.second_number,
          t.in_argument,
          t.whole_argument,
          reads 0 bytes,
          reads 8 bytes,
          reads 0 argument,
          reads 8 argument,
          small env.now k.now_fits,
          small (until bytes) k.until_fits,
          small (owner bytes) k.owner_fits,
          small (asker argument) k.asker_fits,
          not_ended,
          not_own,
        );
        says = inr (inr (inr (inl (record { long = long; held = held; other = other; code_is = refl; word_is = refl; bytes_are = refl }))));
      }

  -- ---- the pieces of the other paths

  module _ (stack : List ℕ) (word : ℕ) where
    abbrev at : ℕ → Value → List ℕ → Config
    at place r2 now_bytes = record {
      place = place;
      registers = Number env.now ∷ Number (until bytes) ∷ r2 ∷ Nothing ∷ Nothing ∷ Nothing ∷ Pointer Record (pos 0)
          ∷ Number (asker argument) ∷ Number (term argument) ∷ Number env.now ∷ Pointer Stack (pos 0) ∷ [];
      bytes = now_bytes;
      argument = argument;
      stack = stack;
      word = word;
      env = env;
    }

    abbrev at_free : Config
    at_free = at 14 Nothing bytes

    abbrev at_own : Config
    at_own = at 21 (Number (owner bytes)) bytes

    abbrev at_grant : ℕ → List ℕ → Config
    at_grant new now_bytes = at 23 (Number new) now_bytes

    -- from `grant` to the end
    grants : (k new : ℕ) (now_bytes : List ℕ) → nat_le 16 (length now_bytes) ≡ true → env.now + term argument < 2 ^ 64
        → forward 7 k fenced_lease (at_grant new now_bytes)
        ≡ Some (record { code = 1; word = new; bytes = with_number now_bytes 8 (env.now + term argument); steps = later 7 k })
    unfolding with_number
    grants k new now_bytes in_it below =
        let n : Known = known in
        let sum : (term argument + env.now) % 2 ^ 64 ≡ env.now + term argument = omega arith in
        let after : nat_le env.now (env.now + term argument) ≡ true = le-leb _ _ (omega arith) in
        simp (in_it, small (term argument) n.term_fits, small env.now n.now_fits, small (env.now + term argument) below, sum, after)

    grants_last : (k new : ℕ) (now_bytes : List ℕ) → nat_le 16 (length now_bytes) ≡ true → 2 ^ 64 ≤ env.now + term argument
        → forward 8 k fenced_lease (at_grant new now_bytes)
        ≡ Some (record { code = 1; word = new; bytes = with_number now_bytes 8 (2 ^ 64 - 1); steps = later 8 k })
    unfolding with_number
    grants_last k new now_bytes in_it above =
        let n : Known = known in
        let wrapped : nat_le env.now ((term argument + env.now) % 2 ^ 64 % 2 ^ 64) ≡ false = lt-leb _ _ (omega arith) in
        simp (in_it, small (term argument) n.term_fits, small env.now n.now_fits, wrapped)

    -- from `own` and from `free`
    keeps : term argument ≢ 0 → walk 2 fenced_lease at_own ≡ Some (at_grant (token bytes) bytes)
    keeps some =
        let n : Known = known in
        let wanted : term argument == 0 ≡ false = ne_eqb _ _ some in
        simp (facts.third_number, reads 16 bytes, small (term argument) n.term_fits, wanted)

    takes : term argument ≢ 0 → token bytes + 1 < 2 ^ 64
        → walk 7 fenced_lease at_free ≡ Some (at_grant (token bytes + 1) (with_owner bytes (asker argument) (token bytes + 1)))
    unfolding with_number
    takes some left =
        let t = facts in
        let n : Known = known in
        let wanted : term argument == 0 ≡ false = ne_eqb _ _ some in
        let is_left : token bytes + 1 == 0 ≡ false = ne_eqb _ _ (omega arith) in
        simp (
          t.first_number,
          t.third_number,
          t.still,
          reads 16 bytes,
          small (term argument) n.term_fits,
          small (token bytes) n.token_fits,
          small (token bytes + 1) left,
          wanted,
          is_left,
        )

    uses_up : (k : ℕ) → term argument ≢ 0 → token bytes + 1 ≡ 2 ^ 64
        → forward 6 k fenced_lease at_free ≡ Some (record { code = 3; word = word; bytes = bytes; steps = later 6 k })
    uses_up k some last =
        let t = facts in
        let n : Known = known in
        let wanted : term argument == 0 ≡ false = ne_eqb _ _ some in
        let none : (token bytes + 1) % 2 ^ 64 ≡ 0 = omega arith in
        simp (t.third_number, reads 16 bytes, small (term argument) n.term_fits, small (token bytes) n.token_fits, wanted, none)

    frees : (k : ℕ) → term argument ≡ 0
        → forward 4 k fenced_lease at_free ≡ Some (record { code = 1; word = word; bytes = with_number bytes 8 0; steps = later 4 k })
    unfolding with_number
    frees k none = simp (none, facts.second_number)

    gives_back : (k : ℕ) → term argument ≡ 0
        → forward 4 k fenced_lease at_own ≡ Some (record { code = 1; word = word; bytes = with_number bytes 8 0; steps = later 4 k })
    unfolding with_number
    gives_back k none = simp (none, facts.second_number)

    -- from the start
    to_free : until bytes ≤ env.now → walk 9 fenced_lease (begin stack word bytes argument env) ≡ Some at_free
    to_free over =
        let t = facts in
        let k : Known = known in
        let test : nat_le (until bytes) env.now ≡ true = le-leb _ _ over in
        simp (
          t.record_passes,
          t.argument_passes,
          t.second_number,
          t.in_argument,
          t.whole_argument,
          reads 8 bytes,
          reads 0 argument,
          reads 8 argument,
          small env.now k.now_fits,
          small (until bytes) k.until_fits,
          test,
        )

    to_own : env.now < until bytes → owner bytes ≡ asker argument → walk 11 fenced_lease (begin stack word bytes argument env) ≡ Some at_own
    to_own held same =
        let t = facts in
        let k : Known = known in
        let not_ended : nat_le (until bytes) env.now ≡ false = lt-leb _ _ held in
        let is_own : owner bytes == asker argument ≡ true = eq-eqb _ _ same in
        simp (
          t.record_passes,
          t.argument_passes,
          t.first_number,
          t.second_number,
          t.in_argument,
          t.whole_argument,
          reads 0 bytes,
          reads 8 bytes,
          reads 0 argument,
          reads 8 argument,
          small env.now k.now_fits,
          small (until bytes) k.until_fits,
          small (owner bytes) k.owner_fits,
          small (asker argument) k.asker_fits,
          not_ended,
          is_own,
        )

  -- ---- all paths

  -- A grant, by a path of a and then b steps to `grant`.
  record Grant (a b new : ℕ) (now_bytes : List ℕ) : Type 0 where
    in_it : nat_le 16 (length now_bytes) ≡ true
    leads : (stack : List ℕ) (word : ℕ) (n : ℕ) (o : Outcome) → forward n (b + (a + 0)) fenced_lease (at_grant stack word new now_bytes) ≡ Some o
        → forward (a + (b + n)) 0 fenced_lease (begin stack word bytes argument env) ≡ Some o
    says : (word steps : ℕ) → LeasesFenced bytes argument env
        (record { code = 1; word = new; bytes = with_number now_bytes 8 (end_of env.now (term argument)); steps = steps })

  granted : (a b new : ℕ) (now_bytes : List ℕ) → Grant a b new now_bytes → Finds bytes argument env
  granted a b new now_bytes g = elim (cases_lt (env.now + term argument) (2 ^ 64)) [
    | inl below ↦
        let end : env.now + term argument ≡ end_of env.now (term argument) = omega arith in
        record {
          n = a + (b + 7);
          outcome = λ word. record { code = 1; word = new; bytes = with_number now_bytes 8 (end_of env.now (term argument)); steps = later 7 (b + (a + 0)) };
          is = λ stack word. g.leads stack word 7 (record { code = 1; word = new; bytes = with_number now_bytes 8 (end_of env.now (term argument)); steps = later 7 (b + (a + 0)) })
              (grants stack word (b + (a + 0)) new now_bytes g.in_it below
              ∙ ap (λ (e : ℕ). Some (record { code = 1; word = new; bytes = with_number now_bytes 8 e; steps = later 7 (b + (a + 0)) })) end);
          says = g.says 0 (later 7 (b + (a + 0)));
        }
    | inr above ↦
        let end : 2 ^ 64 - 1 ≡ end_of env.now (term argument) = omega arith in
        record {
          n = a + (b + 8);
          outcome = λ word. record { code = 1; word = new; bytes = with_number now_bytes 8 (end_of env.now (term argument)); steps = later 8 (b + (a + 0)) };
          is = λ stack word. g.leads stack word 8 (record { code = 1; word = new; bytes = with_number now_bytes 8 (end_of env.now (term argument)); steps = later 8 (b + (a + 0)) })
              (grants_last stack word (b + (a + 0)) new now_bytes g.in_it above
              ∙ ap (λ (e : ℕ). Some (record { code = 1; word = new; bytes = with_number now_bytes 8 e; steps = later 8 (b + (a + 0)) })) end);
          says = g.says 0 (later 8 (b + (a + 0)));
        }
  ]

  new_owner : until bytes ≤ env.now → term argument ≢ 0 → token bytes + 1 < 2 ^ 64 → Finds bytes argument env
  new_owner over some left =
      let enough : 24 ≤ length bytes = long.of_record in
      let first : length (with_number bytes 0 (asker argument)) ≡ length bytes = length_written bytes 0 (asker argument) (omega arith) in
      let second : length (with_owner bytes (asker argument) (token bytes + 1)) ≡ length (with_number bytes 0 (asker argument))
      = length_written (with_number bytes 0 (asker argument)) 16 (token bytes + 1) (omega arith) in
      granted 9 7 (token bytes + 1) (with_owner bytes (asker argument) (token bytes + 1)) (record {
        in_it = le-leb _ _ (omega arith);
        leads = λ stack word n o is. walk_then 9 (7 + n) 0 fenced_lease (begin stack word bytes argument env) (at_free stack word) o (to_free stack word over)
            (walk_then 7 n 9 fenced_lease (at_free stack word) (at_grant stack word (token bytes + 1) (with_owner bytes (asker argument) (token bytes + 1))) o
            (takes stack word some left) is);
        says = λ word steps. inl (record { long = long; ended = over; wanted = some; left = left; code_is = refl; word_is = refl; bytes_are = refl });
      })

  same_owner : env.now < until bytes → owner bytes ≡ asker argument → term argument ≢ 0 → Finds bytes argument env
  same_owner held same some =
      granted 11 2 (token bytes) bytes (record {
        in_it = facts.second_number;
        leads = λ stack word n o is. walk_then 11 (2 + n) 0 fenced_lease (begin stack word bytes argument env) (at_own stack word) o (to_own stack word held same)
            (walk_then 2 n 11 fenced_lease (at_own stack word) (at_grant stack word (token bytes) bytes) o (keeps stack word some) is);
        says = λ word steps. inr (inl (record { long = long; held = held; own = same; wanted = some; code_is = refl; word_is = refl; bytes_are = refl }));
      })

  free : until bytes ≤ env.now → Finds bytes argument env
  free over = elim (cases_eq (term argument) 0) [
    | inl none ↦ record {
      n = 13;
      outcome = λ word. record { code = 1; word = word; bytes = with_number bytes 8 0; steps = 13 };
      is = λ stack word. walk_then 9 4 0 fenced_lease (begin stack word bytes argument env) _ _ (to_free stack word over) (frees stack word 9 none);
      says = inr (inr (inl (record { long = long; may = inl over; unwanted = none; code_is = refl; word_is = refl; bytes_are = refl })));
    }
    | inr some ↦ elim (cases_lt (token bytes + 1) (2 ^ 64)) [
      | inl left ↦ new_owner over some left
      | inr all ↦
          let k : Known = known in
          let last : token bytes + 1 ≡ 2 ^ 64 = omega (arith, k.token_fits) in
          record {
            n = 15;
            outcome = λ word. record { code = 3; word = word; bytes = bytes; steps = 15 };
            is = λ stack word. walk_then 9 6 0 fenced_lease (begin stack word bytes argument env) _ _ (to_free stack word over) (uses_up stack word 9 some last);
            says = inr (inr (inr (inr (inl (record { long = long; ended = over; wanted = some; last = last; code_is = refl; word_is = refl; bytes_are = refl })))));
          }
    ]
  ]

  own : env.now < until bytes → owner bytes ≡ asker argument → Finds bytes argument env
  own held same = elim (cases_eq (term argument) 0) [
    | inl none ↦ record {
      n = 15;
      outcome = λ word. record { code = 1; word = word; bytes = with_number bytes 8 0; steps = 15 };
      is = λ stack word. walk_then 11 4 0 fenced_lease (begin stack word bytes argument env) _ _ (to_own stack word held same) (gives_back stack word 11 none);
      says = inr (inr (inl (record { long = long; may = inr same; unwanted = none; code_is = refl; word_is = refl; bytes_are = refl })));
    }
    | inr some ↦ same_owner held same some
  ]

  whole : Finds bytes argument env
  whole = elim (cases_lt env.now (until bytes)) [
    | inl held ↦ elim (cases_eq (owner bytes) (asker argument)) [ inl same ↦ own held same | inr other ↦ refused held other ]
    | inr over ↦ free over
  ]

each : (bytes argument : List ℕ) (env : Env) → IsInput bytes argument env → Finds bytes argument env
each bytes argument env i = elim (cases_lt (length bytes) 24) [
  | inl h ↦ short_record bytes argument env h
  | inr enough ↦ elim (cases_lt (length argument) 16) [
    | inl h ↦ short_argument bytes argument env i enough h
    | inr also ↦ whole bytes argument env i (record { of_record = enough; of_argument = also })
  ]
]

pub leases_fenced : Means fenced_lease LeasesFenced
leases_fenced = means fenced_lease LeasesFenced each
