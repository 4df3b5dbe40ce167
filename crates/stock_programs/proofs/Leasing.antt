-- The lease, run by computation.
use Rattle.std.proofs.Common.{ℕ, ◌≡◌, ◌≢◌, inl, inr, ap, ◌+◌, ◌-◌, ◌<◌, ◌≤◌, ◌==◌, ◌^◌, ◌%◌, refl, List, [], ◌∷◌, pos, length, arith}
use Rattle.std.specs.Prelude.{true, false, Some, nat_lt, nat_le}
use Rattle.std.proofs.lemmas.Bool.{le-leb, le-ltb, lt-ltb, lt-leb, eq-eqb, ne_eqb, cases_lt, cases_eq}
use Rattle.byteorder.specs.Endian.{little_bytes}
use Rattle.bpf_helpers.specs.declared.values.Env.{Env}
use Rattle.bpf_helpers.specs.declared.values.Value.{Value}
use Rattle.bpf_helpers.specs.declared.values.Value.TheVariants.{Nothing, Number, Pointer}
use Rattle.bpf_helpers.specs.declared.values.Region.TheVariants.{Record, Stack}
use Rattle.bpf_helpers.specs.Machine.{Config, splice}
use Rattle.bpf_helpers.specs.Runs.{IsInput}
use Rattle.stock_programs.specs.Numbers.{with_number}
use Rattle.stock_programs.specs.Lengths.{HasLengths}
use Rattle.stock_programs.specs.Lease.{lease, owner, until, asker, term, end_of, with_lease, MayTake, Leases}
use Rattle.stock_programs.specs.Meaning.{Means}
use Rattle.stock_programs.proofs.Forward.{begin, forward, later, walk, walk_then}
use Rattle.stock_programs.proofs.LengthFacts.{few, many, in_bytes}
use Rattle.stock_programs.proofs.Meaning.{Found, means}
use Rattle.stock_programs.proofs.NumberFacts.{reads, fits, small, still_inside}

abbrev Finds : List ℕ → List ℕ → Env → Type 0
Finds bytes argument env = Found lease Leases bytes argument env

-- ---- a length is too short

short_record : (bytes argument : List ℕ) (env : Env) → length bytes < 16 → Finds bytes argument env
short_record bytes argument env h = record {
  n = 3;
  outcome = λ word. record { code = 4; word = word; bytes = bytes; steps = 3 };
  is = λ stack word. simp (few bytes 16 h (omega arith));
  says = inr (inr (inr (record { short = inl h; code_is = refl; word_is = refl; bytes_are = refl })));
}

short_argument : (bytes argument : List ℕ) (env : Env) → IsInput bytes argument env → 16 ≤ length bytes → length argument < 16 → Finds bytes argument env
short_argument bytes argument env i long h = record {
  n = 4;
  outcome = λ word. record { code = 4; word = word; bytes = bytes; steps = 4 };
  is = λ stack word. simp (many bytes 16 i.bytes_fit long, few argument 16 h (omega arith));
  says = inr (inr (inr (record { short = inr h; code_is = refl; word_is = refl; bytes_are = refl })));
}

module _ (bytes argument : List ℕ) (env : Env) (i : IsInput bytes argument env) (long : HasLengths 16 16 bytes argument) where
  record Facts : Type 0 where
    record_passes : nat_lt (length bytes % 2 ^ 64) 16 ≡ false
    argument_passes : nat_lt (length argument % 2 ^ 64) 16 ≡ false
    in_record : nat_le 8 (length bytes) ≡ true
    whole_record : nat_le 16 (length bytes) ≡ true
    in_argument : nat_le 8 (length argument) ≡ true
    whole_argument : nat_le 16 (length argument) ≡ true
    still : nat_le 16 (length (splice bytes 0 (little_bytes 8 (asker argument)))) ≡ true

  facts : Facts
  facts =
      let limit : length argument ≤ 1024 = i.argument_fits in
      let enough : 16 ≤ length bytes = long.of_record in
      record {
        record_passes = many bytes 16 i.bytes_fit long.of_record;
        argument_passes = many argument 16 (omega arith) long.of_argument;
        in_record = in_bytes bytes 16 8 long.of_record (omega arith);
        whole_record = in_bytes bytes 16 16 long.of_record (omega arith);
        in_argument = in_bytes argument 16 8 long.of_argument (omega arith);
        whole_argument = in_bytes argument 16 16 long.of_argument (omega arith);
        still = still_inside bytes 0 (asker argument) 16 (omega arith) (omega arith);
      }

  -- the numbers of a run
  record Known : Type 0 where
    now_fits : env.now < 2 ^ 64
    owner_fits : owner bytes < 2 ^ 64
    until_fits : until bytes < 2 ^ 64
    asker_fits : asker argument < 2 ^ 64
    term_fits : term argument < 2 ^ 64

  known : Known
  known = record {
    now_fits = i.now_fits;
    owner_fits = fits 0 bytes i.are_bytes;
    until_fits = fits 8 bytes i.are_bytes;
    asker_fits = fits 0 argument i.are_argument;
    term_fits = fits 8 argument i.are_argument;
  }

  -- ---- another owner has it

  refused : env.now < until bytes → owner bytes ≢ asker argument → Finds bytes argument env
  refused held other =
      let t = facts in
      let k : Known = known in
      let not_ended : nat_le (until bytes) env.now ≡ false = lt-leb _ _ held in
      let not_own : owner bytes == asker argument ≡ false = ne_eqb _ _ other in
      record {
        n = 14;
        outcome = λ word. record { code = 0; word = until bytes; bytes = bytes; steps = 14 };
        is = λ stack word. simp (
          t.record_passes,
          t.argument_passes,
          t.in_record,
          t.whole_record,
          t.in_argument,
          t.whole_argument,
          reads 0 bytes,
          reads 8 bytes,
          reads 0 argument,
          reads 8 argument,
          small env.now k.now_fits,
          small (until bytes) k.until_fits,
          small (owner bytes) k.owner_fits,
          small (asker argument) k.asker_fits,
          not_ended,
          not_own,
        );
        says = inr (inr (inl (record { long = long; held = held; other = other; code_is = refl; word_is = refl; bytes_are = refl })));
      }

  -- ---- the asker may take it

  module _ (stack : List ℕ) (word : ℕ) where
    abbrev at_take : Value → Config
    at_take r2 = record {
      place = 14;
      registers = Number env.now ∷ Number (until bytes) ∷ r2 ∷ Nothing ∷ Nothing ∷ Nothing ∷ Pointer Record (pos 0) ∷ Number (asker argument) ∷ Number (term argument) ∷ Number env.now ∷ Pointer Stack (pos 0) ∷ [];
      bytes = bytes;
      argument = argument;
      stack = stack;
      word = word;
      env = env;
    }

    gives_back : (k : ℕ) (r2 : Value) → term argument ≡ 0 → forward 3 k lease (at_take r2) ≡ Some (record { code = 2; word = word; bytes = bytes; steps = later 3 k })
    gives_back k r2 none = simp none

    grants : (k : ℕ) (r2 : Value) → term argument ≢ 0 → env.now + term argument < 2 ^ 64
        → forward 9 k lease (at_take r2) ≡ Some (record { code = 1; word = env.now + term argument; bytes = with_lease bytes (asker argument) (env.now + term argument); steps = later 9 k })
    unfolding with_number
    grants k r2 some below =
        let t = facts in
        let n : Known = known in
        let wanted : term argument == 0 ≡ false = ne_eqb _ _ some in
        let sum : (term argument + env.now) % 2 ^ 64 ≡ env.now + term argument = omega arith in
        let after : nat_le env.now (env.now + term argument) ≡ true = le-leb _ _ (omega arith) in
        simp (t.in_record, t.still, small (term argument) n.term_fits, small env.now n.now_fits, small (env.now + term argument) below, wanted, sum, after)

    grants_last : (k : ℕ) (r2 : Value) → term argument ≢ 0 → 2 ^ 64 ≤ env.now + term argument
        → forward 10 k lease (at_take r2) ≡ Some (record { code = 1; word = 2 ^ 64 - 1; bytes = with_lease bytes (asker argument) (2 ^ 64 - 1); steps = later 10 k })
    unfolding with_number
    grants_last k r2 some above =
        let t = facts in
        let n : Known = known in
        let wanted : term argument == 0 ≡ false = ne_eqb _ _ some in
        let wrapped : nat_le env.now ((term argument + env.now) % 2 ^ 64 % 2 ^ 64) ≡ false = lt-leb _ _ (omega arith) in
        simp (t.in_record, t.still, small (term argument) n.term_fits, small env.now n.now_fits, wanted, wrapped)

  -- a path of m steps to `take`
  record Way (m : ℕ) : Type 0 where
    r2 : Value
    leads : (stack : List ℕ) (word : ℕ) → walk m lease (begin stack word bytes argument env) ≡ Some (at_take stack word r2)
    may : MayTake bytes argument env.now

  ended : until bytes ≤ env.now → Way 9
  ended over =
      let t = facts in
      let k : Known = known in
      let test : nat_le (until bytes) env.now ≡ true = le-leb _ _ over in
      record {
        r2 = Nothing;
        leads = λ stack word. simp (t.record_passes, t.argument_passes, t.whole_record, t.in_argument, t.whole_argument, reads 8 bytes, reads 0 argument, reads 8 argument, small env.now k.now_fits, small (until bytes) k.until_fits, test);
        may = inl over;
      }

  own : env.now < until bytes → owner bytes ≡ asker argument → Way 11
  own held same =
      let t = facts in
      let k : Known = known in
      let not_ended : nat_le (until bytes) env.now ≡ false = lt-leb _ _ held in
      let is_own : owner bytes == asker argument ≡ true = eq-eqb _ _ same in
      record {
        r2 = Number (owner bytes);
        leads = λ stack word. simp (
          t.record_passes,
          t.argument_passes,
          t.in_record,
          t.whole_record,
          t.in_argument,
          t.whole_argument,
          reads 0 bytes,
          reads 8 bytes,
          reads 0 argument,
          reads 8 argument,
          small env.now k.now_fits,
          small (until bytes) k.until_fits,
          small (owner bytes) k.owner_fits,
          small (asker argument) k.asker_fits,
          not_ended,
          is_own,
        );
        may = inr same;
      }

  taken : (m : ℕ) → Way m → Finds bytes argument env
  taken m way = elim (cases_eq (term argument) 0) [
    | inl none ↦ record {
      n = m + 3;
      outcome = λ word. record { code = 2; word = word; bytes = bytes; steps = later 3 (m + 0) };
      is = λ stack word. walk_then m 3 0 lease (begin stack word bytes argument env) _ _ (way.leads stack word) (gives_back stack word (m + 0) way.r2 none);
      says = inr (inl (record { long = long; may = way.may; unwanted = none; code_is = refl; word_is = refl; bytes_are = refl }));
    }
    | inr some ↦ elim (cases_lt (env.now + term argument) (2 ^ 64)) [
      | inl below ↦
          let end : env.now + term argument ≡ end_of env.now (term argument) = omega arith in
          record {
            n = m + 9;
            outcome = λ word. record { code = 1; word = env.now + term argument; bytes = with_lease bytes (asker argument) (env.now + term argument); steps = later 9 (m + 0) };
            is = λ stack word. walk_then m 9 0 lease (begin stack word bytes argument env) _ _ (way.leads stack word) (grants stack word (m + 0) way.r2 some below);
            says = inl (record { long = long; may = way.may; wanted = some; code_is = refl; word_is = end; bytes_are = ap (with_lease bytes (asker argument)) end });
          }
      | inr above ↦
          let end : 2 ^ 64 - 1 ≡ end_of env.now (term argument) = omega arith in
          record {
            n = m + 10;
            outcome = λ word. record { code = 1; word = 2 ^ 64 - 1; bytes = with_lease bytes (asker argument) (2 ^ 64 - 1); steps = later 10 (m + 0) };
            is = λ stack word. walk_then m 10 0 lease (begin stack word bytes argument env) _ _ (way.leads stack word) (grants_last stack word (m + 0) way.r2 some above);
            says = inl (record { long = long; may = way.may; wanted = some; code_is = refl; word_is = end; bytes_are = ap (with_lease bytes (asker argument)) end });
          }
    ]
  ]

  -- ---- all paths

  found_whole : Finds bytes argument env
  found_whole = elim (cases_lt env.now (until bytes)) [
    | inl held ↦ elim (cases_eq (owner bytes) (asker argument)) [ inl same ↦ taken 11 (own held same) | inr other ↦ refused held other ]
    | inr over ↦ taken 9 (ended over)
  ]

each : (bytes argument : List ℕ) (env : Env) → IsInput bytes argument env → Finds bytes argument env
each bytes argument env i = elim (cases_lt (length bytes) 16) [
  | inl h ↦ short_record bytes argument env h
  | inr enough ↦ elim (cases_lt (length argument) 16) [
    | inl h ↦ short_argument bytes argument env i enough h
    | inr also ↦ found_whole bytes argument env i (record { of_record = enough; of_argument = also })
  ]
]

pub leases : Means lease Leases
leases = means lease Leases each
