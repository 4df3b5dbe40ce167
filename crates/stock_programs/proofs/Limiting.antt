-- The rate limit, run by computation.
use Rattle.std.proofs.Common.{ℕ, ◌≡◌, ap, ◌∙◌, inl, inr, ◌+◌, ◌-◌, ◌<◌, ◌≤◌, ◌^◌, ◌%◌, refl, List, [], ◌∷◌, pos, length, arith}
use Rattle.std.specs.Prelude.{true, false, Some, nat_lt, nat_le}
use Rattle.std.proofs.lemmas.Bool.{le-leb, le-ltb, lt-ltb, lt-leb, cases_lt}
use Rattle.byteorder.specs.Endian.{little_bytes}
use Rattle.bpf_helpers.specs.declared.values.Env.{Env}
use Rattle.bpf_helpers.specs.declared.values.Value.TheVariants.{Nothing, Number, Pointer}
use Rattle.bpf_helpers.specs.declared.values.Region.TheVariants.{Record, Stack}
use Rattle.bpf_helpers.specs.Machine.{Config, splice}
use Rattle.bpf_helpers.specs.Runs.{IsInput}
use Rattle.stock_programs.specs.Numbers.{number_at, with_number}
use Rattle.stock_programs.specs.Lengths.{HasLengths}
use Rattle.stock_programs.specs.RateLimit.{rate_limit, began, admitted, window, most, Lasts, IsOver, Limits}
use Rattle.stock_programs.specs.Meaning.{Means}
use Rattle.stock_programs.proofs.Forward.{begin, forward, later, walk, walk_then}
use Rattle.stock_programs.proofs.LengthFacts.{few, many, in_bytes}
use Rattle.stock_programs.proofs.Meaning.{Found, means}
use Rattle.stock_programs.proofs.NumberFacts.{reads, fits, small, still_inside, read_written, length_written}

abbrev Finds : List ℕ → List ℕ → Env → Type 0
Finds bytes argument env = Found rate_limit Limits bytes argument env

short_record : (bytes argument : List ℕ) (env : Env) → length bytes < 16 → Finds bytes argument env
short_record bytes argument env h = record {
  n = 3;
  outcome = λ word. record { code = 4; word = word; bytes = bytes; steps = 3 };
  is = λ stack word. simp (few bytes 16 h (omega arith));
  says = inr (inr (inr (inr (record { short = inl h; code_is = refl; word_is = refl; bytes_are = refl }))));
}

short_argument : (bytes argument : List ℕ) (env : Env) → IsInput bytes argument env → 16 ≤ length bytes → length argument < 16 → Finds bytes argument env
short_argument bytes argument env i long h = record {
  n = 4;
  outcome = λ word. record { code = 4; word = word; bytes = bytes; steps = 4 };
  is = λ stack word. simp (many bytes 16 i.bytes_fit long, few argument 16 h (omega arith));
  says = inr (inr (inr (inr (record { short = inr h; code_is = refl; word_is = refl; bytes_are = refl }))));
}

module _ (bytes argument : List ℕ) (env : Env) (i : IsInput bytes argument env) (long : HasLengths 16 16 bytes argument) where
  record Facts : Type 0 where
    record_passes : nat_lt (length bytes % 2 ^ 64) 16 ≡ false
    argument_passes : nat_lt (length argument % 2 ^ 64) 16 ≡ false
    in_record : nat_le 8 (length bytes) ≡ true
    whole_record : nat_le 16 (length bytes) ≡ true
    in_argument : nat_le 8 (length argument) ≡ true
    whole_argument : nat_le 16 (length argument) ≡ true

  facts : Facts
  facts =
      let limit : length argument ≤ 1024 = i.argument_fits in
      record {
        record_passes = many bytes 16 i.bytes_fit long.of_record;
        argument_passes = many argument 16 (omega arith) long.of_argument;
        in_record = in_bytes bytes 16 8 long.of_record (omega arith);
        whole_record = in_bytes bytes 16 16 long.of_record (omega arith);
        in_argument = in_bytes argument 16 8 long.of_argument (omega arith);
        whole_argument = in_bytes argument 16 16 long.of_argument (omega arith);
      }

  inside : nat_le 16 (length (splice bytes 0 (little_bytes 8 env.now))) ≡ true
  inside = let l : 16 ≤ length bytes = long.of_record in still_inside bytes 0 env.now 16 (omega arith) l

  -- ---- the common point of the paths: the record has a window that is not over

  module _ (stack : List ℕ) (word : ℕ) where
    abbrev at_count : List ℕ → ℕ → Config
    at_count now_bytes ago = record {
      place = 14;
      registers = Number ago ∷ Number (began bytes) ∷ Nothing ∷ Nothing ∷ Nothing ∷ Nothing ∷ Pointer Record (pos 0) ∷ Number (window argument) ∷ Number (most argument) ∷ Number env.now ∷ Pointer Stack (pos 0) ∷ [];
      bytes = now_bytes;
      argument = argument;
      stack = stack;
      word = word;
      env = env;
    }

    admits : (k : ℕ) (now_bytes : List ℕ) (ago count : ℕ) → nat_le 16 (length now_bytes) ≡ true → number_at 8 now_bytes ≡ count → count < most argument
        → forward 9 k rate_limit (at_count now_bytes ago) ≡ Some (record { code = 1; word = most argument - (count + 1); bytes = with_number now_bytes 8 (count + 1); steps = later 9 k })
    unfolding with_number
    admits k now_bytes ago count in_it is below =
        let s : most argument < 2 ^ 64 = fits 8 argument i.are_argument in
        let c : count < 2 ^ 64 = omega arith in
        let d : count + 1 < 2 ^ 64 = omega arith in
        let g : nat_le (most argument) count ≡ false = lt-leb _ _ below in
        let o : (most argument + (2 ^ 64 - (count + 1))) % 2 ^ 64 ≡ most argument - (count + 1) = omega arith in
        simp (in_it, reads 8 now_bytes, is, small (most argument) s, small count c, small (count + 1) d, g, o)

    refuses : (k : ℕ) (now_bytes : List ℕ) (ago count : ℕ) → nat_le 16 (length now_bytes) ≡ true → number_at 8 now_bytes ≡ count → count < 2 ^ 64 → most argument ≤ count → ago ≤ window argument
        → forward 7 k rate_limit (at_count now_bytes ago) ≡ Some (record { code = 0; word = window argument - ago; bytes = now_bytes; steps = later 7 k })
    refuses k now_bytes ago count in_it is c above less =
        let s : most argument < 2 ^ 64 = fits 8 argument i.are_argument in
        let r : window argument < 2 ^ 64 = fits 0 argument i.are_argument in
        let a : ago < 2 ^ 64 = omega arith in
        let g : nat_le (most argument) count ≡ true = le-leb _ _ above in
        let o : (window argument + (2 ^ 64 - ago)) % 2 ^ 64 ≡ window argument - ago = omega arith in
        simp (in_it, reads 8 now_bytes, is, small (most argument) s, small count c, small (window argument) r, small ago a, g, o)

  -- ---- the paths to it

  in_window : Lasts bytes argument env.now → (stack : List ℕ) (word : ℕ) → walk 11 rate_limit (begin stack word bytes argument env) ≡ Some (at_count stack word bytes (env.now - began bytes))
  in_window lasts stack word =
      let t = facts in
      let n : env.now < 2 ^ 64 = i.now_fits in
      let p : began bytes < 2 ^ 64 = fits 0 bytes i.are_bytes in
      let r : window argument < 2 ^ 64 = fits 0 argument i.are_argument in
      let after : began bytes ≤ env.now = lasts.after in
      let g : nat_lt env.now (began bytes) ≡ false = le-ltb _ _ after in
      let h : (env.now + (2 ^ 64 - began bytes)) % 2 ^ 64 ≡ env.now - began bytes = omega arith in
      let q : env.now - began bytes < 2 ^ 64 = omega arith in
      let j : nat_lt (env.now - began bytes) (window argument) ≡ true = lt-ltb _ _ lasts.within in
      simp (t.record_passes, t.argument_passes, t.in_record, t.in_argument, t.whole_argument, reads 0 bytes, reads 0 argument, reads 8 argument, small env.now n, small (began bytes) p, small (window argument) r, small (env.now - began bytes) q, g, h, j)

  went_back : env.now < began bytes → (stack : List ℕ) (word : ℕ) → walk 12 rate_limit (begin stack word bytes argument env) ≡ Some (at_count stack word (with_number (with_number bytes 0 env.now) 8 0) 0)
  unfolding with_number
  went_back back stack word =
      let t = facts in
      let u = inside in
      let n : env.now < 2 ^ 64 = i.now_fits in
      let p : began bytes < 2 ^ 64 = fits 0 bytes i.are_bytes in
      let g : nat_lt env.now (began bytes) ≡ true = lt-ltb _ _ back in
      simp (t.record_passes, t.argument_passes, t.in_record, t.in_argument, t.whole_argument, u, reads 0 bytes, reads 0 argument, reads 8 argument, small env.now n, small (began bytes) p, g)

  over : began bytes ≤ env.now → window argument ≤ env.now - began bytes → (stack : List ℕ) (word : ℕ) → walk 14 rate_limit (begin stack word bytes argument env) ≡ Some (at_count stack word (with_number (with_number bytes 0 env.now) 8 0) 0)
  unfolding with_number
  over after is stack word =
      let t = facts in
      let u = inside in
      let n : env.now < 2 ^ 64 = i.now_fits in
      let p : began bytes < 2 ^ 64 = fits 0 bytes i.are_bytes in
      let r : window argument < 2 ^ 64 = fits 0 argument i.are_argument in
      let g : nat_lt env.now (began bytes) ≡ false = le-ltb _ _ after in
      let h : (env.now + (2 ^ 64 - began bytes)) % 2 ^ 64 ≡ env.now - began bytes = omega arith in
      let q : env.now - began bytes < 2 ^ 64 = omega arith in
      let j : nat_lt (env.now - began bytes) (window argument) ≡ false = le-ltb _ _ is in
      simp (t.record_passes, t.argument_passes, t.in_record, t.in_argument, t.whole_argument, u, reads 0 bytes, reads 0 argument, reads 8 argument, small env.now n, small (began bytes) p, small (window argument) r, small (env.now - began bytes) q, g, h, j)

  -- ---- all paths

  abbrev fresh : List ℕ
  fresh = with_number (with_number bytes 0 env.now) 8 0

  record IsFresh : Type 0 where
    in_it : nat_le 16 (length fresh) ≡ true
    none : number_at 8 fresh ≡ 0
    one : with_number fresh 8 (0 + 1) ≡ with_number (with_number bytes 0 env.now) 8 1

  same_bytes : with_number fresh 8 (0 + 1) ≡ with_number (with_number bytes 0 env.now) 8 1
  unfolding with_number
  same_bytes = refl

  is_fresh : IsFresh
  is_fresh =
      let l : 16 ≤ length bytes = long.of_record in
      let m : length (with_number bytes 0 env.now) ≡ length bytes = length_written bytes 0 env.now (omega arith) in
      let n : length fresh ≡ length (with_number bytes 0 env.now) = length_written (with_number bytes 0 env.now) 8 0 (omega arith) in
      record { in_it = le-leb _ _ (omega arith); none = read_written (with_number bytes 0 env.now) 8 0 (omega arith) (omega arith); one = same_bytes }

  lasting : Lasts bytes argument env.now → Finds bytes argument env
  lasting lasts = elim (cases_lt (admitted bytes) (most argument)) [
    | inl below ↦ record {
      n = 20;
      outcome = λ word. record { code = 1; word = most argument - (admitted bytes + 1); bytes = with_number bytes 8 (admitted bytes + 1); steps = 20 };
      is = λ stack word. walk_then 11 9 0 rate_limit (begin stack word bytes argument env) _ _ (in_window lasts stack word) (admits stack word 11 bytes (env.now - began bytes) (admitted bytes) facts.whole_record refl below);
      says = inl (record { long = long; lasts = lasts; below = below; code_is = refl; word_is = refl; bytes_are = refl });
    }
    | inr above ↦ record {
      n = 18;
      outcome = λ word. record { code = 0; word = window argument - (env.now - began bytes); bytes = bytes; steps = 18 };
      is = λ stack word. walk_then 11 7 0 rate_limit (begin stack word bytes argument env) _ _ (in_window lasts stack word) (refuses stack word 11 bytes (env.now - began bytes) (admitted bytes) facts.whole_record refl (fits 8 bytes i.are_bytes) above (let w : env.now - began bytes < window argument = lasts.within in omega arith));
      says = inr (inr (inl (record { long = long; lasts = lasts; full = above; code_is = refl; word_is = refl })));
    }
  ]

  -- a new window after a path of m steps
  begins : (m : ℕ) → IsOver bytes argument env.now → ((stack : List ℕ) (word : ℕ) → walk m rate_limit (begin stack word bytes argument env) ≡ Some (at_count stack word fresh 0)) → Finds bytes argument env
  begins m over way = elim (cases_lt 0 (most argument)) [
    | inl below ↦ record {
      n = m + 9;
      outcome = λ word. record { code = 1; word = most argument - 1; bytes = with_number (with_number bytes 0 env.now) 8 1; steps = later 9 (m + 0) };
      is = λ stack word. walk_then m 9 0 rate_limit (begin stack word bytes argument env) _ _ (way stack word) (admits stack word (m + 0) fresh 0 0 is_fresh.in_it is_fresh.none below
          ∙ ap (λ (b : List ℕ). Some (record { code = 1; word = most argument - 1; bytes = b; steps = later 9 (m + 0) })) is_fresh.one);
      says = inr (inl (record { long = long; over = over; below = below; code_is = refl; word_is = refl; bytes_are = refl }));
    }
    | inr zero ↦ record {
      n = m + 7;
      outcome = λ word. record { code = 0; word = window argument; bytes = fresh; steps = later 7 (m + 0) };
      is = λ stack word. walk_then m 7 0 rate_limit (begin stack word bytes argument env) _ _ (way stack word) (refuses stack word (m + 0) fresh 0 0 is_fresh.in_it is_fresh.none (omega arith) zero (omega arith)
          ∙ ap (λ (w : ℕ). Some (record { code = 0; word = w; bytes = fresh; steps = later 7 (m + 0) })) (omega arith));
      says = inr (inr (inr (inl (record { long = long; over = over; none = omega arith; code_is = refl; word_is = refl }))));
    }
  ]

  whole : Finds bytes argument env
  whole = elim (cases_lt env.now (began bytes)) [
    | inl back ↦ begins 12 (inl back) (went_back back)
    | inr after ↦ elim (cases_lt (env.now - began bytes) (window argument)) [
      | inl within ↦ lasting (record { after = after; within = within })
      | inr is ↦ begins 14 (inr is) (over after is)
    ]
  ]

each : (bytes argument : List ℕ) (env : Env) → IsInput bytes argument env → Finds bytes argument env
each bytes argument env i = elim (cases_lt (length bytes) 16) [
  | inl h ↦ short_record bytes argument env h
  | inr enough ↦ elim (cases_lt (length argument) 16) [
    | inl h ↦ short_argument bytes argument env i enough h
    | inr also ↦ whole bytes argument env i (record { of_record = enough; of_argument = also })
  ]
]

pub limits : Means rate_limit Limits
limits = means rate_limit Limits each
