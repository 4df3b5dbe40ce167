-- Fencing tokens rise: the record has the last token and its owner.
use Rattle.std.proofs.Common.{ℕ, ◌≡◌, ◌≢◌, inl, inr, ◌+◌, ◌<◌, ◌≤◌, ◌^◌, refl, sym, ap, ◌∙◌, subst, List, [], ◌∷◌, ◌++◌, length, Option, Some, arith}
use Rattle.std.specs.FinMap as map
use Rattle.bpf_helpers.specs.Runs.{IsInput}
use Rattle.stock_programs.specs.Numbers.{with_number}
use Rattle.stock_programs.specs.Lease.{owner, asker, term, end_of}
use Rattle.stock_programs.specs.FencedLease.{fenced_lease, token, with_owner, LeasesFenced}
use Rattle.stock_programs.proofs.Fencing.{leases_fenced}
use Rattle.stock_programs.proofs.NumberFacts.{fits, read_written, read_before, read_after, length_written}
use Rattle.stock_histories.specs.Turns.{Turn}
use Rattle.stock_histories.specs.FencingLaw.{GivesToken, TokensRise}
use Rattle.stock_histories.proofs.KeyHistory.{RunsTo, KeyHistory, halves, kept, saved, unchanged, unchanged_by_3, unchanged_if_short, given_is}
use Rattle.stock_histories.proofs.Projected.{cut_at}

-- The bytes have this owner and token.
record Has (value : List ℕ) (who new : ℕ) : Type 0 where
  long : 24 ≤ length value
  owner_is : owner value ≡ who
  token_is : token value ≡ new

after_taking : (bytes : List ℕ) (who new end : ℕ) → 24 ≤ length bytes → who < 2 ^ 64 → new < 2 ^ 64 → Has (with_number (with_owner bytes who new) 8 end) who new
after_taking bytes who new end long w n =
    let a : length (with_number bytes 0 who) ≡ length bytes = length_written bytes 0 who (omega arith) in
    let b : length (with_owner bytes who new) ≡ length (with_number bytes 0 who) = length_written (with_number bytes 0 who) 16 new (omega arith) in
    record {
      long = omega (arith, length_written (with_owner bytes who new) 8 end (omega arith));
      owner_is =
          read_before (with_owner bytes who new) 8 0 end (omega arith) (omega arith)
          ∙ read_before (with_number bytes 0 who) 16 0 new (omega arith) (omega arith) ∙ read_written bytes 0 who (omega arith) w;
      token_is = read_after (with_owner bytes who new) 8 16 end (omega arith) (omega arith) ∙ read_written (with_number bytes 0 who) 16 new (omega arith) n;
    }

after_end : (bytes : List ℕ) (end : ℕ) → 24 ≤ length bytes → Has (with_number bytes 8 end) (owner bytes) (token bytes)
after_end bytes end long = record {
  long = omega (arith, length_written bytes 8 end (omega arith));
  owner_is = read_before bytes 8 0 end (omega arith) (omega arith);
  token_is = read_after bytes 8 16 end (omega arith) (omega arith);
}

-- The record's token is at least this one; if they are equal, so are the owners.
record IsPast (r : Option (List ℕ)) (who new : ℕ) : Type 0 where
  value : List ℕ
  is : r ≡ Some value
  long : 24 ≤ length value
  low : new ≤ token value
  same : token value ≡ new → owner value ≡ who

obeyed : (r r' : Option (List ℕ)) (t : Turn) (s : RunsTo fenced_lease r t r') → LeasesFenced s.given t.argument s.env s.outcome
obeyed r r' t s = leases_fenced.obeys s.given t.argument s.env s.outcome s.input s.ends

-- the record after a run that saves
past : (r' : Option (List ℕ)) (value : List ℕ) (who new w n : ℕ) → r' ≡ Some value → Has value who new → n ≤ new → (new ≡ n → who ≡ w) → IsPast r' w n
past r' value who new w n is h low same =
    let t : token value ≡ new = h.token_is in
    record { value = value; is = is; long = h.long; low = omega arith; same = λ e. h.owner_is ∙ same (sym t ∙ e) }

token_given : (r r' : Option (List ℕ)) (t : Turn) → RunsTo fenced_lease r t r' → GivesToken t → IsPast r' (asker t.argument) t.word
token_given r r' t s gives =
    let i : IsInput s.given t.argument s.env = s.input in
    let code_is : t.code ≡ s.outcome.code = s.code_is in
    let one : t.code ≡ 1 = gives.0 in
    elim (obeyed r r' t s) [
      | inl g ↦
          let word : t.word ≡ token s.given + 1 = s.word_is ∙ g.word_is in
          past r' (with_number (with_owner s.given (asker t.argument) (token s.given + 1)) 8 (end_of s.env.now (term t.argument))) (asker t.argument) (token s.given + 1)
          (asker t.argument) t.word (s.left ∙ saved r s.outcome g.code_is ∙ ap Some g.bytes_are)
          (after_taking s.given (asker t.argument) (token s.given + 1) (end_of s.env.now (term t.argument)) g.long.of_record (fits 0 t.argument i.are_argument) g.left)
          (omega arith) (λ e. refl)
      | inr (inl g) ↦
          let word : t.word ≡ token s.given = s.word_is ∙ g.word_is in
          past r' (with_number s.given 8 (end_of s.env.now (term t.argument))) (owner s.given) (token s.given) (asker t.argument) t.word
          (s.left ∙ saved r s.outcome g.code_is ∙ ap Some g.bytes_are) (after_end s.given (end_of s.env.now (term t.argument)) g.long.of_record) (omega arith) (λ e. g.own)
      | inr (inr (inl g)) ↦ absurd (gives.1 (s.word_is ∙ g.word_is))
      | inr (inr (inr (inl g))) ↦ let c : s.outcome.code ≡ 0 = g.code_is in absurd (omega arith)
      | inr (inr (inr (inr (inl g)))) ↦ let c : s.outcome.code ≡ 3 = g.code_is in absurd (omega arith)
      | inr (inr (inr (inr (inr g)))) ↦ let c : s.outcome.code ≡ 4 = g.code_is in absurd (omega arith)
    ]

-- the same for the bytes that a run gets
record IsPastIn (given : List ℕ) (who new : ℕ) : Type 0 where
  low : new ≤ token given
  same : token given ≡ new → owner given ≡ who

seen : (r r' : Option (List ℕ)) (t : Turn) (who new : ℕ) (s : RunsTo fenced_lease r t r') → IsPast r who new → IsPastIn s.given who new
seen r r' t who new s h =
    subst (λ (v : List ℕ). IsPastIn v who new) (given_is r h.value s.given h.is s.is_given) (record { low = h.low; same = h.same })

stays : (who new : ℕ) (r r' : Option (List ℕ)) (t : Turn) → RunsTo fenced_lease r t r' → IsPast r who new → IsPast r' who new
stays who new r r' t s h =
    let i : IsInput s.given t.argument s.env = s.input in
    let sees = seen r r' t who new s h in
    let low : new ≤ token s.given = sees.low in
    elim (obeyed r r' t s) [
      | inl g ↦
          past r' (with_number (with_owner s.given (asker t.argument) (token s.given + 1)) 8 (end_of s.env.now (term t.argument))) (asker t.argument) (token s.given + 1)
          who new (s.left ∙ saved r s.outcome g.code_is ∙ ap Some g.bytes_are)
          (after_taking s.given (asker t.argument) (token s.given + 1) (end_of s.env.now (term t.argument)) g.long.of_record (fits 0 t.argument i.are_argument) g.left)
          (omega arith) (λ e. absurd (omega arith))
      | inr (inl g) ↦
          past r' (with_number s.given 8 (end_of s.env.now (term t.argument))) (owner s.given) (token s.given) who new
          (s.left ∙ saved r s.outcome g.code_is ∙ ap Some g.bytes_are) (after_end s.given (end_of s.env.now (term t.argument)) g.long.of_record) low sees.same
      | inr (inr (inl g)) ↦
          past r' (with_number s.given 8 0) (owner s.given) (token s.given) who new
          (s.left ∙ saved r s.outcome g.code_is ∙ ap Some g.bytes_are) (after_end s.given 0 g.long.of_record) low sees.same
      | inr (inr (inr (inl g))) ↦ subst (λ (x : Option (List ℕ)). IsPast x who new) (sym (s.left ∙ unchanged r s.outcome g.code_is)) h
      | inr (inr (inr (inr (inl g)))) ↦ subst (λ (x : Option (List ℕ)). IsPast x who new) (sym (s.left ∙ unchanged_by_3 r s.outcome g.code_is)) h
      | inr (inr (inr (inr (inr g)))) ↦ subst (λ (x : Option (List ℕ)). IsPast x who new) (sym (s.left ∙ unchanged_if_short r s.outcome g.code_is)) h
    ]

next_token : (r r' : Option (List ℕ)) (t : Turn) (who new : ℕ) → RunsTo fenced_lease r t r' → IsPast r who new → GivesToken t
    → (new ≤ t.word) × (new ≡ t.word → who ≡ asker t.argument)
next_token r r' t who new s h gives =
    let sees = seen r r' t who new s h in
    let low : new ≤ token s.given = sees.low in
    let code_is : t.code ≡ s.outcome.code = s.code_is in
    let one : t.code ≡ 1 = gives.0 in
    elim (obeyed r r' t s) [
      | inl g ↦ let word : t.word ≡ token s.given + 1 = s.word_is ∙ g.word_is in (omega arith, λ e. absurd (omega arith))
      | inr (inl g) ↦ let word : t.word ≡ token s.given = s.word_is ∙ g.word_is in (omega arith, λ e. sym (sees.same (sym word ∙ sym e)) ∙ g.own)
      | inr (inr (inl g)) ↦ absurd (gives.1 (s.word_is ∙ g.word_is))
      | inr (inr (inr (inl g))) ↦ let c : s.outcome.code ≡ 0 = g.code_is in absurd (omega arith)
      | inr (inr (inr (inr (inl g)))) ↦ let c : s.outcome.code ≡ 3 = g.code_is in absurd (omega arith)
      | inr (inr (inr (inr (inr g)))) ↦ let c : s.outcome.code ≡ 4 = g.code_is in absurd (omega arith)
    ]

pub tokens_rise : (A : Type 0) → TokensRise A
tokens_rise A size kind m m' es key a before between after first second turns gives gives_2 =
    let c = cut_at size kind m m' es key fenced_lease a before (between ++ (second ∷ after)) first turns in
    let rest = halves fenced_lease c.after_first (map.get m' key) between (second ∷ after) c.goes_on in
    let at = token_given c.at_first c.after_first first c.runs gives in
    let on = kept fenced_lease (λ (x : Option (List ℕ)). IsPast x (asker first.argument) first.word) (stays (asker first.argument) first.word) c.after_first rest.0 between rest.1.0 at in
    next_token rest.0 rest.1.1.0 second (asker first.argument) first.word rest.1.1.1.0 on gives_2
