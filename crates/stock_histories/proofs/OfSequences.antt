-- A sequence takes each number once: the record has the greatest one.
use Rattle.std.proofs.Common.{ℕ, ◌≡◌, inl, inr, ◌+◌, ◌<◌, ◌≤◌, refl, sym, ap, ◌∙◌, subst, List, [], ◌∷◌, ◌++◌, length, take, drop, Option, Some, arith}
use Rattle.std.specs.FinMap as map
use Rattle.stock_programs.specs.Numbers.{number_at}
use Rattle.stock_programs.specs.Sequence.{sequence, Sequences}
use Rattle.stock_programs.proofs.Sequencing.{sequences}
use Rattle.stock_programs.proofs.NumberFacts.{read_taken}
use Rattle.stock_histories.specs.Turns.{Turn}
use Rattle.stock_histories.specs.SequenceLaw.{TakesOnce}
use Rattle.stock_histories.proofs.KeyHistory.{RunsTo, halves, kept, saved, unchanged, unchanged_if_short, given_is}
use Rattle.stock_histories.proofs.Projected.{cut_at}

-- The record's number is not below this one.
record IsPast (r : Option (List ℕ)) (n : ℕ) : Type 0 where
  value : List ℕ
  is : r ≡ Some value
  low : n ≤ number_at 0 value

obeyed : (r r' : Option (List ℕ)) (t : Turn) (s : RunsTo sequence r t r') → Sequences s.given t.argument s.env s.outcome
obeyed r r' t s = sequences.obeys s.given t.argument s.env s.outcome s.input s.ends

-- the record after a message was taken
taken : (r' : Option (List ℕ)) (bytes argument : List ℕ) (n : ℕ) → r' ≡ Some (take 24 argument ++ drop 24 bytes) → 24 ≤ length argument
    → n ≤ number_at 0 argument → IsPast r' n
taken r' bytes argument n is long low = record {
  value = take 24 argument ++ drop 24 bytes;
  is = is;
  low = let same : number_at 0 (take 24 argument ++ drop 24 bytes) ≡ number_at 0 argument = read_taken argument (drop 24 bytes) 24 0 long (omega arith) in omega arith;
}

first_taken : (r r' : Option (List ℕ)) (t : Turn) → RunsTo sequence r t r' → t.code ≡ 1 → IsPast r' (number_at 0 t.argument)
first_taken r r' t s one =
    let code_is : t.code ≡ s.outcome.code = s.code_is in
    elim (obeyed r r' t s) [
      | inl g ↦ taken r' s.given t.argument (number_at 0 t.argument) (s.left ∙ saved r s.outcome g.code_is ∙ ap Some g.bytes_are) g.long.of_argument (omega arith)
      | inr (inl g) ↦ let c : s.outcome.code ≡ 0 = g.code_is in absurd (omega arith)
      | inr (inr g) ↦ let c : s.outcome.code ≡ 4 = g.code_is in absurd (omega arith)
    ]

seen : (r r' : Option (List ℕ)) (t : Turn) (n : ℕ) (s : RunsTo sequence r t r') → IsPast r n → n ≤ number_at 0 s.given
seen r r' t n s h = subst (λ (v : List ℕ). n ≤ number_at 0 v) (given_is r h.value s.given h.is s.is_given) h.low

stays : (n : ℕ) (r r' : Option (List ℕ)) (t : Turn) → RunsTo sequence r t r' → IsPast r n → IsPast r' n
stays n r r' t s h =
    let low : n ≤ number_at 0 s.given = seen r r' t n s h in
    elim (obeyed r r' t s) [
      | inl g ↦
          let newer : number_at 0 s.given < number_at 0 t.argument = g.newer in
          taken r' s.given t.argument n (s.left ∙ saved r s.outcome g.code_is ∙ ap Some g.bytes_are) g.long.of_argument (omega arith)
      | inr (inl g) ↦ subst (λ (x : Option (List ℕ)). IsPast x n) (sym (s.left ∙ unchanged r s.outcome g.code_is)) h
      | inr (inr g) ↦ subst (λ (x : Option (List ℕ)). IsPast x n) (sym (s.left ∙ unchanged_if_short r s.outcome g.code_is)) h
    ]

next_taken : (r r' : Option (List ℕ)) (t : Turn) (n : ℕ) → RunsTo sequence r t r' → IsPast r n → t.code ≡ 1 → n < number_at 0 t.argument
next_taken r r' t n s h one =
    let low : n ≤ number_at 0 s.given = seen r r' t n s h in
    let code_is : t.code ≡ s.outcome.code = s.code_is in
    elim (obeyed r r' t s) [
      | inl g ↦ let newer : number_at 0 s.given < number_at 0 t.argument = g.newer in omega arith
      | inr (inl g) ↦ let c : s.outcome.code ≡ 0 = g.code_is in absurd (omega arith)
      | inr (inr g) ↦ let c : s.outcome.code ≡ 4 = g.code_is in absurd (omega arith)
    ]

pub takes_once : (A : Type 0) → TakesOnce A
takes_once A size kind m m' es key a before between after first second turns one one_2 =
    let c = cut_at size kind m m' es key sequence a before (between ++ (second ∷ after)) first turns in
    let rest = halves sequence c.after_first (map.get m' key) between (second ∷ after) c.goes_on in
    let at = first_taken c.at_first c.after_first first c.runs one in
    let on = kept sequence (λ (x : Option (List ℕ)). IsPast x (number_at 0 first.argument)) (stays (number_at 0 first.argument)) c.after_first rest.0 between rest.1.0 at in
    next_taken rest.0 rest.1.1.0 second (number_at 0 first.argument) rest.1.1.1.0 on one_2
