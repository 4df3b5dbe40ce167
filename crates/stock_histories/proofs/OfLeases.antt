-- Leases never overlap: the record names the owner as long as the lease lasts.
use Rattle.std.proofs.Common.{ℕ, ◌≡◌, ◌≢◌, ◌⊎◌, inl, inr, ◌<◌, ◌≤◌, ◌==◌, ◌&&◌, ◌^◌, refl, sym, ap, ◌∙◌, subst, List, [], ◌∷◌, ◌++◌, length, Option, Some, None, Bool, true, false, cond, arith}
use Rattle.std.specs.List.{AllByRecursion}
use Rattle.std.specs.FinMap as map
use Rattle.std.proofs.lemmas.Bool.{cases_lt, cases_eq, eq-eqb, ne_eqb}
use Rattle.std.proofs.lemmas.Option.{same_Some}
use Rattle.bpf_helpers.specs.Runs.{IsInput}
use Rattle.stock_programs.specs.Numbers.{with_number}
use Rattle.stock_programs.specs.Lease.{lease, owner, until, asker, term, end_of, with_lease, Leases, MayTake}
use Rattle.stock_programs.proofs.Leasing.{leases}
use Rattle.stock_programs.proofs.NumberFacts.{fits, read_written, read_before, length_written}
use Rattle.stock_histories.specs.Turns.{Turn, NeverFalls}
use Rattle.stock_histories.specs.LeaseLaw.{Grants, KeepsLease, last_end, NeverOverlap}
use Rattle.stock_histories.proofs.KeyHistory.{IsGiven, RunsTo, KeyHistory, times_after, saved, unchanged, unchanged_if_short}
use Rattle.stock_histories.proofs.Projected.{cut_at}

-- The record gives the lease to this owner until this time.
record Holds (r : Option (List ℕ)) (who end : ℕ) : Type 0 where
  value : List ℕ
  is : r ≡ Some value
  long : 16 ≤ length value
  owner_is : owner value ≡ who
  until_is : until value ≡ end

obeyed : (r r' : Option (List ℕ)) (t : Turn) (s : RunsTo lease r t r') → Leases s.given t.argument s.env s.outcome
obeyed r r' t s = leases.obeys s.given t.argument s.env s.outcome s.input s.ends

-- a granted lease is held
written : (bytes : List ℕ) (who end : ℕ) → 16 ≤ length bytes → who < 2 ^ 64 → end < 2 ^ 64 → Holds (Some (with_lease bytes who end)) who end
written bytes who end long w e =
    let same : length (with_number bytes 0 who) ≡ length bytes = length_written bytes 0 who (omega arith) in
    record {
      value = with_lease bytes who end;
      is = refl;
      long = omega (arith, length_written (with_number bytes 0 who) 8 end (omega arith));
      owner_is = read_before (with_number bytes 0 who) 8 0 end (omega arith) (omega arith) ∙ read_written bytes 0 who (omega arith) w;
      until_is = read_written (with_number bytes 0 who) 8 end (omega arith) e;
    }

granted_holds : (r r' : Option (List ℕ)) (t : Turn) → RunsTo lease r t r' → t.code ≡ 1 → Holds r' (asker t.argument) t.word
granted_holds r r' t s one = elim (obeyed r r' t s) [
  | inl g ↦
      let i : IsInput s.given t.argument s.env = s.input in
      let held = written s.given (asker t.argument) (end_of s.env.now (term t.argument)) g.long.of_record (fits 0 t.argument i.are_argument) (omega arith) in
      subst (λ (x : Option (List ℕ)). Holds x (asker t.argument) t.word) (sym (s.left ∙ saved r s.outcome g.code_is ∙ ap Some g.bytes_are))
      (subst (λ (e : ℕ). Holds (Some (with_lease s.given (asker t.argument) (end_of s.env.now (term t.argument)))) (asker t.argument) e)
      (sym (s.word_is ∙ g.word_is)) held)
  | inr (inl b) ↦ let c : s.outcome.code ≡ 2 = b.code_is in let d : t.code ≡ s.outcome.code = s.code_is in absurd (omega arith)
  | inr (inr (inl b)) ↦ let c : s.outcome.code ≡ 0 = b.code_is in let d : t.code ≡ s.outcome.code = s.code_is in absurd (omega arith)
  | inr (inr (inr b)) ↦ let c : s.outcome.code ≡ 4 = b.code_is in let d : t.code ≡ s.outcome.code = s.code_is in absurd (omega arith)
]

-- the bytes that a run on a held lease gets
record Seen (given : List ℕ) (who end : ℕ) : Type 0 where
  long : 16 ≤ length given
  owner_is : owner given ≡ who
  until_is : until given ≡ end

seen : (r : Option (List ℕ)) (given : List ℕ) (who end : ℕ) → Holds r who end → IsGiven r given → Seen given who end
seen r given who end h (inl is) =
    let same : h.value ≡ given = same_Some _ _ (sym h.is ∙ is) in
    subst (λ (v : List ℕ). Seen v who end) same (record { long = h.long; owner_is = h.owner_is; until_is = h.until_is })
seen r given who end h (inr none) = let no : Some h.value ≡ None = sym h.is ∙ none.0 in absurd cc

-- while a lease lasts, another asker may not take it
may_not : (bytes argument : List ℕ) (now who end : ℕ) → Seen bytes who end → now < end → asker argument ≢ who → MayTake bytes argument now → ⊥
may_not bytes argument now who end s before other (inl over) = let u : until bytes ≡ end = s.until_is in omega arith
may_not bytes argument now who end s before other (inr own) = other (sym own ∙ s.owner_is)

-- a lasting lease is unchanged, unless its owner renews it or gives it back
stays : (r r' : Option (List ℕ)) (t : Turn) (who end : ℕ) → RunsTo lease r t r' → Holds r who end → t.now < end
    → (Grants who t → ⊥) → KeepsLease who t → Holds r' who end
stays r r' t who end s h before not_granted keeps =
    let sees = seen r s.given who end h s.is_given in
    let now_is : s.env.now ≡ t.now = s.now_is in
    let code_is : t.code ≡ s.outcome.code = s.code_is in
    elim (obeyed r r' t s) [
      | inl g ↦ absurd (may_not s.given t.argument s.env.now who end sees (omega arith) (λ own. not_granted (code_is ∙ g.code_is, own)) g.may)
      | inr (inl g) ↦ absurd (may_not s.given t.argument s.env.now who end sees (omega arith) (λ own. keeps own (code_is ∙ g.code_is)) g.may)
      | inr (inr (inl b)) ↦ subst (λ (x : Option (List ℕ)). Holds x who end) (sym (s.left ∙ unchanged r s.outcome b.code_is)) h
      | inr (inr (inr b)) ↦ subst (λ (x : Option (List ℕ)). Holds x who end) (sym (s.left ∙ unchanged_if_short r s.outcome b.code_is)) h
    ]

-- a grant to another owner comes no sooner than the end
not_before : (r r' : Option (List ℕ)) (t : Turn) (who end : ℕ) → RunsTo lease r t r' → Holds r who end → t.code ≡ 1 → asker t.argument ≢ who → end ≤ t.now
not_before r r' t who end s h one other = elim (cases_lt t.now end) [
  | inr after ↦ after
  | inl before ↦
      let sees = seen r s.given who end h s.is_given in
      let now_is : s.env.now ≡ t.now = s.now_is in
      let code_is : t.code ≡ s.outcome.code = s.code_is in
      elim (obeyed r r' t s) [
        | inl g ↦ absurd (may_not s.given t.argument s.env.now who end sees (omega arith) other g.may)
        | inr (inl g) ↦ let c : s.outcome.code ≡ 2 = g.code_is in absurd (omega arith)
        | inr (inr (inl b)) ↦ let c : s.outcome.code ≡ 0 = b.code_is in absurd (omega arith)
        | inr (inr (inr b)) ↦ let c : s.outcome.code ≡ 4 = b.code_is in absurd (omega arith)
      ]
]

-- The meaning of the test of `last_end`.
record Decided (t : Turn) (who : ℕ) (b : Bool) : Type 0 where
  yes : b ≡ true → Grants who t
  no : b ≡ false → Grants who t → ⊥

both_ways : (t : Turn) (who : ℕ) → Decided t who ((t.code == 1) && (asker t.argument == who))
both_ways t who = elim (cases_eq t.code 1) [
  | inr other ↦
      let a : t.code == 1 ≡ false = ne_eqb _ _ other in
      rw a (record { yes = λ no. absurd cc; no = λ same g. other g.0 })
  | inl one ↦
      let a : t.code == 1 ≡ true = eq-eqb _ _ one in
      elim (cases_eq (asker t.argument) who) [
        | inl own ↦ let b : asker t.argument == who ≡ true = eq-eqb _ _ own in rw (a, b) (record { yes = λ same. (one, own); no = λ no g. absurd cc })
        | inr apart ↦ let b : asker t.argument == who ≡ false = ne_eqb _ _ apart in rw (a, b) (record { yes = λ no. absurd cc; no = λ same g. apart g.1 })
      ]
]

-- The owner holds the lease until `end`, or `end` is not after `from`.
abbrev Waits : Option (List ℕ) → ℕ → ℕ → ℕ → Type 0
Waits r from who end = Holds r who end ⊎ (end ≤ from)

one_turn : (r r' : Option (List ℕ)) (from who end : ℕ) (t : Turn) (s : RunsTo lease r t r') → from ≤ t.now → KeepsLease who t → Waits r from who end
    → (b : Bool) → Decided t who b → Waits r' t.now who (cond b t.word end)
one_turn r r' from who end t s late keeps waits true d =
    let g = d.yes refl in
    inl (subst (λ (w : ℕ). Holds r' w t.word) g.1 (granted_holds r r' t s g.0))
one_turn r r' from who end t s late keeps (inr over) false d = inr (omega arith)
one_turn r r' from who end t s late keeps (inl holds) false d = elim (cases_lt t.now end) [
  | inl before ↦ inl (stays r r' t who end s holds before (d.no refl) keeps)
  | inr over ↦ inr over
]

later : (r r' : Option (List ℕ)) (from who end : ℕ) (between after : List Turn) (second : Turn) → KeyHistory lease r (between ++ (second ∷ after)) r'
    → NeverFalls from (between ++ (second ∷ after)) → AllByRecursion (KeepsLease who) between → second.code ≡ 1 → asker second.argument ≢ who
    → Waits r from who end → last_end who end between ≤ second.now
later r r' from who end [] after second h times keep one other (inl holds) = not_before r h.0 second who end h.1.0 holds one other
later r r' from who end [] after second h times keep one other (inr over) = let t : from ≤ second.now = times.0 in omega arith
later r r' from who end (u ∷ us) after second h times keep one other waits =
    later h.0 r' u.now who (cond ((u.code == 1) && (asker u.argument == who)) u.word end) us after second h.1.1 times.1 keep.1 one other
    (one_turn r h.0 from who end u h.1.0 times.0 keep.0 waits ((u.code == 1) && (asker u.argument == who)) (both_ways u who))

pub never_overlap : (A : Type 0) → NeverOverlap A
never_overlap A size kind m m' es key a times before between after first second turns one other first_is second_is apart keep =
    let c = cut_at size kind m m' es key lease a before (between ++ (second ∷ after)) first turns in
    let late = times_after 0 before first (between ++ (second ∷ after)) (subst (λ (ts : List Turn). NeverFalls 0 ts) turns times) in
    let held = granted_holds c.at_first c.after_first first c.runs first_is.0 in
    let holds : Holds c.after_first one first.word = subst (λ (who : ℕ). Holds c.after_first who first.word) first_is.1 held in
    later c.after_first (map.get m' key) first.now one first.word between after second c.goes_on late keep second_is.0
    (λ same. apart (sym same ∙ second_is.1)) (inl holds)
