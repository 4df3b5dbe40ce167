-- A number stays within the bounds that every run names.
use Rattle.std.proofs.Common.{ℕ, ◌≡◌, inl, inr, ◌+◌, ◌<◌, ◌≤◌, ◌^◌, refl, sym, ap, ◌∙◌, subst, List, length, Option, Some, arith}
use Rattle.std.specs.FinMap as map
use Rattle.std.proofs.lemmas.Option.{same_Some}
use Rattle.bpf_helpers.specs.Runs.{IsInput}
use Rattle.stock_programs.specs.Numbers.{number_at, with_number}
use Rattle.stock_programs.specs.BoundedAdd.{bounded_add, amount, bound}
use Rattle.stock_programs.specs.BoundedCounter.{bounded_counter, floor, ceiling}
use Rattle.stock_programs.proofs.BoundedAdding.{adds_bounded}
use Rattle.stock_programs.proofs.CountingWithin.{counts_within}
use Rattle.stock_programs.proofs.NumberFacts.{fits, read_written}
use Rattle.stock_histories.specs.Turns.{Turn}
use Rattle.stock_histories.specs.BoundsLaw.{IsWithinBounds, NamesWithin, StaysBetween, NamesBelow, StaysBelow}
use Rattle.stock_histories.proofs.KeyHistory.{RunsTo, kept_by, saved, unchanged, unchanged_if_short}
use Rattle.stock_histories.proofs.Projected.{projected}

-- a number that was written is in its bounds
written : (low high n : ℕ) (bytes : List ℕ) (r : Option (List ℕ)) → r ≡ Some (with_number bytes 0 n) → n < 2 ^ 64 → low ≤ n → n ≤ high → IsWithinBounds low high r
written low high n bytes r is fit above below value there long =
    let same : with_number bytes 0 n ≡ value = same_Some _ _ (sym is ∙ there) in
    let number : number_at 0 value ≡ n = ap (number_at 0) (sym same) ∙ read_written bytes 0 n (omega arith) fit in
    (omega arith, omega arith)

counts : (low high : ℕ) (r r' : Option (List ℕ)) (t : Turn) → RunsTo bounded_counter r t r' → NamesWithin low high t → IsWithinBounds low high r → IsWithinBounds low high r'
counts low high r r' t s names h = elim (counts_within.obeys s.given t.argument s.env s.outcome s.input s.ends) [
  | inl g ↦
      let i : IsInput s.given t.argument s.env = s.input in
      let a : floor t.argument ≤ s.outcome.word = g.within.low in
      let b : s.outcome.word ≤ ceiling t.argument = g.within.high in
      let c : ceiling t.argument < 2 ^ 64 = fits 16 t.argument i.are_argument in
      let d : low ≤ floor t.argument = names.0 in
      let e : ceiling t.argument ≤ high = names.1 in
      written low high s.outcome.word s.given r' (s.left ∙ saved r s.outcome g.code_is ∙ ap Some g.bytes_are) (omega arith) (omega arith) (omega arith)
  | inr (inl g) ↦ subst (λ (x : Option (List ℕ)). IsWithinBounds low high x) (sym (s.left ∙ unchanged r s.outcome g.code_is)) h
  | inr (inr g) ↦ subst (λ (x : Option (List ℕ)). IsWithinBounds low high x) (sym (s.left ∙ unchanged_if_short r s.outcome g.code_is)) h
]

pub stays_between : (A : Type 0) → StaysBetween A
stays_between A size kind m m' es key low high a names start =
    kept_by bounded_counter (IsWithinBounds low high) (NamesWithin low high) (counts low high) (map.get m key) (map.get m' key) _
    (projected size kind m m' es key bounded_counter a) names start

adds : (high : ℕ) (r r' : Option (List ℕ)) (t : Turn) → RunsTo bounded_add r t r' → NamesBelow high t → IsWithinBounds 0 high r → IsWithinBounds 0 high r'
adds high r r' t s names h = elim (adds_bounded.obeys s.given t.argument s.env s.outcome s.input s.ends) [
  | inl g ↦
      let i : IsInput s.given t.argument s.env = s.input in
      let a : number_at 0 s.given + amount t.argument ≤ bound t.argument = g.within in
      let b : bound t.argument < 2 ^ 64 = fits 8 t.argument i.are_argument in
      written 0 high (number_at 0 s.given + amount t.argument) s.given r' (s.left ∙ saved r s.outcome g.code_is ∙ ap Some g.bytes_are)
      (omega arith) (omega arith) (omega arith)
  | inr (inl g) ↦ subst (λ (x : Option (List ℕ)). IsWithinBounds 0 high x) (sym (s.left ∙ unchanged r s.outcome g.code_is)) h
  | inr (inr g) ↦ subst (λ (x : Option (List ℕ)). IsWithinBounds 0 high x) (sym (s.left ∙ unchanged_if_short r s.outcome g.code_is)) h
]

pub stays_below : (A : Type 0) → StaysBelow A
stays_below A size kind m m' es key high a names start =
    kept_by bounded_add (IsWithinBounds 0 high) (NamesBelow high) (adds high) (map.get m key) (map.get m' key) _
    (projected size kind m m' es key bounded_add a) names start
