-- A program with consistent states is safe.
use Rattle.std.proofs.Common.{◌≡◌, ℕ, zero, suc, ◌+◌, ◌<◌, ◌≤◌, length, refl, sym, ap, ◌∙◌, subst, arith, List, [], ◌∷◌, ◌++◌, Option, Some, None, ⊎_elim, inl, inr, true, false}
use Rattle.std.specs.Prelude.{slice_get, ◌⊎◌, IsSome}
use Rattle.std.specs.Option.{option_and_then, option_flatten, is_some}
use Rattle.std.proofs.lemmas.Option.{same_Some}
use Rattle.bpf_insn.specs.declared.insn.Insn.{Insn}
use Rattle.bpf_insn.specs.declared.insn.Insn.TheVariants.{Exit, Wide}
use Rattle.bpf_insn.specs.Code.{slots, slots_of, fetch}
use Rattle.bpf_helpers.specs.Machine.{Config, step, ended, effect, arrives, exit_code}
use Rattle.bpf_helpers.specs.Runs.{start, Reaches, Goes, Safe}
use Rattle.bpf_verify.specs.States.{States}
use Rattle.bpf_verify.specs.Stopped.{HoldAlways}
use Rattle.bpf_verify.specs.Verified.{FitsAt, GoesOn, IsVerified}

-- the number of instructions that begin before a unit, and of all
one : Option Insn → ℕ
one None = 0
one (Some i) = 1

rank : List (Option Insn) → ℕ → ℕ
rank [] u = 0
rank (o ∷ os) zero = 0
rank (o ∷ os) (suc u) = one o + rank os u

count : List (Option Insn) → ℕ
count [] = 0
count (o ∷ os) = one o + count os

rank_less : (os : List (Option Insn)) (u v : ℕ) → u < v → IsSome (option_flatten (slice_get os u)) → rank os u < rank os v
unfolding rank one
rank_less [] u v h s = absurd (none_true s)
  where
    none_true : false ≡ true → ⊥
    none_true e = cc
rank_less (o ∷ os) zero zero h s = absurd (omega arith)
rank_less (None ∷ os) zero (suc v) h s = let f : ⊥ = cc in absurd f
rank_less (Some i ∷ os) zero (suc v) h s = omega arith
rank_less (o ∷ os) (suc u) zero h s = absurd (omega arith)
rank_less (o ∷ os) (suc u) (suc v) h s = let r : rank os u < rank os v = rank_less os u v (omega arith) s in omega arith

rank_top : (os : List (Option Insn)) (u : ℕ) → IsSome (option_flatten (slice_get os u)) → rank os u < count os
unfolding rank count one
rank_top [] u s = let f : ⊥ = cc in absurd f
rank_top (None ∷ os) zero s = let f : ⊥ = cc in absurd f
rank_top (Some i ∷ os) zero s = omega arith
rank_top (o ∷ os) (suc u) s = let r : rank os u < count os = rank_top os u s in omega arith

count_one : (i : Insn) (os : List (Option Insn)) → count (slots_of i ++ os) ≡ suc (count os)
unfolding count one
count_one (Wide r n) os = omega arith
count_one i os = omega arith

count_all : (code : List Insn) → count (slots code) ≡ length code
unfolding count
count_all [] = refl
count_all (i ∷ is) = count_one i (slots is) ∙ ap suc (count_all is)

-- an instruction begins at the place of each configuration that continues or ends
begins : (code : List Insn) (c : Config) → Goes code c → IsSome (fetch code c.place)
begins code c g = at (fetch code c.place) g
  where
    at : (o : Option Insn) → (IsSome (option_and_then (λ i. option_and_then (arrives code) (effect i c)) o) ⊎ IsSome (option_and_then (λ i. exit_code i c) o)) → IsSome o
    at None g = ⊎_elim (λ e. let f : ⊥ = cc in absurd f) (λ e. let f : ⊥ = cc in absurd f) g
    at (Some i) g = refl

record Holds (code : List Insn) (states : States) (n : ℕ) (c : Config) : Type 0 where
  fits : FitsAt states c
  least : n ≤ rank (slots code) c.place

pub goes : (code : List Insn) (states : States) → IsVerified code states → (c : Config) → FitsAt states c → Goes code c
goes code states v c fits = ⊎_elim (λ e. inr e) (λ d. inl (ap is_some (GoesOn.steps d))) (v.each c fits)

pub ended_stops : (code : List Insn) (c d : Config) → IsSome (ended code c) → step code c ≡ Some d → ⊥
ended_stops code c d e s = at (fetch code c.place) e s
  where
    at : (o : Option Insn) → IsSome (option_and_then (λ i. exit_code i c) o) → option_and_then (λ i. option_and_then (arrives code) (effect i c)) o ≡ Some d → ⊥
    at None e s = cc
    at (Some Exit) e s = cc
    at (Some i) e s = cc

holds : (code : List Insn) (states : States) → IsVerified code states → (first : Config) → FitsAt states first → (n : ℕ) (c : Config) → Reaches code n first c → Holds code states n c
holds code states v first fits zero c r = rw (sym r) (record { fits = fits; least = omega arith })
holds code states v first fits (suc n) c r =
    let m : Config = r.0 in
    let h : Holds code states n m = holds code states v first fits n m r.1 in
    let b : IsSome (fetch code m.place) = begins code m (goes code states v m h.fits) in
    ⊎_elim
    (λ e. absurd (ended_stops code m c e r.2))
    (λ x.
    let same : GoesOn.next x ≡ c = same_Some (GoesOn.next x) c (sym (GoesOn.steps x) ∙ r.2) in
    let less : rank (slots code) m.place < rank (slots code) (GoesOn.next x).place = rank_less (slots code) m.place (GoesOn.next x).place (GoesOn.later x) b in
    let l : n ≤ rank (slots code) m.place = h.least in
    let k : Holds code states (suc n) (GoesOn.next x) = record { fits = GoesOn.fits x; least = omega arith } in
    subst (λ y. Holds code states (suc n) y) same k)
    (v.each m h.fits)

pub safe : (code : List Insn) (states : States) → IsVerified code states → Safe code
safe code states v = λ bytes argument env input n c r.
    let h : Holds code states n c = holds code states v (start bytes argument env) (v.starts bytes argument env input) n c r in
    let g : Goes code c = goes code states v c h.fits in
    let b : rank (slots code) c.place < count (slots code) = rank_top (slots code) c.place (begins code c g) in
    let e : count (slots code) ≡ length code = count_all code in
    let l : n ≤ rank (slots code) c.place = h.least in
    (g, omega arith)

-- the states are true of each run
pub hold_always : (code : List Insn) (states : States) → IsVerified code states → HoldAlways code states
hold_always code states v = λ bytes argument env input n c r.
    let h : Holds code states n c = holds code states v (start bytes argument env) (v.starts bytes argument env input) n c r in
    h.fits
