-- States that grow.
use Rattle.std.proofs.Common.{◌≡◌, ℕ, zero, suc, ◌+◌, ◌<◌, ◌≤◌, length, refl, sym, ap, ◌∙◌, arith, List, [], ◌∷◌, Option, Some, None, ⊎_elim, inl, inr, pos, cond}
use Rattle.std.specs.Prelude.{slice_get, slice_set, IsSome}
use Rattle.std.specs.Option.{option_flatten, option_and_then, is_some}
use Rattle.std.proofs.Math.ListN.{length-set}
use Rattle.std.proofs.lemmas.Bool.{cases_eq}
use Rattle.std.proofs.lemmas.Option.{same_Some}
use Rattle.bpf_insn.specs.declared.insn.Insn.{Insn}
use Rattle.bpf_insn.specs.Code.{fetch, slots, unit_count, units_of}
use Rattle.bpf_helpers.specs.Machine.{Config, effect, exit_code, arrives, step, ended}
use Rattle.bpf_flow.specs.declared.state.State.{State}
use Rattle.bpf_flow.specs.States.{Fits, IsConfig}
use Rattle.bpf_flow.specs.Steps.{Edges, Sound, Flows, FitsSome, distance_of}
use Rattle.bpf_verify.specs.States.{States, state_at}
use Rattle.bpf_verify.specs.Structure.{IsBuilt}
use Rattle.bpf_verify.specs.Verified.{FitsAt, GoesOn, Consistent}
use Rattle.bpf_verify.specs.Visits.{AreStates, Joins, Follows, Grows, Adds, Arrived, ConsistentAt, VisitedAt}
use Rattle.bpf_flow.proofs.Jumping.{natural}
use Rattle.bpf_verify.proofs.Built.{can_flow, next_begins, jump_begins, distance_forward}
use Rattle.bpf_verify.proofs.Configs.{keeps_config}

pub get_same : (xs : States) (i : ℕ) (s : State) → i < length xs → state_at (slice_set xs i (Some s)) i ≡ Some s
get_same [] i s h = absurd (omega arith)
get_same (x ∷ xs) zero s h = refl
get_same (x ∷ xs) (suc i) s h = get_same xs i s (omega arith)

pub get_other : (xs : States) (i j : ℕ) (o : Option State) → (j ≡ i → ⊥) → state_at (slice_set xs i o) j ≡ state_at xs j
get_other [] i j o ne = refl
get_other (x ∷ xs) zero zero o ne = absurd (ne refl)
get_other (x ∷ xs) zero (suc j) o ne = refl
get_other (x ∷ xs) (suc i) zero o ne = refl
get_other (x ∷ xs) (suc i) (suc j) o ne = get_other xs i j o (λ e. ne (ap suc e))

within_units : {X : Type 0} (xs : List (Option X)) (u : ℕ) → IsSome (option_flatten (slice_get xs u)) → u < length xs
within_units [] u h = let f : ⊥ = cc in absurd f
within_units (x ∷ xs) zero h = omega arith
within_units (x ∷ xs) (suc u) h = let l : u < length xs = within_units xs u h in omega arith

-- a unit at which an instruction begins has a place in the states
pub begins_within : (code : List Insn) (states : States) (u : ℕ) → AreStates code states → IsSome (fetch code u) → u < length states
begins_within code states u are h = let l : u < unit_count code = within_units (slots code) u h in rw are.long l

grows_set : (old : States) (at to : ℕ) (both : State) → at < to → to < length old → ((s : State) (c : Config) → state_at old to ≡ Some s → Fits s c → Fits both c) → Grows old (slice_set old to (Some both)) at
grows_set old at to both later within j = record {
  long = length-set old to (Some both);
  same = λ u h. get_other old to u (Some both) (λ e. absurd (omega arith));
  more = λ c f. ⊎_elim
      (λ (e : c.place ≡ to). record { state = both; stands = rw e (get_same old to both within); fits = j f.state c (rw e at f.stands) f.fits; config = f.config })
      (λ (ne : c.place ≡ to → ⊥). record { state = f.state; stands = get_other old to c.place (Some both) ne ∙ f.stands; fits = f.fits; config = f.config })
      (cases_eq c.place to);
}

pub are_set : (code : List Insn) (old : States) (to : ℕ) (both : State) → AreStates code old → IsSome (fetch code to) → AreStates code (slice_set old to (Some both))
are_set code old to both are begins = record {
  long = length-set old to (Some both) ∙ are.long;
  begin = λ u h. ⊎_elim
      (λ (e : u ≡ to). rw e begins)
      (λ (ne : u ≡ to → ⊥). are.begin u (rw (get_other old to u (Some both) ne) at h))
      (cases_eq u to);
}

adds_one : (code : List Insn) (old new : States) (at to : ℕ) (added : State) → at < to → IsSome (fetch code to) → AreStates code old → Joins old new to added → Adds code old new at
adds_one code old new at to added later begins are j = rw j.is (record { grows = grows_set old at to j.both later (begins_within code old to are begins) j.kept; are = are_set code old to j.both are begins })

arrived : (code : List Insn) (old new : States) (at to : ℕ) (added : State) (c : Config) → at < to → IsSome (fetch code to) → AreStates code old → Joins old new to added → IsConfig c → c.place ≡ to → Fits added c → Arrived code new at c
arrived code old new at to added c later begins are j config e f = record {
  later = rw e later;
  begins = rw e begins;
  fits = record { state = j.both; stands = rw (e, j.is) (get_same old to j.both (begins_within code old to are begins)); fits = j.takes c f; config = config };
}

adds_none : (code : List Insn) (old new : States) (at : ℕ) → AreStates code old → new ≡ old → Adds code old new at
adds_none code old new at are e = rw e (record { grows = record { long = refl; same = λ u p. refl; more = λ c f. f }; are = are })

-- joining the state on an edge into a later unit, which configurations that fit the edge then fit
pub adds_edge : (code : List Insn) (old new : States) (at to : ℕ) (edge : Option State) → at < to → (IsSome edge → IsSome (fetch code to)) → AreStates code old → Follows old new to edge → Adds code old new at
adds_edge code old new at to None later begins are e = adds_none code old new at are e
adds_edge code old new at to (Some added) later begins are j = adds_one code old new at to added later (begins refl) are j

pub lands_edge : (code : List Insn) (old new : States) (at to : ℕ) (edge : Option State) (c : Config) → at < to → (IsSome edge → IsSome (fetch code to)) → AreStates code old → Follows old new to edge → IsConfig c → c.place ≡ to → FitsSome edge c → Arrived code new at c
lands_edge code old new at to None c later begins are e config p f = absurd f
lands_edge code old new at to (Some added) c later begins are j config p f = arrived code old new at to added c later (begins refl) are j config p f

-- no states yet
pub are_none : (code : List Insn) (states : States) → length states ≡ unit_count code → ((u : ℕ) → state_at states u ≡ None) → AreStates code states
are_none code states long none = record { long = long; begin = λ u h. let f : IsSome {T = State} None = rw (none u) at h in let g : ⊥ = cc in absurd g }

grows_again : (old mid new : States) (at : ℕ) → Grows old mid at → Grows mid new at → Grows old new at
grows_again old mid new at g h = record {
  long = h.long ∙ g.long;
  same = λ u p. h.same u p ∙ g.same u p;
  more = λ c f. h.more c (g.more c f);
}

adds_again : (code : List Insn) (old mid new : States) (at : ℕ) → Adds code old mid at → Adds code mid new at → Adds code old new at
adds_again code old mid new at g h = record { grows = grows_again old mid new at g.grows h.grows; are = h.are }

-- consistency at earlier units is preserved
pub still : (code : List Insn) (old new : States) (at p : ℕ) → Grows old new at → p ≤ at → ConsistentAt code old p → ConsistentAt code new p
still code old new at p g below k = λ c e f.
    let back : state_at new c.place ≡ state_at old c.place = g.same c.place (omega arith) in
    let f' : FitsAt old c = record { state = f.state; stands = sym back ∙ f.stands; fits = f.fits; config = f.config } in
    ⊎_elim (λ x. inl x) (λ x. inr (record { next = GoesOn.next x; steps = GoesOn.steps x; later = GoesOn.later x; fits = g.more (GoesOn.next x) (GoesOn.fits x) })) (k c e f')

step_is : (code : List Insn) (i : Insn) (c d : Config) → fetch code c.place ≡ Some i → effect i c ≡ Some d → IsSome (fetch code d.place) → step code c ≡ Some d
step_is code i c d f e a =
    ap (λ o. option_and_then (λ j. option_and_then (arrives code) (effect j c)) o) f
    ∙ ap (λ o. option_and_then (arrives code) o) e
    ∙ ap (λ b. cond b (Some d) None) a

ended_is : (code : List Insn) (i : Insn) (c : Config) → fetch code c.place ≡ Some i → IsSome (exit_code i c) → IsSome (ended code c)
ended_is code i c f h = let e : ended code c ≡ exit_code i c = ap (λ o. option_and_then (λ j. exit_code j c) o) f in ap is_some e ∙ h

visits : (code : List Insn) (old mid new : States) (at : ℕ) (i : Insn) (s : State) (e : Edges)
    → state_at old at ≡ Some s → fetch code at ≡ Some i → Sound i s e
    → Grows old mid at → Grows mid new at
    → ((d : Config) → IsConfig d → d.place ≡ at + units_of i → FitsSome e.next d → Arrived code mid at d)
    → ((d : Config) (k : ℕ) → IsConfig d → distance_of i ≡ pos k → d.place ≡ at + 1 + k → FitsSome e.jump d → Arrived code new at d)
    → ConsistentAt code new at
visits code old mid new at i s e known here sound g h next jump = λ c place fits.
    let back : state_at new c.place ≡ state_at old c.place = h.same c.place (omega arith) ∙ g.same c.place (omega arith) in
    let is : Some s ≡ Some fits.state = sym known ∙ ap (state_at old) (sym place) ∙ sym back ∙ fits.stands in
    let f : Fits s c = rw (same_Some s fits.state is) fits.fits in
    let at_c : fetch code c.place ≡ Some i = ap (fetch code) place ∙ here in
    ⊎_elim
    (λ ends. inl (ended_is code i c at_c ends))
    (λ goes.
    let d : Config = goes.0 in
    let config : IsConfig d = keeps_config i c d fits.config goes.1 in
    let a : Arrived code new at d = ⊎_elim
    (λ n. let b : Arrived code mid at d = next d config (n.0 ∙ ap (λ p. p + units_of i) place) n.1 in record { later = b.later; begins = b.begins; fits = h.more d b.fits })
    (λ j. jump d j.0 config j.1 (j.2 ∙ ap (λ p. p + 1 + j.0) place) j.3)
    goes.2 in
    inr (record { next = d; steps = step_is code i c d at_c goes.1 a.begins; later = rw place a.later; fits = a.fits }))
    (sound c fits.config f)

-- the instruction at a unit is visited, and the states on its edges are joined into their targets
visited : (code : List Insn) (old mid new : States) (at n to : ℕ) (i : Insn) (s : State) (e : Edges)
    → IsBuilt code → fetch code at ≡ Some i → state_at old at ≡ Some s → AreStates code old → Flows i s e
    → n ≡ units_of i → ((k : ℕ) → distance_of i ≡ pos k → to ≡ at + 1 + k)
    → Follows old mid (at + n) e.next → Follows mid new to e.jump
    → Adds code old new at × ConsistentAt code new at
visited code old mid new at n to i s e built here known are flows units far first second =
    let k = natural (distance_of i) (distance_forward i (can_flow code at i built here)) in
    let to_is : to ≡ at + 1 + k.0 = far k.0 k.1 in
    let later : at < at + n = omega (arith, units) in
    let begins : IsSome e.next → IsSome (fetch code (at + n)) = λ h. rw units (next_begins code at i built here (flows.next h)) in
    let target : IsSome e.jump → IsSome (fetch code to) = λ h. rw to_is (jump_begins code at k.0 i built here (flows.jump h) k.1) in
    let further : at < to = omega arith in
    let g : Adds code old mid at = adds_edge code old mid at (at + n) e.next later begins are first in
    let h : Adds code mid new at = adds_edge code mid new at to e.jump further target g.are second in (
      adds_again code old mid new at g h,
      visits code old mid new at i s e known here flows.sound g.grows h.grows
          (λ d config p f. lands_edge code old mid at (at + n) e.next d later begins are first config (p ∙ ap (λ x. at + x) (sym units)) f)
          (λ d j config leads p f. lands_edge code mid new at to e.jump d further target g.are second config (p ∙ sym (far j leads)) f),
    )

pub taken_adds : (code : List Insn) (old new : States) (at : ℕ) (i : Insn) (s : State) → IsBuilt code → fetch code at ≡ Some i → state_at old at ≡ Some s → AreStates code old → VisitedAt i s old new at → Adds code old new at × ConsistentAt code new at
taken_adds code old new at i s built here known are t = visited code old t.taken.settles.between new at (units_of i) t.to i s t.taken.edges built here known are t.taken.flows refl t.far t.taken.settles.first t.taken.settles.second

state_within : (states : States) (u : ℕ) (s : State) → state_at states u ≡ Some s → u < length states
state_within [] u s e = let f : ⊥ = cc in absurd f
state_within (x ∷ xs) zero s e = omega arith
state_within (x ∷ xs) (suc u) s e = let h : u < length xs = state_within xs u s e in omega arith

pub all_units : (code : List Insn) (states : States) → ((p : ℕ) → p < length states → ConsistentAt code states p) → Consistent code states
all_units code states each = λ c f. each c.place (state_within states c.place f.state f.stands) c refl f
