-- Consequences of a structure without faults.
use Rattle.std.proofs.Common.{◌≡◌, ◌≢◌, ℕ, zero, suc, ◌+◌, [], ◌∷◌, subst, inl, inr, ℤ, pos, negsuc, ◌<◌, ◌≤◌, length, refl, sym, ap, ◌∙◌, arith, List, Option, Some, None, Bool, true, false, ⊎_elim, ◌==◌}
use Rattle.std.specs.Prelude.{◌≤ℤ◌, if◌then◌else◌, IsSome, nat_le, slice_get, ◌⊎◌}
use Rattle.std.specs.Option.{option_and_then, option_flatten, is_some}
use Rattle.std.proofs.lemmas.Int.{ints}
use Rattle.std.proofs.lemmas.Bool.{cases_lt, eq-eqb}
use Rattle.std.proofs.lemmas.Option.{slice_get_past, same_Some}
use Rattle.bpf_insn.specs.declared.insn.Insn.{Insn}
use Rattle.bpf_insn.specs.declared.insn.Insn.TheVariants.{Alu, Unary, Branch, Jump, JumpFar, Call, Exit, Load, LoadSigned, StoreImm, Store, Wide}
use Rattle.bpf_insn.specs.Code.{fetch, slots, unit_count, units_of}
use Rattle.bpf_helpers.specs.declared.values.Env.{Env}
use Rattle.bpf_helpers.specs.Helpers.{numbered}
use Rattle.bpf_helpers.specs.Runs.{start, IsInput}
use Rattle.bpf_flow.specs.States.{IsConfig}
use Rattle.bpf_flow.specs.Steps.{HasNext, HasJump, distance_of}
use Rattle.bpf_flow.specs.Steps.{CanFlow}
use Rattle.bpf_verify.specs.declared.fault.VerifyFault.TheVariants.{NoHelper, FallsOff, JumpOut, JumpIntoWide}
use Rattle.bpf_verify.specs.declared.fault.VerifyFault.{VerifyFault}
use Rattle.bpf_verify.specs.Structure.{first_of, frame_fault, helper_fault, jump_fault, end_fault, insn_fault, unit_fault, IsBuilt}

first_none : (a b : Option VerifyFault) → first_of a b ≡ None → a ≡ None
first_none None b e = refl
first_none (Some f) b e = e

frame : (at d : ℕ) (o : Option VerifyFault) → first_of (frame_fault at d) o ≡ None → d ≢ 10
frame at d o e = λ is. let f : frame_fault at 10 ≡ None = rw is at (first_none (frame_fault at d) o e) in let g : ⊥ = cc in absurd g

forward : (code : List Insn) (at : ℕ) (off : ℤ) → jump_fault code at off ≡ None → pos 0 ≤ℤ off
forward code at (pos k) e = omega (arith, ints)
forward code at (negsuc k) e = let f : ⊥ = cc in absurd f

there : (at : ℕ) (id : ℤ) (o : Option VerifyFault) → first_of (helper_fault at id) o ≡ None → IsSome (numbered id)
there at id o e = by_test (is_some (numbered id)) (first_none (helper_fault at id) o e)
  where
    by_test : (b : Bool) → (if b then None else Some (NoHelper at)) ≡ None → b ≡ true
    by_test true e = refl
    by_test false e = let f : ⊥ = cc in absurd f

flows : (code : List Insn) (at : ℕ) (i : Insn) → insn_fault code at i ≡ None → CanFlow i
flows code at (Alu op w d s) e = frame at d _ e
flows code at (Unary op w d) e = frame at d _ e
flows code at (Branch t w d s off) e = forward code at off (first_none _ _ e)
flows code at (Jump off) e = forward code at off e
flows code at (JumpFar off) e = forward code at off e
flows code at (Call id) e = there at id _ e
flows code at Exit e = tt
flows code at (Load n d b off) e = frame at d _ e
flows code at (LoadSigned n d b off) e = frame at d _ e
flows code at (StoreImm n b off k) e = tt
flows code at (Store n b off s) e = tt
flows code at (Wide d n) e = frame at d _ e

pub can_flow : (code : List Insn) (at : ℕ) (i : Insn) → IsBuilt code → fetch code at ≡ Some i → CanFlow i
can_flow code at i b e = flows code at i (sym (ap (option_and_then (insn_fault code at)) e) ∙ b.each at)

pub built : (code : List Insn) → code ≢ [] → ((u : ℕ) → u < unit_count code → unit_fault code u ≡ None) → IsBuilt code
built code some each = record { some = some; each = λ u. ⊎_elim (λ (h : u < unit_count code). each u h) (λ (h : unit_count code ≤ u). ap (λ o. option_and_then (insn_fault code u) (option_flatten o)) (slice_get_past (slots code) u h)) (cases_lt u (unit_count code)) }

pub none_of : {X : Type 0} (o : Option X) → ((x : X) → o ≡ Some x → ⊥) → o ≡ None
none_of None h = refl
none_of (Some x) h = absurd (h x refl)

pub flow_ready : (code : List Insn) (at : ℕ) (o : Option Insn) (i : Insn) → IsBuilt code → o ≡ fetch code at → o ≡ Some i → CanFlow i
flow_ready code at o i b e s = can_flow code at i b (sym e ∙ s)

zeros : (n i : ℕ) → Rattle.std.specs.Prelude.slice_index (Rattle.std.specs.Prelude.replicate n 0) i < 256
zeros zero i = Rattle.std.proofs.Common.lit< tt
zeros (suc n) zero = Rattle.std.proofs.Common.lit< tt
zeros (suc n) (suc i) = zeros n i

pub start_config : (bytes argument : List ℕ) (env : Env) → IsInput bytes argument env → IsConfig (start bytes argument env)
start_config bytes argument env input = record { eleven = refl; stack_fits = refl; are_bytes = input.are_bytes; are_argument = input.are_argument; are_stack = zeros 512; now_fits = input.now_fits; who_fits = input.who_fits }

-- ---- units at which instructions begin

-- a unit that is the end of the code, or at which an instruction begins
abbrev Behind : List (Option Insn) → ℕ → Type 0
Behind os u = (u ≡ length os) ⊎ IsSome (option_flatten (slice_get os u))

further : (o : Option Insn) (os : List (Option Insn)) (u : ℕ) → Behind os u → Behind (o ∷ os) (suc u)
further o os u h = ⊎_elim (λ (e : u ≡ length os). inl (ap suc e)) (λ (e : IsSome (option_flatten (slice_get os u))). inr e) h

first_begins : (code : List Insn) → Behind (slots code) 0
first_begins [] = inl refl
first_begins (i ∷ is) = inr refl

pub some_begins : (code : List Insn) → code ≢ [] → IsSome (fetch code 0)
some_begins [] h = absurd (h refl)
some_begins (i ∷ is) h = refl

one_unit : (i : Insn) (is : List Insn) → Behind (Some i ∷ slots is) 1
one_unit i is = further (Some i) (slots is) 0 (first_begins is)

behind_first : (i : Insn) (is : List Insn) → Behind (slots (i ∷ is)) (units_of i)
behind_first (Alu op w d s) is = one_unit (Alu op w d s) is
behind_first (Unary op w d) is = one_unit (Unary op w d) is
behind_first (Branch t w d s off) is = one_unit (Branch t w d s off) is
behind_first (Jump off) is = one_unit (Jump off) is
behind_first (JumpFar off) is = one_unit (JumpFar off) is
behind_first (Call id) is = one_unit (Call id) is
behind_first Exit is = one_unit Exit is
behind_first (Load n d b off) is = one_unit (Load n d b off) is
behind_first (LoadSigned n d b off) is = one_unit (LoadSigned n d b off) is
behind_first (StoreImm n b off k) is = one_unit (StoreImm n b off k) is
behind_first (Store n b off s) is = one_unit (Store n b off s) is
behind_first (Wide d n) is = further (Some (Wide d n)) (None ∷ slots is) 1 (further None (slots is) 0 (first_begins is))

-- n units after u
passed : ℕ → ℕ → ℕ
passed zero n = n
passed (suc u) n = suc (passed u n)

passed_is : (u n : ℕ) → passed u n ≡ u + n
unfolding passed
passed_is zero n = omega arith
passed_is (suc u) n = let e : passed u n ≡ u + n = passed_is u n in omega arith

-- after an instruction the next one begins, or the code ends
behind : (code : List Insn) (u : ℕ) (i : Insn) → fetch code u ≡ Some i → Behind (slots code) (passed u (units_of i))
unfolding passed
behind [] u i e = let f : ⊥ = cc in absurd f
behind (j ∷ js) zero i e = subst (λ (x : Insn). Behind (slots (j ∷ js)) (units_of x)) (same_Some j i e) (behind_first j js)
behind (Wide d n ∷ js) (suc zero) i e = let f : ⊥ = cc in absurd f
behind (Wide d n ∷ js) (suc (suc u)) i e = further (Some (Wide d n)) (None ∷ slots js) (suc (passed u (units_of i))) (further None (slots js) (passed u (units_of i)) (behind js u i e))
behind (Alu op w d s ∷ js) (suc u) i e = further (Some (Alu op w d s)) (slots js) (passed u (units_of i)) (behind js u i e)
behind (Unary op w d ∷ js) (suc u) i e = further (Some (Unary op w d)) (slots js) (passed u (units_of i)) (behind js u i e)
behind (Branch t w d s off ∷ js) (suc u) i e = further (Some (Branch t w d s off)) (slots js) (passed u (units_of i)) (behind js u i e)
behind (Jump off ∷ js) (suc u) i e = further (Some (Jump off)) (slots js) (passed u (units_of i)) (behind js u i e)
behind (JumpFar off ∷ js) (suc u) i e = further (Some (JumpFar off)) (slots js) (passed u (units_of i)) (behind js u i e)
behind (Call id ∷ js) (suc u) i e = further (Some (Call id)) (slots js) (passed u (units_of i)) (behind js u i e)
behind (Exit ∷ js) (suc u) i e = further (Some Exit) (slots js) (passed u (units_of i)) (behind js u i e)
behind (Load n d b off ∷ js) (suc u) i e = further (Some (Load n d b off)) (slots js) (passed u (units_of i)) (behind js u i e)
behind (LoadSigned n d b off ∷ js) (suc u) i e = further (Some (LoadSigned n d b off)) (slots js) (passed u (units_of i)) (behind js u i e)
behind (StoreImm n b off k ∷ js) (suc u) i e = further (Some (StoreImm n b off k)) (slots js) (passed u (units_of i)) (behind js u i e)
behind (Store n b off s ∷ js) (suc u) i e = further (Some (Store n b off s)) (slots js) (passed u (units_of i)) (behind js u i e)

first_other : (a b : Option VerifyFault) → first_of a b ≡ None → b ≡ None
first_other None b e = e
first_other (Some f) b e = let g : ⊥ = cc in absurd g

not_last : (code : List Insn) (at n : ℕ) → end_fault code at n ≡ None → at + n ≡ unit_count code → ⊥
not_last code at n e is = let f : Some (FallsOff at) ≡ None = sym (ap (λ b. if b then Some (FallsOff at) else None) (eq-eqb (at + n) (unit_count code) is)) ∙ e in let g : ⊥ = cc in g

goes_on : (code : List Insn) (at : ℕ) (i : Insn) → HasNext i → insn_fault code at i ≡ None → end_fault code at (units_of i) ≡ None
goes_on code at (Alu op w d s) has e = first_other _ _ e
goes_on code at (Unary op w d) has e = first_other _ _ e
goes_on code at (Branch t w d s off) has e = first_other _ _ e
goes_on code at (Jump off) has e = absurd has
goes_on code at (JumpFar off) has e = absurd has
goes_on code at (Call id) has e = first_other _ _ e
goes_on code at Exit has e = absurd has
goes_on code at (Load n d b off) has e = first_other _ _ e
goes_on code at (LoadSigned n d b off) has e = first_other _ _ e
goes_on code at (StoreImm n b off k) has e = e
goes_on code at (Store n b off s) has e = e
goes_on code at (Wide d n) has e = first_other _ _ e

fault_none : (code : List Insn) (at : ℕ) (i : Insn) → IsBuilt code → fetch code at ≡ Some i → insn_fault code at i ≡ None
fault_none code at i b e = sym (ap (option_and_then (insn_fault code at)) e) ∙ b.each at

-- if an instruction continues at the next unit, an instruction begins there
pub next_begins : (code : List Insn) (at : ℕ) (i : Insn) → IsBuilt code → fetch code at ≡ Some i → HasNext i → IsSome (fetch code (at + units_of i))
next_begins code at i b e has = ⊎_elim
    (λ (last : at + units_of i ≡ unit_count code). absurd (not_last code at (units_of i) (goes_on code at i has (fault_none code at i b e)) last))
    (λ (begins : IsSome (fetch code (at + units_of i))). begins)
    (rw (sym (passed_is at (units_of i))) (behind code at i e))

target_begins : (code : List Insn) (at k : ℕ) → jump_fault code at (pos k) ≡ None → IsSome (fetch code (at + 1 + k))
target_begins code at k e = out (nat_le (unit_count code) (at + 1 + k)) e
  where
    wide : (b : Bool) → (if b then None else Some (JumpIntoWide at)) ≡ None → b ≡ true
    wide true h = refl
    wide false h = let f : ⊥ = cc in absurd f

    out : (b : Bool) → (if b then Some (JumpOut at) else (if is_some (fetch code (at + 1 + k)) then None else Some (JumpIntoWide at))) ≡ None → IsSome (fetch code (at + 1 + k))
    out true h = let f : ⊥ = cc in absurd f
    out false h = wide (is_some (fetch code (at + 1 + k))) h

-- an instruction begins at the target of each jump
pub jump_begins : (code : List Insn) (at k : ℕ) (i : Insn) → IsBuilt code → fetch code at ≡ Some i → HasJump i → distance_of i ≡ pos k → IsSome (fetch code (at + 1 + k))
jump_begins code at k i b e has far = by_form i (fault_none code at i b e) has far
  where
    by_form : (i : Insn) → insn_fault code at i ≡ None → HasJump i → distance_of i ≡ pos k → IsSome (fetch code (at + 1 + k))
    by_form (Alu op w d s) e has far = absurd has
    by_form (Unary op w d) e has far = absurd has
    by_form (Branch t w d s off) e has far = target_begins code at k (rw far at (first_none (jump_fault code at off) (end_fault code at 1) e))
    by_form (Jump off) e has far = target_begins code at k (rw far at e)
    by_form (JumpFar off) e has far = target_begins code at k (rw far at e)
    by_form (Call id) e has far = absurd has
    by_form Exit e has far = absurd has
    by_form (Load n d b off) e has far = absurd has
    by_form (LoadSigned n d b off) e has far = absurd has
    by_form (StoreImm n b off k) e has far = absurd has
    by_form (Store n b off s) e has far = absurd has
    by_form (Wide d n) e has far = absurd has

pub distance_forward : (i : Insn) → CanFlow i → pos 0 ≤ℤ distance_of i
distance_forward (Alu op w d s) h = omega (arith, ints)
distance_forward (Unary op w d) h = omega (arith, ints)
distance_forward (Branch t w d s off) h = h
distance_forward (Jump off) h = h
distance_forward (JumpFar off) h = h
distance_forward (Call id) h = omega (arith, ints)
distance_forward Exit h = omega (arith, ints)
distance_forward (Load n d b off) h = omega (arith, ints)
distance_forward (LoadSigned n d b off) h = omega (arith, ints)
distance_forward (StoreImm n b off k) h = omega (arith, ints)
distance_forward (Store n b off s) h = omega (arith, ints)
distance_forward (Wide d n) h = omega (arith, ints)
