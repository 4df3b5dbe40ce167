-- The unit at which the pass stops, and the proof that its states are then true.
use Rattle.std.proofs.Common.{◌≡◌, ℕ, zero, suc, ◌<◌, sym, ◌∙◌, subst, refl, arith, List, Some, ⊎_elim}
use Rattle.std.proofs.lemmas.Option.{same_Some}
use Rattle.bpf_insn.specs.declared.insn.Insn.{Insn}
use Rattle.bpf_helpers.specs.Machine.{Config}
use Rattle.bpf_helpers.specs.Runs.{start, Reaches}
use Rattle.bpf_flow.specs.declared.fault.FlowFault.{FlowFault}
use Rattle.bpf_flow.specs.declared.fault.FlowFault.TheVariants as flow
use Rattle.bpf_verify.specs.Fault.{placed_fault}
use Rattle.bpf_verify.specs.declared.fault.VerifyFault.{VerifyFault}
use Rattle.bpf_verify.specs.States.{States}
use Rattle.bpf_verify.specs.Stopped.{stopping_unit, HoldUntil, AreTaken, IsStopped, KeepsAt, Stays}
use Rattle.bpf_verify.specs.Verified.{FitsAt, GoesOn, Starts}
use Rattle.bpf_verify.specs.Visits.{AreStates, ConsistentAt}
use Rattle.bpf_verify.proofs.Safety.{ended_stops}

-- the fault of an instruction stops the pass at that instruction
pub stops_there : (f : FlowFault) (at unit : ℕ) → stopping_unit (placed_fault f at) ≡ Some unit → unit ≡ at
stops_there flow.Unset at unit e = sym (same_Some at unit e)
stops_there flow.HelperArgument at unit e = sym (same_Some at unit e)
stops_there flow.ExitNotNumber at unit e = sym (same_Some at unit e)
stops_there flow.NotPointer at unit e = sym (same_Some at unit e)
stops_there flow.PointerOp at unit e = sym (same_Some at unit e)
stops_there flow.PointerRange at unit e = sym (same_Some at unit e)
stops_there flow.PointerStored at unit e = sym (same_Some at unit e)
stops_there flow.ArgumentWritten at unit e = sym (same_Some at unit e)
stops_there flow.OutOfRecord at unit e = sym (same_Some at unit e)
stops_there flow.OutOfArgument at unit e = sym (same_Some at unit e)
stops_there flow.OutOfStack at unit e = sym (same_Some at unit e)

fits_along : (code : List Insn) (states : States) (at : ℕ) → AreTaken code states at → (first : Config) → FitsAt states first → (n : ℕ) (c : Config) → Reaches code n first c → ((m : ℕ) (b : Config) → m < n → Reaches code m first b → b.place < at) → FitsAt states c
fits_along code states at k first fits zero c r before = subst (λ (y : Config). FitsAt states y) r fits
fits_along code states at k first fits (suc n) c r before =
    let b : Config = r.0 in
    let f : FitsAt states b = fits_along code states at k first fits n b r.1 (λ m d less reach. before m d (omega arith) reach) in
    let below : b.place < at = before n b (omega arith) r.1 in
    ⊎_elim
    (λ e. absurd (ended_stops code b c e r.2))
    (λ x.
    let same : GoesOn.next x ≡ c = same_Some (GoesOn.next x) c (sym (GoesOn.steps x) ∙ r.2) in
    subst (λ (y : Config). FitsAt states y) same (GoesOn.fits x))
    (k.each b.place below b refl f)

-- the states of a pass that has come to a unit are true of each run until the run has been there
pub hold_until : (code : List Insn) (states : States) (at : ℕ) → AreTaken code states at → HoldUntil code states at
hold_until code states at k = λ bytes argument env input n c comes. fits_along code states at k (start bytes argument env) (k.starts bytes argument env input) n c comes.chain comes.before

-- if an instruction is invalid, the states are those with which the pass came to it
pub stopped : (code : List Insn) (old new : States) (at : ℕ) (fault : VerifyFault) → AreStates code old → Starts old → ((p : ℕ) → p < at → ConsistentAt code old p) → Stays old new at fault → IsStopped code new fault
stopped code old new at fault are starts each stays = λ unit is.
    let s : (unit ≡ at) × KeepsAt old new at = stays unit is in
    let taken : AreTaken code old at = record { are = are; starts = starts; each = each } in
    rw (s.0, KeepsAt.same s.1) (record { taken = taken; stands = KeepsAt.stands s.1; hold = hold_until code old at taken })
