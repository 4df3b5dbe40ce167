-- The states that a pass keeps.
use Rattle.std.proofs.Common.{◌≡◌, ℤ, ℕ, zero, suc, ◌<◌, length, refl, sym, ap, ◌∙◌, arith, [], ◌∷◌, Option, None, Bool, ⊎_elim}
use Rattle.std.specs.Prelude.{slice_set}
use Rattle.std.proofs.Math.ListN.{length-set}
use Rattle.std.proofs.lemmas.Bool.{cases_eq}
use Rattle.bpf_insn.specs.declared.insn.Insn.{Insn}
use Rattle.bpf_insn.specs.declared.insn.Test.{Test}
use Rattle.bpf_insn.specs.declared.insn.Width.{Width}
use Rattle.bpf_insn.specs.declared.insn.Operand.{Operand}
use Rattle.bpf_insn.specs.declared.insn.Insn.TheVariants.{Alu, Unary, Branch, Jump, JumpFar, Call, Exit, Load, LoadSigned, StoreImm, Store, Wide}
use Rattle.bpf_flow.specs.declared.state.State.{State}
use Rattle.bpf_flow.specs.declared.state.Way.{Way}
use Rattle.bpf_flow.specs.declared.state.Way.TheVariants as way
use Rattle.bpf_flow.specs.Steps.{Flows, HasNext, HasJump, GoesNext, GoesJump, IsPlain, edges_of}
use Rattle.bpf_verify.specs.States.{States, state_at}
use Rattle.bpf_verify.specs.Visits.{Keeps, Ready}
use Rattle.bpf_verify.proofs.Growing.{get_other}

set_again : (xs : States) (i : ℕ) (a b : Option State) → slice_set (slice_set xs i a) i b ≡ slice_set xs i b
set_again [] i a b = refl
set_again (x ∷ xs) zero a b = refl
set_again (x ∷ xs) (suc i) a b = ap (λ (ys : States). x ∷ ys) (set_again xs i a b)

set_here : (xs : States) (i : ℕ) (o : Option State) → i < length xs → state_at (slice_set xs i o) i ≡ o
set_here [] i o h = absurd (omega arith)
set_here (x ∷ xs) zero o h = refl
set_here (x ∷ xs) (suc i) o h = set_here xs i o (omega arith)

-- setting the same state in both lists preserves equality at a unit
same_set : (known kept : States) (to u : ℕ) (o : Option State) → to < length known → to < length kept → state_at kept u ≡ state_at known u → state_at (slice_set kept to o) u ≡ state_at (slice_set known to o) u
same_set known kept to u o k l h = ⊎_elim
    (λ (e : u ≡ to). rw e (set_here kept to o l ∙ sym (set_here known to o k)))
    (λ (ne : u ≡ to → ⊥). get_other kept to u o ne ∙ h ∙ sym (get_other known to u o ne))
    (cases_eq u to)

-- putting a joined state back after `take` preserves `Ready`
pub ready_put : (known kept : States) (to : ℕ) (o : Option State) → Ready known kept to → (u : ℕ) → Ready known kept u → Ready (slice_set known to o) (slice_set (slice_set kept to None) to o) u
ready_put known kept to o r u h = rw (set_again kept to None o) (record {
  within = rw (length-set kept to o) h.within;
  noted = rw (length-set known to o) h.noted;
  same = same_set known kept to u o r.noted r.within h.same;
})

pub keeps_put : (all : Bool) (at : ℕ) (known kept : States) (to : ℕ) (o : Option State) → Ready known kept to → Keeps all at known kept → Keeps all at (slice_set known to o) (slice_set (slice_set kept to None) to o)
keeps_put all at known kept to o r k = rw (set_again kept to None o) (record {
  long = length-set kept to o ∙ k.long ∙ sym (length-set known to o);
  whole = λ e. ap (λ (xs : States). slice_set xs to o) (k.whole e);
  rest = λ u h. same_set known kept to u o r.noted r.within (k.rest u h);
})

pub keeps_none : (all : Bool) (at : ℕ) (states : States) → Keeps all at states states
keeps_none all at states = record { long = refl; whole = λ e. refl; rest = λ u h. refl }

-- ---- ways

pub goes_next : (i : Insn) (s t : State) (w : Way) → ((u : State) → Flows i s (edges_of w t u)) → GoesNext w → HasNext i
goes_next i s t way.End f h = absurd h
goes_next i s t way.Next f h = (f t).next refl
goes_next i s t way.Jump f h = absurd h
goes_next i s t way.Both f h = (f t).next refl

pub goes_jump : (i : Insn) (s t : State) (w : Way) → ((u : State) → Flows i s (edges_of w t u)) → GoesJump w → HasJump i
goes_jump i s t way.End f h = absurd h
goes_jump i s t way.Next f h = absurd h
goes_jump i s t way.Jump f h = (f t).jump refl
goes_jump i s t way.Both f h = (f t).jump refl

not_both : (i : Insn) → IsPlain i → HasNext i → HasJump i → ⊥
not_both (Alu op w d s) p n j = j
not_both (Unary op w d) p n j = j
not_both (Branch t w d s off) p n j = p
not_both (Jump off) p n j = n
not_both (JumpFar off) p n j = n
not_both (Call id) p n j = j
not_both Exit p n j = n
not_both (Load n d b off) p e j = j
not_both (LoadSigned n d b off) p e j = j
not_both (StoreImm n b off k) p e j = j
not_both (Store n b off s) p e j = j
not_both (Wide d n) p e j = j

-- an instruction other than a conditional jump continues in at most one way
pub one_way : (i : Insn) (s t : State) (w : Way) → IsPlain i → ((u : State) → Flows i s (edges_of w t u)) → w ≡ way.Both → ⊥
one_way i s t w plain f e =
    let b : (u : State) → Flows i s (edges_of way.Both t u) = rw e at f in
    not_both i plain ((b t).next refl) ((b t).jump refl)

pub plain : (i : Insn) → ((t : Test) (w : Width) (d : ℕ) (s : Operand) (off : ℤ) → i ≡ Branch t w d s off → ⊥) → IsPlain i
plain (Branch t w d s off) not = not t w d s off refl
plain (Alu op w d s) not = tt
plain (Unary op w d) not = tt
plain (Jump off) not = tt
plain (JumpFar off) not = tt
plain (Call id) not = tt
plain Exit not = tt
plain (Load n d b off) not = tt
plain (LoadSigned n d b off) not = tt
plain (StoreImm n b off k) not = tt
plain (Store n b off s) not = tt
plain (Wide d n) not = tt
