-- Each form of instruction, with the state before it.
use Rattle.std.proofs.Common.{ℤ, ◌≡◌, ◌≢◌, ℕ, ◌+◌, ◌<◌, ◌≤◌, length, refl, ap, ◌∙◌, arith, List, Option, Some, None, ⊎_elim, inl, inr, cond}
use Rattle.std.specs.Prelude.{slice_set, slice_index_or}
use Rattle.std.specs.Option.{option_and_then}
use Rattle.std.proofs.lemmas.Bool.{cases_eq, ne_eqb}
use Rattle.std.proofs.lemmas.List.{get_or-set_other}
use Rattle.std.proofs.lemmas.Grind.{get_or-set_at}
use Rattle.bpf_insn.specs.declared.insn.Width.{Width}
use Rattle.bpf_insn.specs.declared.insn.Op.{Op}
use Rattle.bpf_insn.specs.declared.insn.Operand.{Operand}
use Rattle.bpf_insn.specs.declared.insn.Insn.{Insn}
use Rattle.bpf_insn.specs.declared.insn.Insn.TheVariants.{Alu, Unary, Branch, Jump, JumpFar, Call, Exit, Load, LoadSigned, StoreImm, Store, Wide}
use Rattle.bpf_insn.specs.declared.insn.Size.{Size}
use Rattle.bpf_helpers.specs.declared.values.Value.{Value}
use Rattle.bpf_helpers.specs.declared.values.Value.TheVariants.{Nothing, Number}
use Rattle.bpf_helpers.specs.Machine.{Config, register, operand, outcome_of, with_register}
use Rattle.bpf_range.specs.declared.known.Known.{Known}
use Rattle.bpf_range.specs.Sets.{Contains}
use Rattle.bpf_range.specs.declared.kinds.Kind.{Kind}
use Rattle.bpf_range.specs.declared.kinds.Kind.TheVariants.{Unset, Num}
use Rattle.bpf_flow.specs.declared.state.State.{State}
use Rattle.bpf_flow.specs.Kinds.{HoldsKind, KindKeeps}
use Rattle.bpf_flow.specs.States.{Fits, IsConfig}
use Rattle.bpf_flow.specs.Steps.{Gives, Passes, Sets, Flows, HasNext, IsAccess}

-- a value of a kind
pub kept : (k : Kind) (m n : ℕ) (o : Option Value) → KindKeeps k m n o → (v : Value) × (o ≡ Some v) × HoldsKind k m n v
kept k m n None h = absurd h
kept k m n (Some v) h = (v, refl, h)

-- changing one kind and the register's value preserves `HoldsKind`
set_holds : (kinds : List Kind) (registers : List Value) (r : ℕ) (k : Kind) (v : Value) (m n : ℕ) → length kinds ≡ 11 → length registers ≡ 11 → r < 11 → HoldsKind k m n v
    → ((q : ℕ) → q < 11 → HoldsKind (slice_index_or kinds q Unset) m n (slice_index_or registers q Nothing))
    → (q : ℕ) → q < 11 → HoldsKind (slice_index_or (slice_set kinds r k) q Unset) m n (slice_index_or (slice_set registers r v) q Nothing)
set_holds kinds registers r k v m n lk lr h held before q below = ⊎_elim
    (λ (e : q ≡ r).
    let a : slice_index_or (slice_set kinds r k) q Unset ≡ k = get_or-set_at kinds r q k Unset e (omega arith) in
    let b : slice_index_or (slice_set registers r v) q Nothing ≡ v = get_or-set_at registers r q v Nothing e (omega arith) in
    rw (a, b) held)
    (λ (ne : q ≡ r → ⊥).
    let a : slice_index_or (slice_set kinds r k) q Unset ≡ slice_index_or kinds q Unset = get_or-set_other kinds r q k Unset ne in
    let b : slice_index_or (slice_set registers r v) q Nothing ≡ slice_index_or registers q Nothing = get_or-set_other registers r q v Nothing ne in
    rw (a, b) (before q below))
    (cases_eq q r)

-- writing a register
pub writes : (s t : State) (k : Kind) (r u : ℕ) (c : Config) (v : Value) → Sets s t r k → r ≤ 10 → r ≢ 10 → IsConfig c → Fits s c → HoldsKind k (length c.bytes) (length c.argument) v
    → (d : Config) × (with_register c u r v ≡ Some d) × (d.place ≡ c.place + u) × Fits t d
writes s t k r u c v set low ne config f held =
    let d : Config = record c { place = c.place + u; registers = slice_set c.registers r v } in
    let e : with_register c u r v ≡ Some d = ap (λ b. cond b None (Some d)) (ne_eqb r 10 ne) in
    let ks : (q : ℕ) → q < 11 → HoldsKind (slice_index_or t.kinds q Unset) (length c.bytes) (length c.argument) (slice_index_or (slice_set c.registers r v) q Nothing) =
    λ q below. rw set.kinds (set_holds s.kinds c.registers r k v (length c.bytes) (length c.argument) set.long config.eleven (omega arith) held f.kinds q below) in
    (d, e, refl, record { kinds = ks; bytes = rw set.bytes f.bytes; argument = rw set.argument f.argument })

pub alu_passes : (op : Op) (w : Width) (r : ℕ) (o : Operand) (s t : State) (b k : Kind) → Sets s t r k → r ≤ 10 → r ≢ 10
    → Gives (outcome_of op w) (slice_index_or s.kinds r Unset) b s.bytes s.argument k
    → ((c : Config) → Fits s c → HoldsKind b (length c.bytes) (length c.argument) (operand c o))
    → Passes (Alu op w r o) s t
alu_passes op w r o s t b k set low ne gives other = λ c config f.
    let v = kept k (length c.bytes) (length c.argument) (outcome_of op w (register c r) (operand c o)) (gives (length c.bytes) (length c.argument) (register c r) (operand c o) f.bytes f.argument (f.kinds r (omega arith)) (other c f)) in
    let d = writes s t k r 1 c v.0 set low ne config f v.2 in
    (d.0, ap (option_and_then (with_register c 1 r)) v.1 ∙ d.1, d.2, d.3)

pub unary_passes : (op : Op) (w : Width) (r : ℕ) (s t : State) (z : Known) (k : Kind) → Sets s t r k → r ≤ 10 → r ≢ 10
    → Gives (outcome_of op w) (slice_index_or s.kinds r Unset) (Num z) s.bytes s.argument k
    → Contains z 0
    → Passes (Unary op w r) s t
unary_passes op w r s t z k set low ne gives other = λ c config f.
    let v = kept k (length c.bytes) (length c.argument) (outcome_of op w (register c r) (Number 0)) (gives (length c.bytes) (length c.argument) (register c r) (Number 0) f.bytes f.argument (f.kinds r (omega arith)) other) in
    let d = writes s t k r 1 c v.0 set low ne config f v.2 in
    (d.0, ap (option_and_then (with_register c 1 r)) v.1 ∙ d.1, d.2, d.3)

pub wide_passes : (r n : ℕ) (s t : State) (k : Known) → Sets s t r (Num k) → r ≤ 10 → r ≢ 10 → Contains k n → Passes (Wide r n) s t
wide_passes r n s t k set low ne held = λ c config f.
    let d = writes s t (Num k) r 2 c (Number n) set low ne config f held in
    (d.0, d.1, d.2, d.3)

-- an instruction that continues only at the next one
pub flows : (i : Insn) (s t : State) → HasNext i → Passes i s t → Flows i s (record { next = Some t; jump = None })
flows i s t has passes = record {
  sound = λ c config f. let d = passes c config f in inr (d.0, d.1, inl (d.2, d.3));
  next = λ _. has;
  jump = λ h. let e : ⊥ = cc in absurd e;
}

-- an access is a load or a store
pub no_access : (i : Insn) → IsAccess i
    → ((n : Size) (d b : ℕ) (off : ℤ) → i ≡ Load n d b off → ⊥)
    → ((n : Size) (d b : ℕ) (off : ℤ) → i ≡ LoadSigned n d b off → ⊥)
    → ((n : Size) (b : ℕ) (off k : ℤ) → i ≡ StoreImm n b off k → ⊥)
    → ((n : Size) (b : ℕ) (off : ℤ) (s : ℕ) → i ≡ Store n b off s → ⊥)
    → ⊥
no_access (Load n d b off) is l e m s = l n d b off refl
no_access (LoadSigned n d b off) is l e m s = e n d b off refl
no_access (StoreImm n b off k) is l e m s = m n b off k refl
no_access (Store n b off r) is l e m s = s n b off r refl
no_access (Alu op w d r) is l e m s = absurd is
no_access (Unary op w d) is l e m s = absurd is
no_access (Branch t w d r off) is l e m s = absurd is
no_access (Jump off) is l e m s = absurd is
no_access (JumpFar off) is l e m s = absurd is
no_access (Call id) is l e m s = absurd is
no_access Exit is l e m s = absurd is
no_access (Wide d n) is l e m s = absurd is
