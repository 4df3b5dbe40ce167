-- The effect of an instruction on a state.
use Rattle.std.specs.Prelude.{ℕ, ◌≡◌, ◌≢◌, ◌≤◌, ◌+◌, ◌⊎◌, ℤ, pos, ◌+ℤ◌, ◌≤ℤ◌, ⊤, length, slice_set, Option, Some, None, IsSome}
use Rattle.bpf_insn.specs.declared.insn.Insn.{Insn}
use Rattle.bpf_insn.specs.declared.insn.Insn.TheVariants.{Alu, Unary, Branch, Jump, JumpFar, Call, Exit, Load, LoadSigned, StoreImm, Store, Wide}
use Rattle.bpf_insn.specs.Code.{units_of}
use Rattle.bpf_helpers.specs.declared.helpers.Helper.{Helper}
use Rattle.bpf_helpers.specs.declared.values.Value.{Value}
use Rattle.bpf_helpers.specs.declared.values.Region.{Region}
use Rattle.bpf_helpers.specs.Helpers.{numbered}
use Rattle.bpf_helpers.specs.Machine.{Config, register, effect, exit_code, access, helper_call}
use Rattle.bpf_range.specs.declared.values.Range.{Range}
use Rattle.bpf_range.specs.declared.kinds.Kind.{Kind}
use Rattle.bpf_range.specs.Sets.{In}
use Rattle.bpf_flow.specs.declared.state.State.{State}
use Rattle.bpf_flow.specs.declared.state.Way.{Way}
use Rattle.bpf_flow.specs.declared.state.Way.TheVariants as way
use Rattle.bpf_flow.specs.Kinds.{HoldsKind, IsPointer, Between, KindKeeps}
use Rattle.bpf_flow.specs.States.{Fits, IsConfig}

-- an operation on two values of the kinds a and b has a result of the kind k
abbrev pub Gives : (Value → Value → Option Value) → Kind → Kind → Range → Range → Kind → Type 0
Gives f a b bytes argument k = (m n : ℕ) (x y : Value) → In bytes m → In argument n → HoldsKind a m n x → HoldsKind b m n y → KindKeeps k m n (f x y)

-- t is s, except that the register r has the kind k
pub record Sets (s t : State) (r : ℕ) (k : Kind) : Type 0 where
  pub long : length s.kinds ≡ 11
  pub kinds : t.kinds ≡ slice_set s.kinds r k
  pub bytes : t.bytes ≡ s.bytes
  pub argument : t.argument ≡ s.argument

-- ---- memory

-- each access of up to `size` bytes at a pointer with an offset from lo to hi is inside its region
abbrev pub Accesses : Region → ℤ → ℤ → State → ℤ → ℕ → Type 0
Accesses r lo hi s off size = (c : Config) → IsConfig c → Fits s c → (o : ℤ) (n : ℕ) → Between lo hi o → n ≤ size → IsSome (access c r (o +ℤ off) n)

-- the register a points into the region q, and an access of n bytes at the pointer plus `off` is inside
abbrev pub Reaching : State → ℕ → ℤ → ℕ → Region → Type 0
Reaching s a off n q = (c : Config) → IsConfig c → Fits s c → IsPointer q (λ o. IsSome (access c q (o +ℤ off) n)) (register c a)

abbrev pub IsAccess : Insn → Type 0
IsAccess (Load n d b off) = ⊤
IsAccess (LoadSigned n d b off) = ⊤
IsAccess (StoreImm n b off k) = ⊤
IsAccess (Store n b off s) = ⊤
IsAccess i = ⊥

-- all instructions except conditional jumps
abbrev pub IsPlain : Insn → Type 0
IsPlain (Branch t w d s off) = ⊥
IsPlain i = ⊤

-- ---- edges

-- the ways that continue at the next instruction, and those that jump
abbrev pub GoesNext : Way → Type 0
GoesNext way.Next = ⊤
GoesNext way.Both = ⊤
GoesNext w = ⊥

abbrev pub GoesJump : Way → Type 0
GoesJump way.Jump = ⊤
GoesJump way.Both = ⊤
GoesJump w = ⊥

-- The states on the edge to the next instruction and on the edge of the jump. An edge that is never taken has
-- no state.
pub record Edges : Type 0 where
  pub next : Option State
  pub jump : Option State

-- The edges of a way. The state s belongs to the only edge, or to the edge to the next instruction; t belongs to
-- the jump.
abbrev pub edges_of : Way → State → State → Edges
edges_of way.End s t = record { next = None; jump = None }
edges_of way.Next s t = record { next = Some s; jump = None }
edges_of way.Jump s t = record { next = None; jump = Some s }
edges_of way.Both s t = record { next = Some s; jump = Some t }

-- From each configuration that fits s, the instruction leads to the next instruction and to a configuration that fits t.
abbrev pub Passes : Insn → State → State → Type 0
Passes i s t = (c : Config) → IsConfig c → Fits s c → (d : Config) × (effect i c ≡ Some d) × (d.place ≡ c.place + units_of i) × Fits t d

-- From each configuration that fits s, a call of the helper leads to the next instruction and to a configuration that fits t.
abbrev pub IsCalled : Helper → State → State → Type 0
IsCalled h s t = (c : Config) → IsConfig c → Fits s c → (d : Config) × (helper_call c h ≡ Some d) × (d.place ≡ c.place + 1) × Fits t d

abbrev pub FitsSome : Option State → Config → Type 0
FitsSome None c = ⊥
FitsSome (Some s) c = Fits s c

-- the jump distance of an instruction; 0 if it does not jump
abbrev pub distance_of : Insn → ℤ
distance_of (Branch t w d s off) = off
distance_of (Jump off) = off
distance_of (JumpFar off) = off
distance_of i = pos 0

-- the instruction i leads from c to d along one of its edges, and d fits the state on that edge
abbrev pub Lands : Insn → Edges → Config → Config → Type 0
Lands i e c d = ((d.place ≡ c.place + units_of i) × FitsSome e.next d) ⊎ ((k : ℕ) × (distance_of i ≡ pos k) × (d.place ≡ c.place + 1 + k) × FitsSome e.jump d)

-- from c the instruction ends the run, or leads along an edge to a configuration that fits the state there
abbrev pub GoesTo : Insn → Edges → Config → Type 0
GoesTo i e c = IsSome (exit_code i c) ⊎ ((d : Config) × (effect i c ≡ Some d) × Lands i e c d)

-- From each configuration that fits s, the instruction ends the run, or leads along an edge to a configuration that fits the state there.
abbrev pub Sound : Insn → State → Edges → Type 0
Sound i s e = (c : Config) → IsConfig c → Fits s c → GoesTo i e c

-- instructions that may continue at the next instruction, and instructions that may jump
abbrev pub HasNext : Insn → Type 0
HasNext Exit = ⊥
HasNext (Jump off) = ⊥
HasNext (JumpFar off) = ⊥
HasNext i = ⊤

abbrev pub HasJump : Insn → Type 0
HasJump (Branch t w d s off) = ⊤
HasJump (Jump off) = ⊤
HasJump (JumpFar off) = ⊤
HasJump i = ⊥

-- The edges after an instruction are sound for the state before it, and only possible edges have a state.
pub record Flows (i : Insn) (s : State) (e : Edges) : Type 0 where
  pub sound : Sound i s e
  pub next : IsSome e.next → HasNext i
  pub jump : IsSome e.jump → HasJump i

-- The instruction does not write R10, does not jump backward, and calls only a helper that exists.
abbrev pub CanFlow : Insn → Type 0
CanFlow (Alu op w d s) = d ≢ 10
CanFlow (Unary op w d) = d ≢ 10
CanFlow (Branch t w d s off) = pos 0 ≤ℤ off
CanFlow (Jump off) = pos 0 ≤ℤ off
CanFlow (JumpFar off) = pos 0 ≤ℤ off
CanFlow (Call id) = IsSome (numbered id)
CanFlow (Load n d b off) = d ≢ 10
CanFlow (LoadSigned n d b off) = d ≢ 10
CanFlow (Wide d n) = d ≢ 10
CanFlow i = ⊤
