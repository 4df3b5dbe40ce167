-- The values that a register of a kind may hold.
use Rattle.std.specs.Prelude.{ℕ, ◌≡◌, ℤ, ◌≤ℤ◌, ⊤, Option, Some, None}
use Rattle.bpf_helpers.specs.declared.values.Region.{Region}
use Rattle.bpf_helpers.specs.declared.values.Region.TheVariants.{Record, Argument, Stack as StackBytes}
use Rattle.bpf_helpers.specs.declared.values.Value.{Value}
use Rattle.bpf_helpers.specs.declared.values.Value.TheVariants.{Nothing, Number, Pointer}
use Rattle.bpf_range.specs.Sets.{Contains}
use Rattle.bpf_range.specs.declared.kinds.Kind.{Kind}
use Rattle.bpf_range.specs.declared.kinds.Kind.TheVariants.{Unset, Num, RecLen, ArgLen, Rec, Arg, Stack}

abbrev pub Between : ℤ → ℤ → ℤ → Type 0
Between lo hi z = (lo ≤ℤ z) × (z ≤ℤ hi)

-- a number with the property P
abbrev pub IsNumber : (ℕ → Type 0) → Value → Type 0
IsNumber P Nothing = ⊥
IsNumber P (Number x) = P x
IsNumber P (Pointer r o) = ⊥

-- a pointer into the region with an offset that has the property P
abbrev pub IsPointer : Region → (ℤ → Type 0) → Value → Type 0
IsPointer q P Nothing = ⊥
IsPointer q P (Number x) = ⊥
IsPointer q P (Pointer r o) = (r ≡ q) × P o

-- The value v is of the kind, if the record has m bytes and the argument n. Every value is of the kind Unset.
abbrev pub HoldsKind : Kind → ℕ → ℕ → Value → Type 0
HoldsKind Unset m n v = ⊤
HoldsKind (Num k) m n v = IsNumber (Contains k) v
HoldsKind RecLen m n v = IsNumber (λ x. x ≡ m) v
HoldsKind ArgLen m n v = IsNumber (λ x. x ≡ n) v
HoldsKind (Rec lo hi) m n v = IsPointer Record (Between lo hi) v
HoldsKind (Arg lo hi) m n v = IsPointer Argument (Between lo hi) v
HoldsKind (Stack lo hi) m n v = IsPointer StackBytes (Between lo hi) v

-- the value exists and is of the kind
abbrev pub KindKeeps : Kind → ℕ → ℕ → Option Value → Type 0
KindKeeps k m n None = ⊥
KindKeeps k m n (Some v) = HoldsKind k m n v
