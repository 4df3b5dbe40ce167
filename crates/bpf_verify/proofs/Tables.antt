-- Tables without states.
use Rattle.std.proofs.Common.{◌≡◌, ℕ, zero, suc, refl, ap, ◌∷◌, None}
use Rattle.std.specs.Prelude.{replicate}
use Rattle.bpf_verify.specs.States.{unboxed, state_at}

pub none_boxed : (A : Type 0) (n : ℕ) → unboxed {A = A} (replicate n None) ≡ replicate n None
none_boxed A zero = refl
none_boxed A (suc n) = ap (λ (xs : _). None ∷ xs) (none_boxed A n)

pub none_at : (n u : ℕ) → state_at (replicate n None) u ≡ None
none_at zero u = refl
none_at (suc n) zero = refl
none_at (suc n) (suc u) = none_at n u
