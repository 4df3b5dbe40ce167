-- Consequences of an optional word.
use Rattle.std.proofs.Common.{◌≡◌, Option, Some, None, IsSomeAnd, subst, sym}

pub within : {X : Type 0} (limit : Option X) (most : X) (P : X → Type 0) → limit ≡ Some most → P most → IsSomeAnd limit P
within {X} limit most P is holds = subst (λ (o : Option X). IsSomeAnd o P) (sym is) holds

-- a consequence that holds for every limit
pub on_limit : {X : Type 0} (limit : Option X) (P : X → Type 0) (Q : Type 0) → ((most : X) → P most → Q) → IsSomeAnd limit P → Q
on_limit None P Q f h = absurd h
on_limit (Some most) P Q f h = f most h
