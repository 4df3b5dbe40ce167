-- Places in a list with one more element.
use Rattle.std.proofs.Common.{◌≡◌, ℕ, zero, suc, ◌⊎◌, List, [], ◌∷◌, ◌++◌, length, Some, refl, ap, inl, inr, ⊎_elim}
use Rattle.std.specs.Prelude.{slice_get}
use Rattle.std.proofs.lemmas.Option.{same_Some}

module _ {X : Type 0} where
  -- each element of the list is at the same place of the longer one
  pub still : (xs : List X) (y : X) (i : ℕ) (x : X) → slice_get xs i ≡ Some x → slice_get (xs ++ y ∷ []) i ≡ Some x
  still [] y i x e = let f : ⊥ = cc in absurd f
  still (z ∷ xs) y zero x e = e
  still (z ∷ xs) y (suc i) x e = still xs y i x e

  -- the new element is last
  pub last : (xs : List X) (y : X) → slice_get (xs ++ y ∷ []) (length xs) ≡ Some y
  last [] y = refl
  last (z ∷ xs) y = last xs y

  -- each element of the longer list is in the list, or is the new one
  pub stood : (xs : List X) (y : X) (i : ℕ) (x : X) → slice_get (xs ++ y ∷ []) i ≡ Some x → (slice_get xs i ≡ Some x) ⊎ ((i ≡ length xs) × (y ≡ x))
  stood [] y zero x e = inr (refl, same_Some y x e)
  stood [] y (suc i) x e = let f : ⊥ = cc in absurd f
  stood (z ∷ xs) y zero x e = inl e
  stood (z ∷ xs) y (suc i) x e = ⊎_elim (λ (h : slice_get xs i ≡ Some x). inl h) (λ (h : (i ≡ length xs) × (y ≡ x)). inr (ap suc h.0, h.1)) (stood xs y i x e)
