-- Bytes that are written in several calls.
use Rattle.std.proofs.Common.{◌≡◌, ◌∙◌, ap, sym, ℕ, List, Option, Some, None, ◌++◌, append_assoc}
use Rattle.std.specs.Io.KnownBytes.{Appends}

pub Appends-Appends : (a b c : Option (List ℕ)) (x y z : List ℕ) → Appends a b x → Appends b c y → z ≡ x ++ y → Appends a c z
Appends-Appends None b c x y z p q e = tt
Appends-Appends (Some a) None c x y z p q e = absurd p
Appends-Appends (Some a) (Some b) None x y z p q e = absurd q
Appends-Appends (Some a) (Some b) (Some c) x y z p q e = q ∙ ap (λ xs. xs ++ y) p ∙ append_assoc a x y ∙ ap (λ xs. a ++ xs) (sym e)
