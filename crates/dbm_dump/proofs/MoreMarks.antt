-- More about the meaning of the lines of a dump.
use Rattle.std.proofs.Common.{◌≡◌, ℕ, ◌<◌, List, [], ◌∷◌, length, None, refl, arith, eqb}
use Rattle.std.proofs.lemmas.List.Splits.{length-slice_split}
use Rattle.dbm_script.specs.Pieces.{pieces_of}
use Rattle.dbm_dump.specs.Marks.{pair_in}

-- three or more words are not a pair
pub too_many : (a b rest : List ℕ) → None ≡ pair_in (a ∷ b ∷ pieces_of 32 rest)
too_many a b rest = none (pieces_of 32 rest) (let long = length-slice_split (λ x. eqb x 32) rest in omega arith)
  where
    none : (words : List (List ℕ)) → 0 < length words → None ≡ pair_in (a ∷ b ∷ words)
    none [] h = absurd (omega arith)
    none (word ∷ words) h = refl
