-- Offsets of jumps.
use Rattle.std.proofs.Common.{ℤ, rules}
use Rattle.std.proofs.lemmas.Int.{ints}
use Rattle.std.specs.Prelude.{FitsSigned}
use Rattle.std.specs.Int.{w16, w32}

-- a number that fits 16 bits fits 32
pub fits_more : (z : ℤ) → FitsSigned w16 z → FitsSigned w32 z
fits_more z f = search (rules, ints)
