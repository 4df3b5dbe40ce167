-- Rows that are written in parts.
use Rattle.std.specs.Prelude.{◌≡◌, ℕ, ◌++◌, List, Option}
use Rattle.std.specs.Io.KnownBytes.{Appends}

-- a prefix of the text was written, and the buffer has the rest
pub record IsSplit (old new : Option (List ℕ)) (room text : List ℕ) : Type 0 where
  pub written : List ℕ
  pub appends : Appends old new written
  pub together : text ≡ written ++ room
