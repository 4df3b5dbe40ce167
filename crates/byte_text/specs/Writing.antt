-- The contents of a writer after only a part of a text was written.
use Rattle.std.specs.Prelude.{ℕ, ◌<◌, List, length, take, Option}
use Rattle.std.specs.Io.KnownBytes.{Appends}

-- the known contents grow by a proper prefix of the text
pub record WritesPart (old new : Option (List ℕ)) (text : List ℕ) : Type 0 where
  pub count : ℕ
  pub within : count < length text
  pub appends : Appends old new (take count text)
