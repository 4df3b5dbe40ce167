-- A list of holds that is either short or indexed.
use Rattle.std.specs.Prelude.{List, Option, Some, None}
use Rattle.hold_modes.specs.declared.modes.Held.{Held}

-- all holds: those of the index if there is one, otherwise those of the short list
abbrev pub all_of : List Held → Option (List Held) → List Held
all_of few None = few
all_of few (Some many) = many
