-- The names of dump formats.
use Rattle.std.specs.Prelude.{ℕ, List, cond, codes, Option, Some, None}
use Rattle.std.specs.Borrow.{Bor}
use Rattle.std.specs.Str.{bytes_eq}
use Rattle.dbm_dump.specs.declared.format.Format.{Format}
use Rattle.dbm_dump.specs.declared.format.Format.TheVariants.{Plain, Gdbm, Redis}
use Rattle.dbm_dump.specs.declared.stage.Stage.{Stage}
use Rattle.dbm_dump.specs.declared.stage.Stage.TheVariants.{First, Title, Between}
use Rattle.dbm_dump.specs.declared.stage.Role.TheVariants.{Key}

-- the format with a name
abbrev pub named : List ℕ → Option Format
named name = cond (bytes_eq name (codes "text")) (Some Plain) (cond (bytes_eq name (codes "gdbm")) (Some Gdbm) (cond (bytes_eq name (codes "redis")) (Some Redis) None))

-- the format to write: our own if no name is given
abbrev pub format_of : Option (Bor (List ℕ)) → Option Format
format_of None = Some Plain
format_of (Some name) = named name.now

-- the first stage of reading a format, if it can be read
abbrev pub start_in : Option Format → Option Stage
start_in None = None
start_in (Some Plain) = Some Title
start_in (Some Gdbm) = Some (Between 0 Key)
start_in (Some Redis) = None

-- the first stage of reading a dump; if no name is given, the first line determines the format
abbrev pub start_of : Option (Bor (List ℕ)) → Option Stage
start_of None = Some First
start_of (Some name) = start_in (named name.now)
