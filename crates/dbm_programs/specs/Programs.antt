-- The arguments of `programs`.
use Rattle.std.specs.Prelude.{List, [], ◌∷◌, codes}
use Rattle.clap.specs.Words.{Shape, Row, new_rule}
use Rattle.dbm_args.specs.Given.{IsOptionGiven}
use Rattle.dbm_args.specs.CommandLine.{subcommand}
use Rattle.dbm_programs.specs.declared.programs.Programs.{Programs}

abbrev pub programs : Shape
programs = subcommand (codes "programs") (new_rule (codes "NAME") ∷ [])

abbrev pub ProgramsAsks : List Row → Programs → Type 0
ProgramsAsks rows programs = IsOptionGiven (codes "NAME") rows programs.name
