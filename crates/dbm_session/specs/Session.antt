-- The arguments of `session` and the request that they make.
use Rattle.std.specs.Prelude.{◌≡◌, List, ◌∷◌, codes}
use Rattle.clap.specs.Words.{Shape, Row}
use Rattle.dbm_args.specs.CommandLine.{flag, required_word, valued_option, subcommand, writing_in}
use Rattle.dbm_args.specs.Given.{IsForm, IsOptionGiven, IsNotation, IsWord, is_given}
use Rattle.dbm_session.specs.declared.session.Session.{Session}

abbrev pub session : Shape
session = subcommand (codes "session") (required_word (codes "BASE") ∷ valued_option (codes "save-every") ∷ flag (codes "clock") ∷ writing_in)

abbrev pub SessionAsks : List Row → Session → Type 0
SessionAsks rows session =
    IsWord (codes "BASE") rows session.base × (IsForm rows session.form × (IsNotation rows session.notation × (IsOptionGiven (codes "save-every") rows session.save_every × (session.clock ≡ is_given (codes "clock") rows))))
