-- The arguments of `backup` and the request that they make.
use Rattle.std.specs.Prelude.{List, ◌∷◌, codes}
use Rattle.clap.specs.Words.{Shape, Row}
use Rattle.dbm_args.specs.CommandLine.{required_word, subcommand, reading_options}
use Rattle.dbm_args.specs.Given.{IsForm, IsWord}
use Rattle.dbm_dump.specs.declared.backup.Backup.{Backup}

abbrev pub backup : Shape
backup = subcommand (codes "backup") (required_word (codes "BASE") ∷ required_word (codes "TO") ∷ reading_options)

abbrev pub BackupAsks : List Row → Backup → Type 0
BackupAsks rows backup =
    IsWord (codes "BASE") rows backup.base × (IsWord (codes "TO") rows backup.to × IsForm rows backup.form)
