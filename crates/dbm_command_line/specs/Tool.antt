-- The shape of the program's command line.
use Rattle.std.specs.Prelude.{true, false, [], ◌∷◌, codes}
use Rattle.clap.specs.Words.{App, Shape}
use Rattle.clap.specs.Simple.{new_shape}
use Rattle.dbm_records.specs.Fetch.{fetch}
use Rattle.dbm_records.specs.Store.{store}
use Rattle.dbm_records.specs.Delete.{delete}
use Rattle.dbm_records.specs.Rename.{rename}
use Rattle.dbm_records.specs.Run.{run}
use Rattle.dbm_records.specs.Incr.{incr}
use Rattle.dbm_records.specs.Each.{each}
use Rattle.dbm_records.specs.Batch.{batch}
use Rattle.dbm_databases.specs.List.{list}
use Rattle.dbm_databases.specs.Keys.{keys}
use Rattle.dbm_databases.specs.Count.{count}
use Rattle.dbm_databases.specs.Check.{check}
use Rattle.dbm_databases.specs.Stats.{stats}
use Rattle.dbm_databases.specs.Script.{script}
use Rattle.dbm_databases.specs.Widen.{widen}
use Rattle.dbm_session.specs.Session.{session}
use Rattle.dbm_dump.specs.Backup.{backup}
use Rattle.dbm_dump.specs.Compact.{compact}
use Rattle.dbm_dump.specs.Dump.{dump}
use Rattle.dbm_dump.specs.Load.{load}
use Rattle.dbm_programs.specs.Asm.{asm}
use Rattle.dbm_programs.specs.Disasm.{disasm}
use Rattle.dbm_programs.specs.Programs.{programs}
use Rattle.dbm_programs.specs.Verify.{verify}

-- the program's name, with a version
abbrev pub titled : Shape
titled = record (new_shape (codes "dbm")) { has_version = true }

-- the program without its subcommands: the arguments do not begin with its name, and an empty command line prints the help
abbrev pub bare_shape : Shape
bare_shape = record titled {
  no_binary_name = true;
  subcommand_required = true;
  arg_required_else_help = true;
}

-- the program with its subcommands, in this order
abbrev pub tool : App
tool = record {
  top = record bare_shape { is_leaf = false };
  subs = fetch ∷ store ∷ delete ∷ rename ∷ incr ∷ list ∷ keys ∷ count ∷ check ∷ stats ∷ script ∷ session ∷ widen ∷ compact ∷ backup ∷ dump ∷ load ∷ asm ∷ disasm ∷ verify ∷ programs ∷ run ∷ each ∷ batch ∷ [];
}
