-- The command line: the arguments that subcommands share, and the `clap` commands that declare them.
use Rattle.std.specs.Prelude.{◌≡◌, true, false, List, [], ◌∷◌, ◌++◌, Some, codes}
use Rattle.clap.specs.Words.{App, Rule, Shape, Text, app_of, new_rule}
use Rattle.clap.specs.Simple.{new_shape}
use Rattle.clap.specs.declared.builder.ArgAction.TheVariants.{SetTrue}
use Rattle.clap.specs.declared.Command.{Command}
use Rattle.clap.specs.declared.builder.command.Command.TheViews.{out-Command}

-- a required positional argument
abbrev pub required_word : Text → Rule
required_word id = record (new_rule id) { required = true }

-- the option `--id`
abbrev pub flag : Text → Rule
flag id = record (new_rule id) { long = Some id; action = Some SetTrue }

-- the option `--null`, or `-0` for short
abbrev pub null_flag : Rule
null_flag = record (flag (codes "null")) { short = Some 48 }

-- the option `--id VALUE`
abbrev pub valued_option : Text → Rule
valued_option id = record (new_rule id) { long = Some id; value_names = 1 }

abbrev pub subcommand : Text → List Rule → Shape
subcommand name rules = record (new_shape name) { rules = rules }

-- a subcommand with an alias
abbrev pub with_alias : Text → Shape → Shape
with_alias alias shape = record shape { aliases = shape.aliases ++ (alias ∷ []) }

-- the options for waiting for the lock; a command that writes also has `--must-exist`
abbrev pub reading_access : List Rule
reading_access = valued_option (codes "timeout") ∷ flag (codes "verbose") ∷ []

abbrev pub writing_access : List Rule
writing_access = flag (codes "must-exist") ∷ reading_access

-- the options for the format of the files and for access to them
abbrev pub reading_options : List Rule
reading_options = flag (codes "unsigned") ∷ flag (codes "wide") ∷ flag (codes "insist") ∷ reading_access

abbrev pub writing_options : List Rule
writing_options = flag (codes "unsigned") ∷ flag (codes "wide") ∷ flag (codes "insist") ∷ writing_access

-- the options for the notation of bytes, the format of the files and access to them
abbrev pub reading_in : List Rule
reading_in = flag (codes "text") ∷ valued_option (codes "as") ∷ reading_options

abbrev pub writing_in : List Rule
writing_in = flag (codes "text") ∷ valued_option (codes "as") ∷ writing_options

-- a `clap` command that has these rules and no global arguments
abbrev pub IsCommand : App → Command → Type 0
IsCommand app command = (app_of command ≡ app) × ((out-Command command).has_globals ≡ false)

-- a `clap` command that has these rules and no subcommands
abbrev pub IsSubcommand : Shape → Command → Type 0
IsSubcommand shape = IsCommand (record { top = shape; subs = [] })
