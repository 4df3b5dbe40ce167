-- The head of a subcommand: its files, and the notation of its bytes.
use Rattle.std.specs.Prelude.{List, ℕ, Option, None, false}
use Rattle.std.specs.Borrow.{Bor}
use Rattle.dbm_args.specs.declared.options.Head.{Head}
use Rattle.dbm_args.specs.declared.options.NotationOptions.{NotationOptions}

-- the default notation: hex, without a layout
abbrev pub no_notation : NotationOptions
no_notation = record { text = false; layout = None }

-- the head of a subcommand that only reads: its database, if it has one, no program file, and the default notation
abbrev pub head_on : Option (Bor (List ℕ)) → Head
head_on base = record { base = base; file = None; image = false; writes = false; notation = no_notation }
