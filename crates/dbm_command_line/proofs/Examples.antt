-- Examples: the definitions of the command line on given words.
use Rattle.std.proofs.Common.{◌≡◌, List, Option, Some, None, Bor, [], ◌∷◌, Bool, true, false, option_map, refl, codes}
use Rattle.clap.specs.Words.{Row, Text, fault_of, subcommand_of}
use Rattle.clap.specs.declared.error.kind.ErrorKind.TheVariants.{DisplayHelp, DisplayVersion, MissingRequiredArgument, UnknownArgument}
use Rattle.clap.proofs.OnLiterals.{clap_on_literals}
use Rattle.dbm_command_line.specs.Tool.{tool}
use Rattle.dbm_args.specs.Given.{is_given}
use Rattle.dbm_command_line.specs.Wishes.{lacks_word, writes_files}
use Rattle.dbm_databases.specs.declared.script.Script.{Script}
use Rattle.dbm_command_line.specs.declared.wish.Wish.TheVariants as wish
use Rattle.dbm_records.specs.declared.delete.Delete.{Delete}
use Rattle.dbm_records.specs.declared.fetch.Fetch.{Fetch}

abbrev words : List Text
words = codes "store" ∷ codes "db" ∷ codes "61" ∷ codes "62" ∷ codes "--insert" ∷ []

abbrev insert_and_wide : Option (Text × List Row) → Option (Bool × Bool)
insert_and_wide = option_map (λ p. (is_given (codes "insert") p.1, is_given (codes "wide") p.1))

pub insert_is_given : insert_and_wide (subcommand_of tool words) ≡ Some (true, false)
unfolding clap_on_literals
insert_is_given = refl

pub no_word_is_missing : lacks_word (subcommand_of tool words) ≡ false
unfolding clap_on_literals
no_word_is_missing = refl

pub words_are_accepted : fault_of tool words ≡ []
unfolding clap_on_literals
words_are_accepted = refl

pub help_is_shown : fault_of tool (codes "fetch" ∷ codes "--help" ∷ []) ≡ DisplayHelp ∷ []
unfolding clap_on_literals
help_is_shown = refl

pub key_is_missed : fault_of tool (codes "fetch" ∷ codes "db" ∷ []) ≡ MissingRequiredArgument ∷ []
unfolding clap_on_literals
key_is_missed = refl

pub widen_takes_no_wide : fault_of tool (codes "widen" ∷ codes "db" ∷ codes "--wide" ∷ []) ≡ UnknownArgument ∷ []
unfolding clap_on_literals
widen_takes_no_wide = refl

pub version_is_shown : fault_of tool (codes "--version" ∷ []) ≡ DisplayVersion ∷ []
unfolding clap_on_literals
version_is_shown = refl

pub script_keeps_nothing : (script : Script) → writes_files (wish.Script (record script { base = None })) ≡ false
script_keeps_nothing script = refl

pub script_on_files_writes_them : (base : Bor Text) (script : Script) → writes_files (wish.Script (record script { base = Some base })) ≡ true
script_on_files_writes_them base script = refl

pub get_fetches : option_map (λ p. p.0) (subcommand_of tool (codes "get" ∷ codes "db" ∷ codes "61" ∷ [])) ≡ Some (codes "fetch")
unfolding clap_on_literals
get_fetches = refl

pub zero_is_null : option_map (λ p. is_given (codes "null") p.1) (subcommand_of tool (codes "keys" ∷ codes "db" ∷ codes "-0" ∷ [])) ≡ Some true
unfolding clap_on_literals
zero_is_null = refl

pub delete_writes : (delete : Delete) → writes_files (wish.Delete delete) ≡ true
delete_writes delete = refl

pub fetch_writes_nothing : (fetch : Fetch) → writes_files (wish.Fetch fetch) ≡ false
fetch_writes_nothing fetch = refl
