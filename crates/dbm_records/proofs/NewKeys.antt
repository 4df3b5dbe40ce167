-- The two keys of a rename, read as the words of a store.
use Rattle.std.proofs.Common.{◌≡◌, Bool, true, false, List, ℕ, Option, Some, None, ap, is_some, sym}
use Rattle.std.specs.declared.alloc.Global.{Global}
use Rattle.std.proofs.lemmas.Option.{none-some}
use Rattle.sdbm_addr.specs.Database.{Database}
use Rattle.sdbm_addr.specs.declared.Mode.{Mode}
use Rattle.sdbm_addr.specs.declared.Mode.TheVariants.{Insert, Replace}
use Rattle.store_cmd.specs.declared.Command.{Command}
use Rattle.store_cmd.specs.declared.Command.TheVariants.{Fetch, Store, Delete, Run, Count}
use Rattle.dbm_script.specs.Commands.{command_of_words, store_of}
use Rattle.dbm_script.specs.Notation.{bytes_of_word}
use Rattle.dbm_script.specs.declared.notations.Notation.{Notation}
use Rattle.dbm_records.specs.Rename.{RenamesBy, is_store_command}
use Rattle.dbm_records.specs.Commands.{store_words}
use Rattle.dbm_reports.specs.declared.report.Report.{Report}

pub true_false : (b : Bool) → b ≡ true → b ≡ false → ⊥
true_false true is not = cc
true_false false is not = cc

stores_of : (key value : Option (List ℕ)) (mode : Mode) (command : Command Global) → store_of key value mode ≡ Some command → is_store_command command ≡ true
stores_of None value mode command is = absurd (none-some command is)
stores_of (Some key) None mode command is = absurd (none-some command is)
stores_of (Some key) (Some value) mode command is = ap (λ (o : Option (Command Global)). is_some_store o) (sym is)
  where
    is_some_store : Option (Command Global) → Bool
    is_some_store None = false
    is_some_store (Some c) = is_store_command c

pub stores : (n : Notation Global) (key new : List ℕ) (insert : Bool) (command : Command Global) → command_of_words n (store_words key new insert) ≡ Some command → is_store_command command ≡ true
stores n key new true command is = stores_of (bytes_of_word n key) (bytes_of_word n new) Insert command is
stores n key new false command is = stores_of (bytes_of_word n key) (bytes_of_word n new) Replace command is

pub gives_database : (n : Notation Global) (before : Database) (command : Command Global) (report : Report) → RenamesBy n before command report → is_some report.database ≡ true
gives_database n before (Fetch key) report comes = absurd comes
gives_database n before (Store key new mode) report comes = ap (λ (db : Option Database). is_some db) comes.1.1
gives_database n before (Delete key) report comes = absurd comes
gives_database n before (Run key program argument blank now) report comes = absurd comes
gives_database n before Count report comes = absurd comes
