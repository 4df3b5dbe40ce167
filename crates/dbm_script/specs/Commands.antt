-- The command that words describe.
use Rattle.std.specs.Prelude.{ℕ, List, [], ◌∷◌, cond, codes, Option, Some, None}
use Rattle.std.specs.Str.{bytes_eq}
use Rattle.sdbm_addr.specs.declared.Mode.{Mode}
use Rattle.sdbm_addr.specs.declared.Mode.TheVariants.{Insert, Replace}
use Rattle.store_cmd.specs.declared.Command.{Command}
use Rattle.store_cmd.specs.declared.Command.TheVariants.{Fetch, Store, Delete, Count}
use Rattle.dbm_script.specs.Notation.{bytes_of_word}
use Rattle.dbm_script.specs.declared.notations.Notation.{Notation}

abbrev pub fetch_of : {A : Type 0} → Option (List ℕ) → Option (Command A)
fetch_of None = None
fetch_of (Some key) = Some (Fetch key)

abbrev pub delete_of : {A : Type 0} → Option (List ℕ) → Option (Command A)
delete_of None = None
delete_of (Some key) = Some (Delete key)

abbrev pub store_of : {A : Type 0} → Option (List ℕ) → Option (List ℕ) → Mode → Option (Command A)
store_of None value mode = None
store_of (Some key) None mode = None
store_of (Some key) (Some value) mode = Some (Store key value mode)

-- the command that the words describe: the first word is its name
abbrev pub command_of_words : {A : Type 0} → Notation A → List (List ℕ) → Option (Command A)
command_of_words notation [] = None
command_of_words notation (word ∷ []) = cond (bytes_eq word (codes "count")) (Some Count) None
command_of_words notation (word ∷ key ∷ []) =
    cond (bytes_eq word (codes "fetch")) (fetch_of (bytes_of_word notation key))
    (cond (bytes_eq word (codes "delete")) (delete_of (bytes_of_word notation key)) None)
command_of_words notation (word ∷ key ∷ value ∷ []) =
    cond (bytes_eq word (codes "insert")) (store_of (bytes_of_word notation key) (bytes_of_word notation value) Insert)
    (cond (bytes_eq word (codes "replace")) (store_of (bytes_of_word notation key) (bytes_of_word notation value) Replace) None)
command_of_words notation (word ∷ key ∷ value ∷ other ∷ others) = None
