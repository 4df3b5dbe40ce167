-- The request that a line describes: a command on the database, the submission of a program, a run, or an addition.
use Rattle.std.specs.Prelude.{ℕ, List, [], ◌∷◌, cond, codes, Option, Some, None}
use Rattle.std.specs.Str.{bytes_eq}
use Rattle.store_cmd.specs.declared.Command.{Command}
use Rattle.byte_text.specs.Numbers.{signed_of}
use Rattle.dbm_script.specs.Commands.{command_of_words}
use Rattle.dbm_script.specs.Notation.{bytes_of_word, hex_bytes}
use Rattle.dbm_script.specs.declared.notations.Notation.{Notation}
use Rattle.dbm_script.specs.Numbers.{number_of, blank_of}
use Rattle.dbm_script.specs.declared.lines.Ask.{Ask}
use Rattle.dbm_script.specs.declared.lines.Ask.TheVariants.{Plain, Program, Run, Incr}

abbrev pub plain : {A : Type 0} → Option (Command A) → Option (Ask A)
plain None = None
plain (Some command) = Some (Plain command)

abbrev pub program_of : {A : Type 0} → Option (List ℕ) → Option (Ask A)
program_of None = None
program_of (Some image) = Some (Program image)

-- a run of a program, given by its number
abbrev pub ask_of_run : {A : Type 0} → Option (List ℕ) → Option ℕ → Option (List ℕ) → Option (Option ℕ) → Option ℕ → Option (Ask A)
ask_of_run None prog arg blank now = None
ask_of_run (Some key) None arg blank now = None
ask_of_run (Some key) (Some prog) None blank now = None
ask_of_run (Some key) (Some prog) (Some arg) None now = None
ask_of_run (Some key) (Some prog) (Some arg) (Some blank) None = None
ask_of_run (Some key) (Some prog) (Some arg) (Some blank) (Some now) =
    Some (Run (record { key = key; prog = prog; arg = arg; blank = blank; now = now }))

-- an addition to the number of a key
abbrev pub incr_of : {A : Type 0} → Option (List ℕ) → Option ℕ → Option (Ask A)
incr_of None amount = None
incr_of (Some key) None = None
incr_of (Some key) (Some amount) = Some (Incr (record { key = key; amount = amount }))

-- the request that the words of a line describe; a program image is in hex in each notation
abbrev pub ask_of : {A : Type 0} → Notation A → List (List ℕ) → Option (Ask A)
ask_of notation [] = None
ask_of notation (word ∷ []) = plain (command_of_words notation (word ∷ []))
ask_of notation (word ∷ first ∷ []) =
    cond (bytes_eq word (codes "program")) (program_of (hex_bytes first))
    (cond (bytes_eq word (codes "incr")) (incr_of (bytes_of_word notation first) (Some 1)) (plain (command_of_words notation (word ∷ first ∷ []))))
ask_of notation (word ∷ first ∷ second ∷ []) =
    cond (bytes_eq word (codes "incr")) (incr_of (bytes_of_word notation first) (signed_of second)) (plain (command_of_words notation (word ∷ first ∷ second ∷ [])))
ask_of notation (word ∷ key ∷ prog ∷ arg ∷ []) = None
ask_of notation (word ∷ key ∷ prog ∷ arg ∷ blank ∷ []) = None
ask_of notation (word ∷ key ∷ prog ∷ arg ∷ blank ∷ now ∷ []) = cond (bytes_eq word (codes "run"))
    (ask_of_run (bytes_of_word notation key) (number_of 4294967295 prog) (bytes_of_word notation arg) (blank_of blank) (number_of 18446744073709551615 now)) None
ask_of notation (word ∷ key ∷ prog ∷ arg ∷ blank ∷ now ∷ other ∷ others) = None
