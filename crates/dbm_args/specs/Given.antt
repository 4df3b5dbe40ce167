-- The values of flags, arguments and options in what `clap` matched.
use Rattle.std.specs.Prelude.{◌≡◌, Bool, true, false, List, Option, Some, codes, if◌then◌else◌, is_some, option_map}
use Rattle.std.specs.List.{list_all}
use Rattle.std.specs.Option.{option_map_or}
use Rattle.std.specs.Str.{bytes_eq}
use Rattle.std.specs.Borrow.{Bor}
use Rattle.clap.specs.Words.{Row, Rule, Text, first_of}
use Rattle.dbm_args.specs.declared.options.Access.{Access}
use Rattle.dbm_args.specs.declared.options.Form.{Form}
use Rattle.dbm_args.specs.declared.options.NotationOptions.{NotationOptions}

-- the flag was given
abbrev pub is_given : Text → List Row → Bool
is_given id rows = option_map_or (λ text. bytes_eq text (codes "true")) (first_of id rows) false

-- the text is the value of the argument with this name
abbrev pub IsWord : Text → List Row → Bor Text → Type 0
IsWord id rows text = first_of id rows ≡ Some text.now

-- the value of the option, or `None` if the option was not given
abbrev pub IsOptionGiven : Text → List Row → Option (Bor Text) → Type 0
IsOptionGiven id rows value = option_map (λ text. text.now) value ≡ first_of id rows

abbrev pub IsForm : List Row → Form → Type 0
IsForm rows form =
    (form.unsigned ≡ is_given (codes "unsigned") rows) × (form.wide ≡ is_given (codes "wide") rows)

abbrev pub IsNotation : List Row → NotationOptions → Type 0
IsNotation rows notation =
    (notation.text ≡ is_given (codes "text") rows) × IsOptionGiven (codes "as") rows notation.layout

-- the options for access to the files
abbrev pub IsAccessOf : List Row → Access → Type 0
IsAccessOf rows access =
    IsOptionGiven (codes "timeout") rows access.timeout × ((access.must_exist ≡ is_given (codes "must-exist") rows) × ((access.quick ≡ is_given (codes "quick") rows) × ((access.verbose ≡ is_given (codes "verbose") rows) × (access.insist ≡ is_given (codes "insist") rows))))

-- every required argument was given
abbrev pub has_words : List Rule → List Row → Bool
has_words rules rows =
    list_all (λ rule. if rule.required then is_some (first_of rule.id rows) else true) rules
