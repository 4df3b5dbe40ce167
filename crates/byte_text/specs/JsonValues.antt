-- Bytes as JSON: a string if they are UTF-8, otherwise hex. Values by a layout: numbers, strings and hex.
use Rattle.std.specs.Prelude.{ℕ, ◌++◌, cond, List, [], ◌∷◌, codes, decimal, length, take}
use Rattle.std.specs.Str.{is_utf8}
use Rattle.std.specs.Fmt.{signed_decimal}
use Rattle.std.specs.Int.{w64, cast_signed}
use Rattle.hex.specs.Hex.{encode_lower}
use Rattle.json.specs.Token.{Token, begin_object, end_object, begin_array, end_array, key, string, number}
use Rattle.byte_text.specs.Numbers.{number_in}
use Rattle.byte_text.specs.Layouts.{fits, left_by, width_of}
use Rattle.byte_text.specs.declared.layouts.Number.{Number}
use Rattle.byte_text.specs.declared.layouts.Number.TheVariants.{U8, U16, U32, U64, I64}
use Rattle.byte_text.specs.declared.layouts.Kind.{Kind}
use Rattle.byte_text.specs.declared.layouts.Kind.TheVariants as kinds

-- an object that has the bytes in hex
abbrev pub hex_tokens : List ℕ → List Token
hex_tokens bytes = begin_object ∷ key (codes "hex") ∷ string (encode_lower bytes) ∷ end_object ∷ []

-- a string if the bytes are UTF-8, otherwise an object that has the bytes in hex
abbrev pub text_tokens : List ℕ → List Token
text_tokens bytes = cond (is_utf8 bytes) (string bytes ∷ []) (hex_tokens bytes)

abbrev pub number_token : Number → ℕ → Token
number_token U8 n = number (decimal n)
number_token U16 n = number (decimal n)
number_token U32 n = number (decimal n)
number_token U64 n = number (decimal n)
number_token I64 n = number (signed_decimal (cast_signed w64 n))

-- the tokens of the first part, which has this kind
abbrev pub part_tokens : Kind → List ℕ → List Token
part_tokens (kinds.Number kind) bytes = number_token kind (number_in (take (width_of kind) bytes)) ∷ []
part_tokens kinds.Text bytes = text_tokens bytes
part_tokens kinds.Hex bytes = hex_tokens bytes

-- the tokens of parts of these kinds, one after another
abbrev pub parts_tokens : List Kind → List ℕ → List Token
parts_tokens [] bytes = []
parts_tokens (kind ∷ others) bytes = part_tokens kind bytes ++ parts_tokens others (left_by kind bytes)

-- a value by these kinds: a single part as it is, several parts as an array
abbrev pub laid_tokens : List Kind → List ℕ → List Token
laid_tokens [] bytes = begin_array ∷ end_array ∷ []
laid_tokens (kind ∷ []) bytes = parts_tokens (kind ∷ []) bytes
laid_tokens (kind ∷ next ∷ others) bytes = begin_array ∷ (parts_tokens (kind ∷ next ∷ others) bytes ++ end_array ∷ [])

-- a value by a layout if the value fits it, otherwise by `text_tokens`
abbrev pub value_tokens : List Kind → List ℕ → List Token
value_tokens layout bytes = cond (fits layout (length bytes)) (laid_tokens layout bytes) (text_tokens bytes)
