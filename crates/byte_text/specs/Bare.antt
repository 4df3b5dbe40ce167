-- Values by a layout as plain text for other programs, without types and escapes.
use Rattle.std.specs.Prelude.{ℕ, ◌++◌, Bool, true, false, cond, List, [], ◌∷◌, decimal, length, take}
use Rattle.hex.specs.Hex.{encode_lower}
use Rattle.byte_text.specs.Numbers.{number_in, signed_text}
use Rattle.byte_text.specs.Layouts.{comma, fits, left_by, width_of}
use Rattle.byte_text.specs.declared.layouts.Number.{Number}
use Rattle.byte_text.specs.declared.layouts.Number.TheVariants.{U8, U16, U32, U64, I64}
use Rattle.byte_text.specs.declared.layouts.Kind.{Kind}
use Rattle.byte_text.specs.declared.layouts.Kind.TheVariants as kinds

abbrev pub bare_number : Number → ℕ → List ℕ
bare_number U8 n = decimal n
bare_number U16 n = decimal n
bare_number U32 n = decimal n
bare_number U64 n = decimal n
bare_number I64 n = signed_text n

-- the text of the first part, which has this kind
abbrev pub bare_part : Kind → List ℕ → List ℕ
bare_part (kinds.Number kind) bytes = bare_number kind (number_in (take (width_of kind) bytes))
bare_part kinds.Text bytes = bytes
bare_part kinds.Hex bytes = encode_lower bytes

-- the texts of parts of these kinds, separated by commas; if the flag is true, a comma precedes the first part too
abbrev pub bare_parts : Bool → List Kind → List ℕ → List ℕ
bare_parts behind [] bytes = []
bare_parts behind (kind ∷ others) bytes = comma behind ++ (bare_part kind bytes ++ bare_parts true others (left_by kind bytes))

-- a value by a layout if the value fits it, otherwise its bytes
abbrev pub bare_value : List Kind → List ℕ → List ℕ
bare_value layout bytes = cond (fits layout (length bytes)) (bare_parts false layout bytes) bytes
