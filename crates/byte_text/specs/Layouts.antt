-- Layouts: the types of the parts of a value, and the texts of values by a layout.
use Rattle.std.specs.Prelude.{ℕ, ◌-◌, ◌==◌, ◌&&◌, nat_le, Bool, true, false, cond, List, [], ◌∷◌, ◌++◌, codes, decimal, length, take, drop, Option, Some, None, option_map, ⊤, ◌≤◌}
use Rattle.std.specs.Str.{bytes_eq}
use Rattle.hex.specs.Hex.{encode_lower}
use Rattle.byte_text.specs.Numbers.{number_in, signed_text}
use Rattle.byte_text.specs.Text.{parts_of, text_of_bytes}
use Rattle.byte_text.specs.declared.layouts.Number.{Number}
use Rattle.byte_text.specs.declared.layouts.Number.TheVariants.{U8, U16, U32, U64, I64}
use Rattle.byte_text.specs.declared.layouts.Kind.{Kind}
use Rattle.byte_text.specs.declared.layouts.Kind.TheVariants as kinds

-- the size of a number in bytes
abbrev pub width_of : Number → ℕ
width_of U8 = 1
width_of U16 = 2
width_of U32 = 4
width_of U64 = 8
width_of I64 = 8

-- ---- the layout of a text

abbrev pub number_named : List ℕ → Option Number
number_named name =
    cond (bytes_eq name (codes "u8")) (Some U8)
    (cond (bytes_eq name (codes "u16")) (Some U16)
    (cond (bytes_eq name (codes "u32")) (Some U32)
    (cond (bytes_eq name (codes "u64")) (Some U64)
    (cond (bytes_eq name (codes "i64")) (Some I64) None))))

abbrev pub kind_named : List ℕ → Option Kind
kind_named name =
    cond (bytes_eq name (codes "text")) (Some kinds.Text)
    (cond (bytes_eq name (codes "hex")) (Some kinds.Hex) (option_map kinds.Number (number_named name)))

-- puts a kind before more kinds, if both exist
abbrev pub with_kind : Option Kind → Option (List Kind) → Option (List Kind)
with_kind None others = None
with_kind (Some kind) None = None
with_kind (Some kind) (Some others) = Some (kind ∷ others)

-- the kinds with these names; each kind except the last is a number
abbrev pub kinds_of : List (List ℕ) → Option (List Kind)
kinds_of [] = Some []
kinds_of (name ∷ []) = with_kind (kind_named name) (Some [])
kinds_of (name ∷ next ∷ names) = with_kind (option_map kinds.Number (number_named name)) (kinds_of (next ∷ names))

-- the layout that a text represents: names separated by commas
abbrev pub layout_of : List ℕ → Option (List Kind)
layout_of text = kinds_of (parts_of false text)

-- ---- printing

-- true if a value of `len` bytes fits the kinds
abbrev pub fits : List Kind → ℕ → Bool
fits [] len = len == 0
fits (kinds.Number number ∷ others) len = nat_le (width_of number) len && fits others (len - width_of number)
fits (kinds.Text ∷ others) len = fits others 0
fits (kinds.Hex ∷ others) len = fits others 0

abbrev pub number_text : Number → ℕ → List ℕ
number_text U8 n = codes "u8:" ++ decimal n
number_text U16 n = codes "u16:" ++ decimal n
number_text U32 n = codes "u32:" ++ decimal n
number_text U64 n = codes "u64:" ++ decimal n
number_text I64 n = codes "i64:" ++ signed_text n

-- a comma unless this is the first part
abbrev pub comma : Bool → List ℕ
comma false = []
comma true = 44 ∷ []

-- the remaining bytes as a text part; if no bytes remain, there is no part
abbrev pub text_part : Bool → List ℕ → List ℕ
text_part behind [] = []
text_part behind (b ∷ bs) = comma behind ++ text_of_bytes (b ∷ bs)

-- the remaining bytes as a hex part; if no bytes remain, there is no part
abbrev pub hex_part : Bool → List ℕ → List ℕ
hex_part behind [] = []
hex_part behind (b ∷ bs) = comma behind ++ (codes "hex:" ++ encode_lower (b ∷ bs))

-- the text of the first part, which has this kind
abbrev pub part_by : Bool → Kind → List ℕ → List ℕ
part_by behind (kinds.Number number) bytes = comma behind ++ number_text number (number_in (take (width_of number) bytes))
part_by behind kinds.Text bytes = text_part behind bytes
part_by behind kinds.Hex bytes = hex_part behind bytes

-- the bytes after the first part, which has this kind
abbrev pub left_by : Kind → List ℕ → List ℕ
left_by (kinds.Number number) bytes = drop (width_of number) bytes
left_by kinds.Text bytes = []
left_by kinds.Hex bytes = []

-- `len` bytes are enough for a part of this kind
abbrev pub HasRoom : Kind → ℕ → Type 0
HasRoom (kinds.Number number) len = width_of number ≤ len
HasRoom kinds.Text len = ⊤
HasRoom kinds.Hex len = ⊤

-- the texts of parts of these kinds, separated by commas; if the flag is true, a comma precedes the first part too
abbrev pub laid : Bool → List Kind → List ℕ → List ℕ
laid behind [] bytes = []
laid behind (kind ∷ others) bytes = part_by behind kind bytes ++ laid true others (left_by kind bytes)

-- a value by a layout if the value fits it, otherwise by `text_of_bytes`; an empty value is a dot
abbrev pub text_by : List Kind → List ℕ → List ℕ
text_by layout [] = text_of_bytes []
text_by layout (b ∷ bs) = cond (fits layout (length (b ∷ bs))) (laid false layout (b ∷ bs)) (text_of_bytes (b ∷ bs))
