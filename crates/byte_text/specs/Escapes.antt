-- Escapes: the notation for bytes that a text cannot contain literally.
use Rattle.std.specs.Prelude.{ℕ, ◌+◌, ◌*◌, ◌/◌, ◌%◌, ◌==◌, ◌&&◌, nat_le, cond, List, [], ◌∷◌, ◌++◌, slice_index, Option, Some, None, option_map, option_and_then, ⊤, ◌<◌}
use Rattle.hex.specs.Hex.{lower_digits, hex_digit_value}
use Rattle.byte_text.specs.declared.escapes.Reading.{Reading}
use Rattle.byte_text.specs.declared.escapes.Reading.TheVariants.{Plain, Escape, High, Low}
use Rattle.byte_text.specs.declared.escapes.Step.{Step}
use Rattle.byte_text.specs.declared.escapes.Step.TheVariants.{Refused, Goes, Byte}

-- ---- reading

-- puts a byte before more bytes, if both exist
abbrev pub with_byte : Option ℕ → Option (List ℕ) → Option (List ℕ)
with_byte None bytes = None
with_byte (Some b) None = None
with_byte (Some b) (Some bs) = Some (b ∷ bs)

-- the byte that a backslash and this character represent
abbrev pub sign_of : ℕ → Option ℕ
sign_of c =
    cond (c == 115) (Some 32)
    (cond (c == 110) (Some 10)
    (cond (c == 116) (Some 9)
    (cond (c == 92) (Some 92)
    (cond (c == 46) (Some 46)
    (cond (c == 44) (Some 44) None)))))

-- The bytes that the remaining text represents, given the state of the reader: between two bytes, after a backslash, after `\x`, or after
-- `\x` and its first digit.
abbrev pub bytes_left : Reading → List ℕ → Option (List ℕ)
bytes_left Plain [] = Some []
bytes_left Escape [] = None
bytes_left High [] = None
bytes_left (Low high) [] = None
bytes_left Plain (c ∷ cs) = cond (c == 92) (bytes_left Escape cs) (with_byte (Some c) (bytes_left Plain cs))
bytes_left Escape (c ∷ cs) = cond (c == 120) (bytes_left High cs) (with_byte (sign_of c) (bytes_left Plain cs))
bytes_left High (c ∷ cs) = option_and_then (λ high. bytes_left (Low high) cs) (hex_digit_value c)
bytes_left (Low high) (c ∷ cs) = with_byte (option_map (λ low. 16 * high + low) (hex_digit_value c)) (bytes_left Plain cs)

-- the bytes of a text, given the step on its first byte and the remaining text
abbrev pub after_step : Step → List ℕ → Option (List ℕ)
after_step Refused cs = None
after_step (Goes reading) cs = bytes_left reading cs
after_step (Byte b) cs = with_byte (Some b) (bytes_left Plain cs)

-- the state of a reader is valid: the value of a hex digit is below 16
abbrev pub IsReading : Reading → Type 0
IsReading Plain = ⊤
IsReading Escape = ⊤
IsReading High = ⊤
IsReading (Low high) = high < 16

abbrev pub IsStep : Step → Type 0
IsStep Refused = ⊤
IsStep (Goes reading) = IsReading reading
IsStep (Byte b) = ⊤

-- ---- printing

-- a byte as `\x` and two digits
abbrev pub hex_escape : ℕ → List ℕ
hex_escape b = 92 ∷ 120 ∷ slice_index lower_digits (b / 16) ∷ slice_index lower_digits (b % 16) ∷ []

-- the text of a byte
abbrev pub escape_of : ℕ → List ℕ
escape_of b =
    cond (b == 32) (92 ∷ 115 ∷ [])
    (cond (b == 10) (92 ∷ 110 ∷ [])
    (cond (b == 9) (92 ∷ 116 ∷ [])
    (cond (b == 92) (92 ∷ 92 ∷ [])
    (cond (b == 44) (92 ∷ 44 ∷ [])
    (cond (nat_le 33 b && nat_le b 126) (b ∷ []) (hex_escape b))))))

-- the text of bytes, each by `escape_of`
abbrev pub escaped : List ℕ → List ℕ
escaped [] = []
escaped (b ∷ bs) = escape_of b ++ escaped bs
