-- Bytes as a text of one word: the bytes that a text represents, and the text that is printed for bytes.
use Rattle.std.specs.Prelude.{ℕ, ◌==◌, ◌||◌, nat_eq, Bool, true, false, cond, List, [], ◌∷◌, ◌++◌, codes, drop, Option, Some, None, option_map, ⊤, ◌≡◌}
use Rattle.std.specs.Borrow.{Bor}
use Rattle.std.specs.List.{starts_with}
use Rattle.std.specs.Result.{result_ok}
use Rattle.std.specs.Str.{bytes_eq}
use Rattle.hex.specs.Hex.{decode_of}
use Rattle.byte_text.specs.Numbers.{number_of, signed_of, low_bytes}
use Rattle.byte_text.specs.Escapes.{bytes_left, hex_escape, escaped}
use Rattle.byte_text.specs.declared.escapes.Reading.TheVariants.{Plain}

-- ---- reading

-- puts a text before the first part
abbrev pub onto : List ℕ → List (List ℕ) → List (List ℕ)
onto front [] = front ∷ []
onto front (part ∷ parts) = (front ++ part) ∷ parts

-- The parts of a text, split at each unescaped comma. If the flag is true, a backslash precedes the text.
abbrev pub parts_of : Bool → List ℕ → List (List ℕ)
parts_of escape [] = [] ∷ []
parts_of true (c ∷ cs) = onto (c ∷ []) (parts_of false cs)
parts_of false (c ∷ cs) = cond (c == 44) ([] ∷ parts_of false cs) (onto (c ∷ []) (parts_of (c == 92) cs))

-- the parts of the remaining text; None is the end of the text
abbrev pub parts_left : Option (Bor (List ℕ)) → List (List ℕ)
parts_left None = []
parts_left (Some text) = parts_of false text.now

-- the little-endian bytes of the number that a text represents
abbrev pub number_bytes : ℕ → ℕ → List ℕ → Option (List ℕ)
number_bytes width most text = option_map (low_bytes width) (number_of most text)

-- the bytes of a text without a type; an empty text is invalid
abbrev pub plain_bytes : List ℕ → Option (List ℕ)
plain_bytes [] = None
plain_bytes (c ∷ cs) = bytes_left Plain (c ∷ cs)

-- the bytes of a part that is not an unsigned number: a signed number, bytes in hex, or text
abbrev pub other_bytes : List ℕ → Option (List ℕ)
other_bytes text =
    cond (starts_with nat_eq text (codes "i64:")) (option_map (low_bytes 8) (signed_of (drop 4 text)))
    (cond (starts_with nat_eq text (codes "hex:")) (result_ok (decode_of (drop 4 text))) (plain_bytes text))

-- the bytes of a part
abbrev pub part_bytes : List ℕ → Option (List ℕ)
part_bytes text =
    cond (starts_with nat_eq text (codes "u8:")) (number_bytes 1 255 (drop 3 text))
    (cond (starts_with nat_eq text (codes "u16:")) (number_bytes 2 65535 (drop 4 text))
    (cond (starts_with nat_eq text (codes "u32:")) (number_bytes 4 4294967295 (drop 4 text))
    (cond (starts_with nat_eq text (codes "u64:")) (number_bytes 8 18446744073709551615 (drop 4 text)) (other_bytes text))))

-- the concatenation of two byte lists, if both exist
abbrev pub joined : Option (List ℕ) → Option (List ℕ) → Option (List ℕ)
joined None later = None
joined (Some front) None = None
joined (Some front) (Some later) = Some (front ++ later)

-- the concatenated bytes of parts
abbrev pub all_bytes : List (List ℕ) → Option (List ℕ)
all_bytes [] = Some []
all_bytes (part ∷ parts) = joined (part_bytes part) (all_bytes parts)

-- the bytes that a text represents: a dot represents no bytes, an empty text is invalid, and any other text represents the bytes of its
-- parts
abbrev pub bytes_of_text : List ℕ → Option (List ℕ)
bytes_of_text [] = None
bytes_of_text (c ∷ cs) = cond (bytes_eq (c ∷ cs) (codes ".")) (Some []) (all_bytes (parts_of false (c ∷ cs)))

-- ---- printing

-- true if a text starts with the name of a type and a colon
abbrev pub is_typed : List ℕ → Bool
is_typed text =
    starts_with nat_eq text (codes "u8:") || (starts_with nat_eq text (codes "u16:") || (starts_with nat_eq text (codes "u32:")
    || (starts_with nat_eq text (codes "u64:") || (starts_with nat_eq text (codes "i64:") || starts_with nat_eq text (codes "hex:")))))

-- the text of bytes: each byte is literal or an escape; if the bytes start with a type and a colon, the first byte is `\xHH`; a single dot
-- is an escape
abbrev pub text_of_bytes : List ℕ → List ℕ
text_of_bytes [] = codes "."
text_of_bytes (b ∷ bs) =
    cond (bytes_eq (b ∷ bs) (codes ".")) (92 ∷ 46 ∷ [])
    (cond (is_typed (b ∷ bs)) (hex_escape b ++ escaped bs) (escaped (b ∷ bs)))

-- ---- the result of a reader

-- `true` if the bytes that the text represents were appended, `false` if the text is invalid
abbrev pub Puts : Option (List ℕ) → Bool → List ℕ → List ℕ → Type 0
Puts None true old new = ⊥
Puts None false old new = ⊤
Puts (Some bytes) true old new = new ≡ old ++ bytes
Puts (Some bytes) false old new = ⊥
