-- Notations: how words and answers represent bytes.
use Rattle.std.specs.Prelude.{ℕ, Bool, true, false, List, [], ◌∷◌, cond, codes, Option, Some, None}
use Rattle.std.specs.Result.{result_ok}
use Rattle.std.specs.Str.{bytes_eq}
use Rattle.hex.specs.Hex.{decode_of, encode_lower}
use Rattle.byte_text.specs.Text.{bytes_of_text, text_of_bytes}
use Rattle.byte_text.specs.Layouts.{text_by}
use Rattle.dbm_script.specs.declared.notations.Notation.{Notation}
use Rattle.dbm_script.specs.declared.notations.Notation.TheVariants.{Hex, Text, Layout}

abbrev pub reads_hex : {A : Type 0} → Notation A → Bool
reads_hex Hex = true
reads_hex Text = false
reads_hex (Layout kinds) = false

-- ---- words

-- bytes in hex of either case, or a dot for no bytes; an empty word is invalid
abbrev pub hex_bytes : List ℕ → Option (List ℕ)
hex_bytes [] = None
hex_bytes (c ∷ cs) = cond (bytes_eq (c ∷ cs) (codes ".")) (Some []) (result_ok (decode_of (c ∷ cs)))

-- the bytes of a word
abbrev pub bytes_of_word : {A : Type 0} → Notation A → List ℕ → Option (List ℕ)
bytes_of_word Hex text = hex_bytes text
bytes_of_word Text text = bytes_of_text text
bytes_of_word (Layout kinds) text = bytes_of_text text

-- ---- answers

-- bytes in lower-case hex, or a dot for no bytes
abbrev pub hex_shown : List ℕ → List ℕ
hex_shown [] = codes "."
hex_shown (b ∷ bs) = encode_lower (b ∷ bs)

-- the text of bytes
abbrev pub shown : {A : Type 0} → Notation A → List ℕ → List ℕ
shown Hex bytes = hex_shown bytes
shown Text bytes = text_of_bytes bytes
shown (Layout kinds) bytes = text_of_bytes bytes

-- the text of a value
abbrev pub value_shown : {A : Type 0} → Notation A → List ℕ → List ℕ
value_shown Hex bytes = hex_shown bytes
value_shown Text bytes = text_of_bytes bytes
value_shown (Layout kinds) bytes = text_by kinds bytes
