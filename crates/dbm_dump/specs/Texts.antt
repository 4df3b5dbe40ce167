-- The text of a dump, in each format.
use Rattle.std.specs.Prelude.{ℕ, List, [], ◌∷◌, ◌++◌, codes, decimal, length, map as map_list}
use Rattle.std.specs.List.{flat_map}
use Rattle.base64.specs.Engines.{standard}
use Rattle.base64.specs.GeneralPurpose.{encode_of}
use Rattle.sdbm_addr.specs.declared.KeyBytes.{KeyBytes}
use Rattle.sdbm_addr.specs.declared.KeyBytes.TheVariants.{Signed, Unsigned}
use Rattle.sdbm_addr.specs.declared.PageSize.{PageSize}
use Rattle.sdbm_addr.specs.declared.PageSize.TheVariants.{Small, Wide}
use Rattle.sdbm_addr.specs.Pairs.{Pair}
use Rattle.byte_text.specs.Bare.{bare_value}
use Rattle.byte_text.specs.declared.layouts.Kind.{Kind}
use Rattle.dbm_script.specs.Notation.{hex_shown}
use Rattle.dbm_script.specs.declared.notations.Notation.{Notation}
use Rattle.dbm_script.specs.declared.notations.Notation.TheVariants.{Hex, Text, Layout}
use Rattle.dbm_dump.specs.declared.format.Format.{Format}
use Rattle.dbm_dump.specs.declared.format.Format.TheVariants.{Plain, Gdbm, Redis}

-- a text, an LF and a second text
infixr 10 ◌⏎◌
abbrev pub ◌⏎◌ : List ℕ → List ℕ → List ℕ
text ⏎ rest = text ++ (10 ∷ rest)

-- ---- our own

abbrev pub title : List ℕ
title = codes "boddurci dump 1"

abbrev pub keys_line : KeyBytes → List ℕ
keys_line Signed = codes "keys signed"
keys_line Unsigned = codes "keys unsigned"

abbrev pub pages_line : PageSize → List ℕ
pages_line Small = codes "pages 1024"
pages_line Wide = codes "pages 8192"

-- key and value in hex, separated by a space
abbrev pub pair_words : Pair → List ℕ
pair_words e = hex_shown e.0 ++ (32 ∷ hex_shown e.1)

-- the line of a pair
abbrev pub dump_pair_line : Pair → List ℕ
dump_pair_line e = pair_words e ⏎ []

-- the header: the hash function, the page size and the number of pairs
abbrev pub plain_header : KeyBytes → PageSize → ℕ → List ℕ
plain_header kind size count = title ⏎ keys_line kind ⏎ pages_line size ⏎ (codes "count " ++ decimal count) ⏎ [] ⏎ []

-- the last line
abbrev pub plain_end : List ℕ
plain_end = codes "end"

-- the header, the pairs and the last line
abbrev pub plain_text : KeyBytes → PageSize → List Pair → List ℕ
plain_text kind size pairs = plain_header kind size (length pairs) ++ (flat_map dump_pair_line pairs ++ (plain_end ⏎ []))

-- ---- gdbm's

-- a line with bytes in base64, or no line if there are no bytes
abbrev pub text_lines : List ℕ → List ℕ
text_lines [] = []
text_lines (b ∷ bs) = encode_of standard (b ∷ bs) ⏎ []

-- a line with the length of some bytes, and a line with the bytes in base64
abbrev pub datum_lines : List ℕ → List ℕ
datum_lines bytes = (codes "#:len=" ++ decimal (length bytes)) ⏎ text_lines bytes

abbrev pub gdbm_pair : Pair → List ℕ
gdbm_pair e = datum_lines e.0 ++ datum_lines e.1

abbrev pub gdbm_header : List ℕ
gdbm_header = codes "# GDBM dump file created by Boddurci" ⏎ codes "#:version=1.1" ⏎ codes "#:format=standard" ⏎ codes "# End of header" ⏎ []

abbrev pub gdbm_end : ℕ → List ℕ
gdbm_end count = (codes "#:count=" ++ decimal count) ⏎ codes "# End of data" ⏎ []

-- the header, the pairs and their number
abbrev pub gdbm_text : List Pair → List ℕ
gdbm_text pairs = gdbm_header ++ (flat_map gdbm_pair pairs ++ gdbm_end (length pairs))

-- ---- the protocol of Redis

-- the length of some bytes, and then the bytes; each line ends with CR LF
abbrev pub bulk : List ℕ → List ℕ
bulk bytes = 36 ∷ (decimal (length bytes) ++ (13 ∷ 10 ∷ (bytes ++ 13 ∷ 10 ∷ [])))

-- an array of three words with SET as the first
abbrev pub set_front : List ℕ
set_front = codes "*3" ++ (13 ∷ 10 ∷ (codes "$3" ++ (13 ∷ 10 ∷ (codes "SET" ++ 13 ∷ 10 ∷ []))))

-- the command SET of a key and a value
abbrev pub redis_pair : Pair → List ℕ
redis_pair e = set_front ++ (bulk e.0 ++ bulk e.1)

-- ---- each format

abbrev pub dump_text : Format → KeyBytes → PageSize → List Pair → List ℕ
dump_text Plain kind size pairs = plain_text kind size pairs
dump_text Gdbm kind size pairs = gdbm_text pairs
dump_text Redis kind size pairs = flat_map redis_pair pairs

-- ---- values as plain text

-- a pair with its value as plain text, by a layout
abbrev pub bare_pair : List Kind → Pair → Pair
bare_pair layout e = (e.0, bare_value layout e.1)

-- the pairs of a dump, unchanged; with a layout, their values are plain text
abbrev pub dumped_pairs : {A : Type 0} → Notation A → List Pair → List Pair
dumped_pairs Hex pairs = pairs
dumped_pairs Text pairs = pairs
dumped_pairs (Layout layout) pairs = map_list (bare_pair layout) pairs
