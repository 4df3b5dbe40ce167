-- The rows of listings, each for a pair or a key.
use Rattle.std.specs.Prelude.{ℕ, ◌++◌, Bool, cond, nat_eq, codes, List, [], ◌∷◌}
use Rattle.std.specs.List.{filter, flat_map, starts_with}
use Rattle.sdbm_addr.specs.Pairs.{Pair}
use Rattle.json.specs.Print.{print}
use Rattle.json.specs.Token.{Token, begin_object, end_object, key as member}
use Rattle.byte_text.specs.JsonValues.{text_tokens, value_tokens}
use Rattle.byte_text.specs.declared.layouts.Kind.{Kind}
use Rattle.dbm_stats.specs.Json.{quoted}
use Rattle.byte_text.specs.Text.{text_of_bytes}
use Rattle.dbm_script.specs.Notation.{hex_shown, shown, value_shown}
use Rattle.dbm_script.specs.declared.notations.Notation.{Notation}
use Rattle.dbm_script.specs.declared.notations.Notation.TheVariants.{Hex, Text, Layout}
use Rattle.dbm_databases.specs.declared.rows.Listing.{Listing}
use Rattle.dbm_databases.specs.declared.rows.Listing.TheVariants.{Pairs, RawPairs, Objects, Keys, RawKeys}

-- a line with key and value
abbrev pub pair_line : {A : Type 0} → Notation A → Pair → List ℕ
pair_line notation e = shown notation e.0 ++ (32 ∷ (value_shown notation e.1 ++ 10 ∷ []))

-- a line with a key
abbrev pub key_line : {A : Type 0} → Notation A → List ℕ → List ℕ
key_line notation key = shown notation key ++ 10 ∷ []

-- bytes, ended by a zero byte
abbrev pub raw : List ℕ → List ℕ
raw bytes = bytes ++ 0 ∷ []

-- a line with a JSON object of these two strings
abbrev pub object_line : List ℕ → List ℕ → List ℕ
object_line key value =
    123 ∷ 34 ∷ (codes "key" ++ (34 ∷ 58 ∷ (quoted key ++ (44 ∷ 34 ∷ (codes "value" ++ (34 ∷ 58 ∷ (quoted value ++ (125 ∷ 10 ∷ []))))))))

-- a line with a JSON object of two strings: key and value in the notation
abbrev pub words_object : {A : Type 0} → Notation A → Pair → List ℕ
words_object notation e = object_line (shown notation e.0) (value_shown notation e.1)

-- the tokens of a JSON object: the key is text, and the value has the numbers and texts of a layout
abbrev pub pair_tokens : List Kind → Pair → List Token
pair_tokens layout e =
    begin_object ∷ member (codes "key") ∷ (text_tokens e.0 ++ (member (codes "value") ∷ (value_tokens layout e.1 ++ end_object ∷ [])))

-- a line with a pair as a JSON object; with a layout, the value has numbers and texts
abbrev pub pair_object : {A : Type 0} → Notation A → Pair → List ℕ
pair_object Hex e = object_line (hex_shown e.0) (hex_shown e.1)
pair_object Text e = object_line (text_of_bytes e.0) (text_of_bytes e.1)
pair_object (Layout layout) e = print (pair_tokens layout e) ++ 10 ∷ []

abbrev pub listing_row : {A : Type 0} → Notation A → Listing → Pair → List ℕ
listing_row notation Pairs e = pair_line notation e
listing_row notation RawPairs e = raw e.0 ++ raw e.1
listing_row notation Objects e = pair_object notation e
listing_row notation Keys e = key_line notation e.0
listing_row notation RawKeys e = raw e.0

-- the pairs whose keys begin with a prefix, in order
abbrev pub chosen : List ℕ → List Pair → List Pair
chosen prefix = filter (λ (e : Pair). starts_with nat_eq e.0 prefix)

abbrev pub rows : {A : Type 0} → Notation A → Listing → List ℕ → List Pair → List ℕ
rows notation listing prefix pairs = flat_map (listing_row notation listing) (chosen prefix pairs)

-- the form of the rows of `list` and of `keys`, from their options
abbrev pub pairs_listing : Bool → Bool → Listing
pairs_listing null json = cond json Objects (cond null RawPairs Pairs)

abbrev pub keys_listing : Bool → Listing
keys_listing null = cond null RawKeys Keys
