-- The bytes of a page (Yigit, sdbm 1990: pair.c, the comment on the page format; here all numbers are little-endian): the number of
-- offsets, the offsets of each key and its value, free bytes, and the pairs from the end of the page downwards.
use Rattle.std.specs.Prelude.{◌≡◌, ℕ, ◌+◌, ◌*◌, ◌-◌, ◌/◌, ◌%◌, List, [], ◌∷◌, ◌++◌, length, replicate}
use Rattle.sdbm_addr.specs.declared.PageSize.{PageSize}
use Rattle.sdbm_addr.specs.Pairs.{Pair, IsPage, page_bytes}

-- a number in two bytes, low byte first
abbrev pub two_bytes : ℕ → List ℕ
two_bytes n = n % 256 ∷ n / 256 ∷ []

-- the offsets of pairs that end at `top`: for each pair, the offset of its key, then the offset of its value
abbrev pub offsets_from : ℕ → List Pair → List ℕ
offsets_from top [] = []
offsets_from top (e ∷ es) =
    two_bytes (top - length e.0) ++ (two_bytes (top - length e.0 - length e.1) ++ offsets_from (top - length e.0 - length e.1) es)

-- the keys and values, from the end of the page downwards
abbrev pub body_of : List Pair → List ℕ
body_of [] = []
body_of (e ∷ es) = body_of es ++ (e.1 ++ e.0)

-- the bytes of a page with these pairs and with `free` as its free bytes
unfoldable pub bytes_with : PageSize → List ℕ → List Pair → List ℕ
bytes_with size free pairs = two_bytes (2 * length pairs) ++ (offsets_from (page_bytes size) pairs ++ (free ++ body_of pairs))

-- the bytes spell the pairs of a page; the free bytes may have any values
pub record Spells (size : PageSize) (bytes : List ℕ) (pairs : List Pair) : Type 0 where
  pub free : List ℕ
  pub is : bytes ≡ bytes_with size free pairs
  pub long : length bytes ≡ page_bytes size
  pub page : IsPage size pairs

-- the number of free bytes
abbrev pub free_bytes : PageSize → List Pair → ℕ
free_bytes size pairs = page_bytes size - (2 + 4 * length pairs + length (body_of pairs))

-- the canonical bytes of a page, which are written to its file: all free bytes are zero
unfoldable pub bytes_of_page : PageSize → List Pair → List ℕ
bytes_of_page size pairs = bytes_with size (replicate (free_bytes size pairs) 0) pairs
