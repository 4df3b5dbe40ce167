-- Pages of a `.pag` file that is read in pieces.
use Rattle.std.specs.Prelude.{◌≡◌, ◌≢◌, ℕ, ◌+◌, ◌*◌, ◌/◌, ◌^◌, ◌<◌, ◌≤◌, List, [], ◌++◌, length, take, drop, get_or, cond, Option, Some, None, unwrap_or, nat_eq as eqb}
use Rattle.std.specs.FinMap as map
use Rattle.std.specs.Map.{lookup}
use Rattle.std.specs.Option.{option_map}
use Rattle.std.specs.declared.vec.Vec.{Vec}
use Rattle.sdbm_addr.specs.declared.PageSize.{PageSize}
use Rattle.sdbm_addr.specs.Pairs.{Pair, Content, page_bytes, IsPage, HasDistinctKeys}
use Rattle.sdbm_addr.specs.Layout.{Spells, bytes_of_page}
use Rattle.sdbm_addr.specs.Files.{page_at}
use Rattle.sdbm_page.specs.declared.PageFault.{PageFault}
use Rattle.sdbm_files.specs.Kept.{pages_of, pairs_under, AreSized}
use Rattle.sdbm_files.specs.Opened.{IsBadPage}

-- the bytes of a `.pag` read so far, with their page size
pub record PagRead : Type 0 where
  pub size : PageSize
  pub bytes : List ℕ

-- the state after one more piece is read
abbrev pub with_piece : PagRead → List ℕ → PagRead
with_piece read piece = record { size = read.size; bytes = read.bytes ++ piece }

-- the state after a prefix of a piece is read
pub record IsPartlyRead (old : PagRead) (piece : List ℕ) (new : PagRead) : Type 0 where
  pub count : ℕ
  pub is : new ≡ with_piece old (take count piece)

-- either all whole pages are parsed, or the next page is invalid
abbrev pub EndsAt : PageSize → List ℕ → ℕ → Option (ℕ × PageFault) → Type 0
EndsAt size pag count None = length pag < (count + 1) * page_bytes size
EndsAt size pag count (Some bad) = IsBadPage size pag bad.0 bad.1

-- the first `count` pages of `pag` are parsed
pub record AreParsed (size : PageSize) (entries : List (ℕ × Content)) (count : ℕ) (bad : Option (ℕ × PageFault)) (pag : List ℕ) : Type 0 where
  pub sizes : AreSized size entries
  pub pages : (n : ℕ) (pairs : List Pair) → map.get (pages_of entries) n ≡ Some pairs → (pairs ≢ []) × IsPage size pairs
  pub inside : count * page_bytes size ≤ length pag
  pub each : (n : ℕ) → n < count → Spells size (page_at size pag n) (pairs_under entries n)
  pub past : (n : ℕ) → count ≤ n → pairs_under entries n ≡ []
  pub ends : EndsAt size pag count bad

module _ {Z : Type 0} where
  -- the bytes of an optional vector
  abbrev pub bytes_in : Option (Vec ℕ Z) → Option (List ℕ)
  bytes_in = option_map (λ (v : Vec ℕ Z). v.items)

  -- the bytes stored under number n, if any
  abbrev pub raw_under : List (ℕ × Vec ℕ Z) → ℕ → Option (List ℕ)
  raw_under raw n = bytes_in (lookup (eqb n) raw)

-- the bytes of page n: the bytes stored for it, or else its canonical bytes
abbrev pub known_under : PageSize → List (ℕ × Content) → (ℕ → Option (List ℕ)) → ℕ → List ℕ
known_under size entries raw n = unwrap_or (raw n) (bytes_of_page size (pairs_under entries n))

-- the bytes of the first `total` pages are known, and no bytes are stored for later pages
pub record AreKnown (size : PageSize) (entries : List (ℕ × Content)) (raw : ℕ → Option (List ℕ)) (total : ℕ) (pag : List ℕ) : Type 0 where
  pub each : (n : ℕ) → n < total → known_under size entries raw n ≡ page_at size pag n
  pub past : (n : ℕ) → total ≤ n → raw n ≡ None

-- the state after the first `total` pages were added, of which the first `count` are parsed
pub record AreTaken (size : PageSize) (entries : List (ℕ × Content)) (raw : ℕ → Option (List ℕ)) (count : ℕ) (bad : Option (ℕ × PageFault)) (total : ℕ) (pag : List ℕ) : Type 0 where
  pub parsed : AreParsed size entries count bad pag
  pub known : AreKnown size entries raw total pag

-- if `before` holds for the first `total` pages, `after` holds for them and a next page with these bytes
abbrev pub Follows : PageSize → ℕ → List ℕ → (ℕ → List ℕ → Type 0) → (ℕ → List ℕ → Type 0) → Type 0
Follows size total bytes before after = (pag : List ℕ) → length pag ≡ total * page_bytes size → before total pag → after (total + 1) (pag ++ bytes)

-- `new` is the result of storing an optional page under n
abbrev pub HasPage : List (ℕ × Content) → List (ℕ × Content) → ℕ → Option Content → Type 0
HasPage old new n None = new ≡ old
HasPage old new n (Some content) = (q : ℕ) → lookup (eqb q) new ≡ cond (eqb n q) (Some content) (lookup (eqb q) old)

-- `new` is the result of storing optional bytes under n, if n had no bytes before
abbrev pub HasRaw : (ℕ → Option (List ℕ)) → (ℕ → Option (List ℕ)) → ℕ → Option (List ℕ) → Type 0
HasRaw old new n bytes = old n ≡ None → (q : ℕ) → new q ≡ cond (eqb n q) bytes (old q)

-- the number of whole pages in the bytes
abbrev pub whole_pages : PageSize → List ℕ → ℕ
whole_pages size pag = length pag / page_bytes size

-- the invariant of `ReadPages`: its fields represent the bytes that were read, `pag`
pub record IsReadAs (size : PageSize) (len : ℕ) (entries : List (ℕ × Content)) (raw : ℕ → Option (List ℕ)) (count : ℕ) (bad : Option (ℕ × PageFault)) (behind pag : List ℕ) : Type 0 where
  pub long : length pag ≡ len
  pub parsed : AreParsed size entries count bad pag
  pub known : AreKnown size entries raw (whole_pages size pag) pag
  pub rest : behind ≡ drop (whole_pages size pag * page_bytes size) pag

-- each page has pairs with distinct keys, and a number of 32 bits
abbrev pub AreLow : List (ℕ × Content) → Type 0
AreLow entries = (n : ℕ) (content : Content) → lookup (eqb n) entries ≡ Some content → (n < 2 ^ 32) × ((content.pairs ≢ []) × HasDistinctKeys content.pairs)

-- block `index` of 1,024 bytes of a file; the block may be shorter, and missing bytes count as zeros
pub record IsBlock (file : List ℕ) (index : ℕ) (block : List ℕ) : Type 0 where
  pub short : length block ≤ 1024
  pub reads : (i : ℕ) → i < 1024 → get_or block i 0 ≡ get_or file (index * 1024 + i) 0
