-- The effect of the page splits of one store command on a directory and a page (Yigit, sdbm 1990: sdbm.c, `makroom`, and pair.c,
-- `splpage`). A store command that finds no room changes nothing, which is our own rule.
use Rattle.std.specs.Prelude.{ℕ, ◌+◌, ◌%◌, ◌^◌, ◌<◌, ◌≤◌, Bool, List, zero, suc, ◌==◌, not, ◌&&◌, cond, map}
use Rattle.std.specs.List.{sum_by, filter, range_with_len}
use Rattle.std.specs.FinMap as map
use Rattle.std.specs.FinSet as set
use Rattle.sdbm_addr.specs.declared.KeyBytes.{KeyBytes}
use Rattle.sdbm_addr.specs.declared.PageSize.{PageSize}
use Rattle.sdbm_addr.specs.Hash.{hash_of, agree}
use Rattle.sdbm_addr.specs.Directory.{Splits, hash_prefix, word_number}
use Rattle.sdbm_addr.specs.Pairs.{Pair, Map, same_key, footprint, page_bytes}

-- the result of splitting t more prefixes of the hash: those with h, h + 1, ..., h + t - 1 letters
abbrev pub split_along : Splits → ℕ → ℕ → ℕ → Splits
split_along d hash h zero = d
split_along d hash h (suc t) = split_along (set.insert d (hash_prefix h hash)) hash (h + 1) t

-- The number of the page of hash `e` after t splits along `hash`, from depth h on. Before the splits, both hashes lead to the same page.
-- The first bit in which `e` differs from `hash` decides where `e` leaves the path of the splits.
abbrev pub page_along : ℕ → ℕ → ℕ → ℕ → ℕ
page_along hash h zero e = e % 2 ^ h
page_along hash h (suc t) e = cond (agree h hash e) (page_along hash (h + 1) t e) (e % 2 ^ h)

-- `other` is a neighbor of `key` by n bits: a different key whose hash has the same n lowest bits
abbrev pub is_neighbor : KeyBytes → List ℕ → ℕ → List ℕ → Bool
is_neighbor kind key n other = not (same_key key other) && agree n (hash_of kind key) (hash_of kind other)

-- the space that the key's neighbors by n bits take on a page with these pairs
abbrev pub neighbors : KeyBytes → List Pair → List ℕ → ℕ → ℕ
neighbors kind pairs key n = sum_by footprint (filter (λ e. is_neighbor kind key n e.0) pairs)

-- the space that the key's neighbors by n bits take in the whole map
abbrev pub map_neighbors : KeyBytes → Map → List ℕ → ℕ → ℕ
map_neighbors kind m key n = sum_by footprint (map.entries (map.retain_keys m (is_neighbor kind key n)))

-- a pair fits on a page together with its key's neighbors by n bits; the neighbors take `taken n` bytes
abbrev pub HasRoom : PageSize → (ℕ → ℕ) → List ℕ → List ℕ → ℕ → Type 0
HasRoom size taken key value n = taken n + footprint (key, value) + 2 ≤ page_bytes size

-- the greatest number of splits in one store command
abbrev pub most_splits : ℕ
most_splits = 10

-- the greatest depth of a page: page numbers have at most 31 bits of a hash
abbrev pub deepest : ℕ
deepest = 31

-- t is the least number of splits after which the pair fits on its page; before the splits, the page has depth h
pub record IsLeastSplits (size : PageSize) (taken : ℕ → ℕ) (key value : List ℕ) (h t : ℕ) : Type 0 where
  pub few : t ≤ most_splits
  pub not_deep : h + t ≤ deepest
  pub room : HasRoom size taken key value (h + t)
  pub least : (s : ℕ) → s < t → HasRoom size taken key value (h + s) → ⊥

-- the pair does not fit after any allowed number of splits
abbrev pub IsCrowded : PageSize → (ℕ → ℕ) → List ℕ → List ℕ → ℕ → Type 0
IsCrowded size taken key value h = (t : ℕ) → t ≤ most_splits → h + t ≤ deepest → HasRoom size taken key value (h + t) → ⊥

-- the pairs that lead to page `number` after t splits along the hash
abbrev pub on_page : KeyBytes → ℕ → ℕ → ℕ → ℕ → List Pair → List Pair
on_page kind hash h t number = filter (λ e. page_along hash h t (hash_of kind e.0) == number)

-- the number of the page that the split at depth k creates
abbrev pub twin_number : ℕ → ℕ → ℕ
twin_number hash k = hash % 2 ^ k + 2 ^ k

-- the directory bits that t splits set, from depth h on, in order
abbrev pub bits_of : ℕ → ℕ → ℕ → List ℕ
bits_of hash h t = map (λ k. word_number (hash_prefix k hash)) (range_with_len h t)
