-- The keys in the bytes of a page.
use Rattle.std.specs.Prelude.{◌≡◌, ◌≢◌, ℕ, ◌*◌, ◌+◌, ◌<◌, List, AllPairs, slice_range}
use Rattle.sdbm_page.specs.Fields.{number_at, end_at, IsInside}

-- the key of pair i
abbrev pub key_of : List ℕ → ℕ → List ℕ
key_of bytes i = slice_range bytes (number_at bytes (4 * i + 2)) (end_at bytes i)

-- the first n pairs are inside the bytes
abbrev pub AreInside : List ℕ → ℕ → Type 0
AreInside bytes n = (i : ℕ) → i < n → IsInside bytes i

-- no two of the first n pairs have the same key
abbrev pub AreApart : List ℕ → ℕ → Type 0
AreApart bytes n = (a b : ℕ) → a < b → b < n → key_of bytes a ≢ key_of bytes b

-- a pair before pair i has the same key
pub record IsKeyBefore (bytes : List ℕ) (i : ℕ) : Type 0 where
  pub place : ℕ
  pub below : place < i
  pub is : key_of bytes place ≡ key_of bytes i

-- no two keys of a list are equal
abbrev pub AreUnlike : List (List ℕ) → Type 0
AreUnlike keys = AllPairs (λ a b. a ≢ b) keys
