-- Iteration over all pairs (own): a cursor visits the pages in the order of their numbers, and the pairs of each page in order.
use Rattle.std.specs.Prelude.{◌≡◌, ◌≢◌, ◌⊎◌, ◌<◌, ◌≤◌, ◌+◌, ℕ, length, List, [], Option}
use Rattle.sdbm_addr.specs.Pairs.{key_at, value_at}
use Rattle.sdbm_addr.specs.Database.{Database, pairs_at}
use Rattle.sdbm_addr.specs.Files.{IsPageCount}
use Rattle.boddurci_c.specs.declared.turns.Cursor.{Cursor}
use Rattle.boddurci_handles.specs.declared.status.Status.{Status}
use Rattle.boddurci_handles.specs.declared.status.Status.TheVariants.{Done, Missing, ShortRoom}
use Rattle.boddurci_handles.specs.declared.opened.Db.{Db}
use Rattle.boddurci_handles.specs.Statuses.{status_code}
use Rattle.boddurci_c.specs.Calls.{AreCopied, HandleShows}

-- The cursor is before the first pair. Its end is the lowest number above all pages with pairs.
pub record IsStart (db : Database) (cursor : Cursor) : Type 0 where
  pub page : cursor.page ≡ 0
  pub pair : cursor.pair ≡ 0
  pub end : IsPageCount db cursor.end

-- no page from `from` up to but not including `end` has pairs
abbrev pub AreBare : Database → ℕ → ℕ → Type 0
AreBare db from end = (k : ℕ) → from ≤ k → k < end → pairs_at db k ≡ []

-- page n is the first of these pages that has pairs
pub record IsFirstFrom (db : Database) (from end n : ℕ) : Type 0 where
  pub low : from ≤ n
  pub high : n < end
  pub bare : AreBare db from n
  pub has : pairs_at db n ≢ []

-- Pair i of page n is the next pair: the pair at the cursor, or, if its page has no such pair, the first pair of the next page
-- that has pairs.
pub record IsNextPair (db : Database) (cursor : Cursor) (n i : ℕ) : Type 0 where
  pub before : cursor.page < cursor.end
  pub there : i < length (pairs_at db n)
  pub at : ((n ≡ cursor.page) × (i ≡ cursor.pair))
      ⊎ ((length (pairs_at db cursor.page) ≤ cursor.pair) × ((i ≡ 0) × IsFirstFrom db (cursor.page + 1) cursor.end n))

-- no pair is left
abbrev pub IsCursorOver : Database → Cursor → Type 0
IsCursorOver db cursor = (cursor.end ≤ cursor.page) ⊎ ((length (pairs_at db cursor.page) ≤ cursor.pair) × AreBare db (cursor.page + 1) cursor.end)

-- the cursor after pair i of page n
abbrev pub cursor_behind : Cursor → ℕ → ℕ → Cursor
cursor_behind cursor n i = record { page = n; end = cursor.end; pair = i + 1 }

-- the next pair is written, and the cursor is after it; or a buffer is too short, and the cursor is unchanged
pub record CursorTells (db : Database) (old new : Cursor) (key_old key_new : List ℕ) (key_len : ℕ) (value_old value_new : List ℕ) (value_len : ℕ) (status : Status) : Type 0 where
  pub n : ℕ
  pub i : ℕ
  pub next : IsNextPair db old n i
  pub key_len_is : key_len ≡ length (key_at (pairs_at db n) i)
  pub value_len_is : value_len ≡ length (value_at (pairs_at db n) i)
  pub copied : AreCopied (key_at (pairs_at db n) i) (value_at (pairs_at db n) i) key_old key_new value_old value_new status
  pub moves : status ≡ Done → new ≡ cursor_behind old n i
  pub stays : status ≡ ShortRoom → new ≡ old

-- no pair is left, and nothing is written
pub record CursorEnds (db : Database) (old new : Cursor) (key_old key_new value_old value_new : List ℕ) (status : Status) : Type 0 where
  pub over : IsCursorOver db old
  pub status_is : status ≡ Missing
  pub same : new ≡ old
  pub key_same : key_new ≡ key_old
  pub value_same : value_new ≡ value_old

abbrev pub CursorTurns : Database → Cursor → Cursor → List ℕ → List ℕ → ℕ → List ℕ → List ℕ → ℕ → Status → Type 0
CursorTurns db old new key_old key_new key_len value_old value_new value_len status =
    CursorTells db old new key_old key_new key_len value_old value_new value_len status ⊎ CursorEnds db old new key_old key_new value_old value_new status

-- ---- calls

pub record CursorBegins (old : Option Db) (code : ℕ) (new : Option Db) (cursor : Cursor) : Type 0 where
  pub code_is : code ≡ status_code Done
  pub is : HandleShows old new (λ d. IsStart d.image cursor)

pub record CursorGoesOn (old : Option Db) (code : ℕ) (new : Option Db) (cursor_old cursor_new : Cursor) (key_old key_new : List ℕ) (key_len : ℕ) (value_old value_new : List ℕ) (value_len : ℕ) : Type 0 where
  pub status : Status
  pub code_is : code ≡ status_code status
  pub is : HandleShows old new (λ d. CursorTurns d.image cursor_old cursor_new key_old key_new key_len value_old value_new value_len status)
