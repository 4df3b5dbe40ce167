-- The pages that may differ from those of the base (own). The base is the database that was opened, or from which the last plan was made.
use Rattle.std.specs.Prelude.{◌≡◌, ◌⊎◌, ◌<◌, ◌++◌, ℕ, Bool, true, false, List, [], length, get_or, Contains, Option, Some, None}
use Rattle.std.specs.List.{All}
use Rattle.std.specs.Coded.{Coded-set}
use Rattle.sdbm_addr.specs.Pairs.{Content}
use Rattle.sdbm_split.specs.Planned.{PageChange}
use Rattle.sdbm_addr.specs.Database.{Database, pairs_at, coded_kind, coded_size, coded_pairs, coded_database}

-- a number is marked if and only if it is in the list, and the list has no number twice
pub record AreMarked (marked : List Bool) (numbers : List ℕ) : Type 0 where
  pub only : (n : ℕ) → get_or marked n false ≡ true → Contains numbers n
  pub each : (i : ℕ) → i < length numbers → get_or marked (get_or numbers i 0) false ≡ true
  pub once : (i j : ℕ) → i < j → j < length numbers → get_or numbers i 0 ≡ get_or numbers j 0 → ⊥

-- the new list extends the old one
pub record HasMoreMarks (old new : List ℕ) : Type 0 where
  pub more : List ℕ
  pub is : new ≡ old ++ more

-- Two databases have the same hash kind and page size, and differ only on these pages. If there are no such pages, the databases are
-- equal.
pub record DifferOn (numbers : List ℕ) (base db : Database) : Type 0 where
  pub kind : db.kind ≡ base.kind
  pub size : db.size ≡ base.size
  pub rest : (n : ℕ) → (Contains numbers n → ⊥) → pairs_at db n ≡ pairs_at base n
  pub none : numbers ≡ [] → db ≡ base

pub DifferOn-prop : (numbers : List ℕ) (base db : Database) → IsProp (DifferOn numbers base db)
DifferOn-prop numbers base db = hlevel (Coded-set coded_kind db.kind base.kind, Coded-set coded_size db.size base.size, Coded-set coded_pairs, Coded-set coded_database db base)

-- each twin has a mark on its page, or its pairs are unchanged
abbrev pub CoversTwins : Database → List (ℕ × Content) → List ℕ → Type 0
CoversTwins db twins marks = All (λ (e : ℕ × Content). Contains marks e.0 ⊎ (e.1.pairs ≡ pairs_at db e.0)) twins

-- each page whose pairs a change replaces has a mark
abbrev pub CoversChange : Database → ℕ → Option PageChange → List ℕ → Type 0
CoversChange db number None marks = Unit {0}
CoversChange db number (Some change) marks = Contains marks number × CoversTwins db change.twins marks

-- each mark is one of these numbers
abbrev pub AreAmong : List ℕ → List ℕ → Type 0
AreAmong marks numbers = (n : ℕ) → Contains marks n → Contains numbers n
