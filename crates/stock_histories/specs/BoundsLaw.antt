-- The laws on bounds: a number stays within the bounds that every run names.
use Rattle.std.specs.Prelude.{ℕ, ◌≡◌, ◌≤◌, List, length, Option, Some}
use Rattle.std.specs.List.{AllByRecursion}
use Rattle.std.specs.FinMap as map
use Rattle.sdbm_addr.specs.declared.KeyBytes.{KeyBytes}
use Rattle.sdbm_addr.specs.declared.PageSize.{PageSize}
use Rattle.sdbm_addr.specs.Pairs.{Map}
use Rattle.store_cmd.specs.declared.Entry.{Entry}
use Rattle.stock_programs.specs.Numbers.{number_at}
use Rattle.stock_programs.specs.BoundedAdd.{bounded_add, bound}
use Rattle.stock_programs.specs.BoundedCounter.{bounded_counter, floor, ceiling}
use Rattle.stock_histories.specs.Turns.{Turn, turns_of, IsAlone}

-- The number in the record, if there is one, is within both bounds.
abbrev pub IsWithinBounds : ℕ → ℕ → Option (List ℕ) → Type 0
IsWithinBounds low high r = (value : List ℕ) → r ≡ Some value → 8 ≤ length value → (low ≤ number_at 0 value) × (number_at 0 value ≤ high)

-- The run names a floor and a ceiling that lie within these bounds.
abbrev pub NamesWithin : ℕ → ℕ → Turn → Type 0
NamesWithin low high t = (low ≤ floor t.argument) × (ceiling t.argument ≤ high)

-- If the bounded counter alone changes a key, each run names a floor and a ceiling within some bounds, and the number starts within these
-- bounds, then it ends within them.
abbrev pub StaysBetween : Type 0 → Type 0
StaysBetween A =
    (size : PageSize) (kind : KeyBytes) (m m' : Map) (es : List (Entry A)) (key : List ℕ) (low high : ℕ)
    → IsAlone bounded_counter size kind m es m' key → AllByRecursion (NamesWithin low high) (turns_of key es)
    → IsWithinBounds low high (map.get m key) → IsWithinBounds low high (map.get m' key)

-- The run of a bounded add names a bound of at most `high`.
abbrev pub NamesBelow : ℕ → Turn → Type 0
NamesBelow high t = bound t.argument ≤ high

abbrev pub StaysBelow : Type 0 → Type 0
StaysBelow A =
    (size : PageSize) (kind : KeyBytes) (m m' : Map) (es : List (Entry A)) (key : List ℕ) (high : ℕ)
    → IsAlone bounded_add size kind m es m' key → AllByRecursion (NamesBelow high) (turns_of key es)
    → IsWithinBounds 0 high (map.get m key) → IsWithinBounds 0 high (map.get m' key)
