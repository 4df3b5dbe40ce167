-- The law on semaphores: there are never more holders than permits.
use Rattle.std.specs.Prelude.{ℕ, ◌≡◌, ◌+◌, ◌≤◌, ◌==◌, ◌&&◌, not, cond, List, [], ◌∷◌, Option, Some, None}
use Rattle.std.specs.List.{AllByRecursion}
use Rattle.std.specs.FinMap as map
use Rattle.sdbm_addr.specs.declared.KeyBytes.{KeyBytes}
use Rattle.sdbm_addr.specs.declared.PageSize.{PageSize}
use Rattle.sdbm_addr.specs.Pairs.{Map}
use Rattle.store_cmd.specs.declared.Entry.{Entry}
use Rattle.stock_programs.specs.Semaphore.{semaphore, holders, wanted, permits}
use Rattle.stock_histories.specs.Turns.{Turn, turns_of, IsAlone}

-- The number of holders; 0 if there is no record.
abbrev pub holders_in : Option (List ℕ) → ℕ
holders_in None = 0
holders_in (Some value) = holders value

-- The number of turns that took a permit, and of turns that gave one back.
abbrev pub acquired_in : List Turn → ℕ
acquired_in [] = 0
acquired_in (t ∷ ts) = cond ((t.code == 1) && not (wanted t.argument == 0)) 1 0 + acquired_in ts

abbrev pub released_in : List Turn → ℕ
released_in [] = 0
released_in (t ∷ ts) = cond ((t.code == 1) && (wanted t.argument == 0)) 1 0 + released_in ts

-- The run names at most this number of permits.
abbrev pub NamesPermits : ℕ → Turn → Type 0
NamesPermits number t = permits t.argument ≤ number

-- If the semaphore alone changes a key, and each run names at most a number of permits: the holders at the end are those at the start
-- plus the permits taken minus those given back, and are at most that number if they are so at the start.
abbrev pub NeverMore : Type 0 → Type 0
NeverMore A =
    (size : PageSize) (kind : KeyBytes) (m m' : Map) (es : List (Entry A)) (key : List ℕ) (number : ℕ)
    → IsAlone semaphore size kind m es m' key → AllByRecursion (NamesPermits number) (turns_of key es) → holders_in (map.get m key) ≤ number
    → (holders_in (map.get m' key) + released_in (turns_of key es) ≡ holders_in (map.get m key) + acquired_in (turns_of key es))
    × (holders_in (map.get m' key) ≤ number)
