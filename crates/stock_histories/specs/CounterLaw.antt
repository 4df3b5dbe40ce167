-- The law on counters: they lose no run.
use Rattle.std.specs.Prelude.{ℕ, ◌≡◌, ◌≢◌, ◌+◌, ◌%◌, ◌^◌, ◌≤◌, List, length, Option, Some, None}
use Rattle.std.specs.FinMap as map
use Rattle.sdbm_addr.specs.declared.KeyBytes.{KeyBytes}
use Rattle.sdbm_addr.specs.declared.PageSize.{PageSize}
use Rattle.sdbm_addr.specs.Pairs.{Map}
use Rattle.store_cmd.specs.declared.Entry.{Entry}
use Rattle.stock_programs.specs.Numbers.{number_at}
use Rattle.stock_programs.specs.Counter.{counter}
use Rattle.stock_histories.specs.Turns.{turns_of, accepted_in, IsAlone}

-- The number of a counter: the first 8 bytes of its record, or 0 if there is no record.
abbrev pub Shows : Option (List ℕ) → ℕ → Type 0
Shows None n = n ≡ 0
Shows (Some value) n = (8 ≤ length value) × (number_at 0 value ≡ n)

-- If the counter alone changes a key, the number at the end is the number at the start plus the number of runs with code 1, modulo 2 ^ 64. If
-- the record exists at the start, these are all runs: a counter refuses a run only if the record has fewer than 8 bytes.
abbrev pub LosesNoRun : Type 0 → Type 0
LosesNoRun A =
    (size : PageSize) (kind : KeyBytes) (m m' : Map) (es : List (Entry A)) (key : List ℕ) (n : ℕ)
    → IsAlone counter size kind m es m' key → Shows (map.get m key) n
    → Shows (map.get m' key) ((n + accepted_in (turns_of key es)) % 2 ^ 64)
    × (map.get m key ≢ None → accepted_in (turns_of key es) ≡ length (turns_of key es))
