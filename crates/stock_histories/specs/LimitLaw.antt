-- The law on rate limits: a window admits at most the named number of runs.
use Rattle.std.specs.Prelude.{ℕ, ◌≡◌, ◌+◌, ◌<◌, ◌≤◌, List, ◌∷◌, ◌++◌, Option, Some}
use Rattle.std.specs.List.{AllByRecursion}
use Rattle.std.specs.FinMap as map
use Rattle.sdbm_addr.specs.declared.KeyBytes.{KeyBytes}
use Rattle.sdbm_addr.specs.declared.PageSize.{PageSize}
use Rattle.sdbm_addr.specs.Pairs.{Map}
use Rattle.store_cmd.specs.declared.Entry.{Entry}
use Rattle.stock_programs.specs.RateLimit.{rate_limit, admitted, window, most}
use Rattle.stock_histories.specs.Turns.{Turn, turns_of, accepted_in, IsAlone, NeverFalls}

-- The run names this window length and this number of runs.
abbrev pub Names : ℕ → ℕ → Turn → Type 0
Names length number t = (window t.argument ≡ length) × (most t.argument ≡ number)

-- The turn is the first that its window admits: its word, the number of runs left, is one less than the number.
abbrev pub BeginsWindow : ℕ → Turn → Type 0
BeginsWindow number t = (t.code ≡ 1) × (t.word + 1 ≡ number)

-- The record, if there is one, has admitted a run, as has every record that the program wrote.
abbrev pub HasBegun : Option (List ℕ) → Type 0
HasBegun r = (value : List ℕ) → r ≡ Some value → 1 ≤ admitted value

-- If the rate limit alone changes a key, times never fall, and each run names the same length and number: from the first admitted run of a
-- window until the window ends, at most that number of runs is admitted, including the first. A blank is a window that began at time 0, so
-- the first run's time must be at least the window length.
abbrev pub AdmitsAtMost : Type 0 → Type 0
AdmitsAtMost A =
    (size : PageSize) (kind : KeyBytes) (m m' : Map) (es : List (Entry A)) (key : List ℕ) (length number : ℕ)
    → IsAlone rate_limit size kind m es m' key → HasBegun (map.get m key) → NeverFalls 0 (turns_of key es)
    → AllByRecursion (Names length number) (turns_of key es)
    → (before during after : List Turn) (first : Turn) → turns_of key es ≡ before ++ (first ∷ (during ++ after))
    → BeginsWindow number first → length ≤ first.now → AllByRecursion (λ (t : Turn). t.now < first.now + length) during
    → 1 + accepted_in during ≤ number
