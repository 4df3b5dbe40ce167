-- The law on token buckets: the costs taken are at most the capacity plus the inflow.
use Rattle.std.specs.Prelude.{ℕ, ◌≡◌, ◌+◌, ◌≤◌, ◌==◌, cond, List, [], ◌∷◌, ◌++◌}
use Rattle.std.specs.List.{AllByRecursion}
use Rattle.sdbm_addr.specs.declared.KeyBytes.{KeyBytes}
use Rattle.sdbm_addr.specs.declared.PageSize.{PageSize}
use Rattle.sdbm_addr.specs.Pairs.{Map}
use Rattle.store_cmd.specs.declared.Entry.{Entry}
use Rattle.stock_programs.specs.TokenBucket.{token_bucket, cost, capacity}
use Rattle.stock_histories.specs.Turns.{Turn, turns_of, IsAlone, NeverFalls}

-- The run names this capacity.
abbrev pub NamesCapacity : ℕ → Turn → Type 0
NamesCapacity room t = capacity t.argument ≡ room

-- The sum of the costs taken.
abbrev pub poured_in : List Turn → ℕ
poured_in [] = 0
poured_in (t ∷ ts) = cond (t.code == 1) (cost t.argument) 0 + poured_in ts

-- If the token bucket alone changes a key, times never fall, and each run names the same capacity: from a run that takes a cost to any
-- later time, the costs taken add up to at most the capacity plus the time between.
abbrev pub PoursAtMost : Type 0 → Type 0
PoursAtMost A =
    (size : PageSize) (kind : KeyBytes) (m m' : Map) (es : List (Entry A)) (key : List ℕ) (room end : ℕ)
    → IsAlone token_bucket size kind m es m' key → NeverFalls 0 (turns_of key es) → AllByRecursion (NamesCapacity room) (turns_of key es)
    → (before during after : List Turn) (first : Turn) → turns_of key es ≡ before ++ (first ∷ (during ++ after))
    → first.code ≡ 1 → first.now ≤ end → AllByRecursion (λ (t : Turn). t.now ≤ end) during
    → first.now + (cost first.argument + poured_in during) ≤ end + room
