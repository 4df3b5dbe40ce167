-- The list of holds as a cache with tickets as keys, oldest hold first.
use Rattle.std.specs.Prelude.{ℕ, ◌≡◌, ◌-◌, ◌^◌, List, [], map, Option, Some, None, ⊤}
use Rattle.lru.specs.LruCache.{LruCache}
use Rattle.hold_modes.specs.declared.modes.Hold.{Hold}
use Rattle.hold_modes.specs.declared.modes.Held.{Held}

-- the hold that an entry of the cache represents: a ticket with a page and a mode
abbrev pub held_of : ℕ × (ℕ × Hold) → Held
held_of e = record { page = e.1.0; mode = e.1.1; ticket = record { 0 = e.0 } }

-- the list of holds; `None` is the empty list
abbrev pub held_in : Option (LruCache ℕ (ℕ × Hold)) → List Held
held_in None = []
held_in (Some holds) = map held_of holds.entries

-- the cache is unbounded, so it never evicts a hold
abbrev pub IsUnbounded : Option (LruCache ℕ (ℕ × Hold)) → Type 0
IsUnbounded None = ⊤
IsUnbounded (Some holds) = holds.cap ≡ 2 ^ 64 - 1
