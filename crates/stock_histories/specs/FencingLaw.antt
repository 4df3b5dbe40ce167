-- The law on fencing tokens: they rise with each new owner.
use Rattle.std.specs.Prelude.{ℕ, ◌≡◌, ◌≢◌, ◌≤◌, List, ◌∷◌, ◌++◌}
use Rattle.sdbm_addr.specs.declared.KeyBytes.{KeyBytes}
use Rattle.sdbm_addr.specs.declared.PageSize.{PageSize}
use Rattle.sdbm_addr.specs.Pairs.{Map}
use Rattle.store_cmd.specs.declared.Entry.{Entry}
use Rattle.stock_programs.specs.Lease.{asker}
use Rattle.stock_programs.specs.FencedLease.{fenced_lease}
use Rattle.stock_histories.specs.Turns.{Turn, turns_of, IsAlone}

-- The turn grants the lease, and its word is the token.
abbrev pub GivesToken : Turn → Type 0
GivesToken t = (t.code ≡ 1) × (t.word ≢ 0)

-- If the fenced lease alone changes a key: no token is lower than an earlier one, and two owners never have the same one. So a new
-- owner's token is greater than every earlier one. Times may fall.
abbrev pub TokensRise : Type 0 → Type 0
TokensRise A =
    (size : PageSize) (kind : KeyBytes) (m m' : Map) (es : List (Entry A)) (key : List ℕ)
    → IsAlone fenced_lease size kind m es m' key
    → (before between after : List Turn) (first second : Turn) → turns_of key es ≡ before ++ (first ∷ (between ++ (second ∷ after)))
    → GivesToken first → GivesToken second
    → (first.word ≤ second.word) × (first.word ≡ second.word → asker first.argument ≡ asker second.argument)
