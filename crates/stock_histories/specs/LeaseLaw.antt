-- The law on leases: two owners never hold a lease at the same time.
use Rattle.std.specs.Prelude.{ℕ, ◌≡◌, ◌≢◌, ◌≤◌, ◌==◌, ◌&&◌, cond, List, [], ◌∷◌, ◌++◌}
use Rattle.std.specs.List.{AllByRecursion}
use Rattle.std.specs.FinMap as map
use Rattle.sdbm_addr.specs.declared.KeyBytes.{KeyBytes}
use Rattle.sdbm_addr.specs.declared.PageSize.{PageSize}
use Rattle.sdbm_addr.specs.Pairs.{Map}
use Rattle.store_cmd.specs.declared.Entry.{Entry}
use Rattle.stock_programs.specs.Lease.{lease, asker}
use Rattle.stock_histories.specs.Turns.{Turn, turns_of, IsAlone, NeverFalls}

-- The turn grants the lease to this owner, until the time in its word.
abbrev pub Grants : ℕ → Turn → Type 0
Grants who t = (t.code ≡ 1) × (asker t.argument ≡ who)

-- The turn does not give this owner's lease back.
abbrev pub KeepsLease : ℕ → Turn → Type 0
KeepsLease who t = asker t.argument ≡ who → t.code ≢ 2

-- The end of this owner's lease after these turns: the word of the owner's last grant, even if an earlier grant ends later.
abbrev pub last_end : ℕ → ℕ → List Turn → ℕ
last_end who end [] = end
last_end who end (t ∷ ts) = last_end who (cond ((t.code == 1) && (asker t.argument == who)) t.word end) ts

-- If the lease alone changes a key, and times never fall: after a grant to one owner, a grant to another has a time at or after the end
-- of the first owner's last grant, unless the first gave the lease back in between.
abbrev pub NeverOverlap : Type 0 → Type 0
NeverOverlap A =
    (size : PageSize) (kind : KeyBytes) (m m' : Map) (es : List (Entry A)) (key : List ℕ)
    → IsAlone lease size kind m es m' key → NeverFalls 0 (turns_of key es)
    → (before between after : List Turn) (first second : Turn) → turns_of key es ≡ before ++ (first ∷ (between ++ (second ∷ after)))
    → (one other : ℕ) → Grants one first → Grants other second → one ≢ other → AllByRecursion (KeepsLease one) between
    → last_end one first.word between ≤ second.now
