-- The law on sequences: each number is taken once.
use Rattle.std.specs.Prelude.{ℕ, ◌≡◌, ◌<◌, List, ◌∷◌, ◌++◌}
use Rattle.sdbm_addr.specs.declared.KeyBytes.{KeyBytes}
use Rattle.sdbm_addr.specs.declared.PageSize.{PageSize}
use Rattle.sdbm_addr.specs.Pairs.{Map}
use Rattle.store_cmd.specs.declared.Entry.{Entry}
use Rattle.stock_programs.specs.Numbers.{number_at}
use Rattle.stock_programs.specs.Sequence.{sequence}
use Rattle.stock_histories.specs.Turns.{Turn, turns_of, IsAlone}

-- If the sequence alone changes a key, the numbers of the taken messages rise. So no number is taken twice.
abbrev pub TakesOnce : Type 0 → Type 0
TakesOnce A =
    (size : PageSize) (kind : KeyBytes) (m m' : Map) (es : List (Entry A)) (key : List ℕ)
    → IsAlone sequence size kind m es m' key
    → (before between after : List Turn) (first second : Turn) → turns_of key es ≡ before ++ (first ∷ (between ++ (second ∷ after)))
    → first.code ≡ 1 → second.code ≡ 1 → number_at 0 first.argument < number_at 0 second.argument
