-- The bytes of a page in both kinds of storage.
use Rattle.std.specs.Prelude.{ℕ, List}
use Rattle.std.specs.Vec as vec
use Rattle.sdbm_page.specs.Small.{small_with}
use Rattle.sdbm_page.specs.declared.held.Held.{Held}
use Rattle.sdbm_page.specs.declared.held.Held.TheVariants.{Small, Wide}

module _ {A : Type 0} where
  abbrev pub held_items : Held A → List ℕ
  held_items (Small small) = small.bytes
  held_items (Wide v) = v.items

  -- the result of writing `ws` over the bytes from index `at` on
  abbrev pub held_with_part : Held A → ℕ → List ℕ → Held A
  held_with_part (Small small) at ws = Small (small_with small at ws)
  held_with_part (Wide v) at ws = Wide (vec.with_items_from v at ws)

  -- the result of writing `ws` over the bytes from index 0 on
  abbrev pub held_with_all : Held A → List ℕ → Held A
  held_with_all h = held_with_part h 0
