-- The final value of a page's bytes after a mutable borrow.
use Rattle.std.specs.Prelude.{ℕ, List}
use Rattle.std.specs.Borrow.{Lends, Fml, RattleType, MutBor, Array, u8}
use Rattle.std.specs.declared.alloc.Allocator.{Ghosts}
use Rattle.sdbm_page.specs.Held.{held_with_all, held_with_part}
use Rattle.sdbm_page.specs.contracts.held.Held.{the_row}

module _ (A : RattleType) (alloc : Ghosts A.Denot) (h : MutBor (the_row A alloc).Denot) where
  abbrev pub held_lends_all : MutBor (List ℕ) → Fml
  held_lends_all r = Lends (the_row A alloc) (Array u8 0) h r (held_with_all h.now)

  abbrev pub held_lends_part : ℕ → MutBor (List ℕ) → Fml
  held_lends_part at r = Lends (the_row A alloc) (Array u8 0) h r (held_with_part h.now at)
