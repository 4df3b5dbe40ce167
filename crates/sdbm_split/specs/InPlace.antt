-- Store commands that change a page in place.
use Rattle.std.specs.Prelude.{ℕ, List}
use Rattle.sdbm_addr.specs.declared.Mode.{Mode}
use Rattle.sdbm_addr.specs.Pairs.{Content, stored}
use Rattle.sdbm_split.specs.Faults.{IsRefused}
use Rattle.sdbm_split.specs.Room.{GoesOn}

-- the store command is allowed and needs no split
pub record MayStore (mode : Mode) (page : Content) (key value : List ℕ) : Type 0 where
  pub allowed : IsRefused mode page.pairs key → ⊥
  pub room : GoesOn page key value

-- the result of storing the pair on the page
abbrev pub with_stored : Content → List ℕ → List ℕ → Content
with_stored page key value = record { size = page.size; pairs = stored page.pairs key value }
