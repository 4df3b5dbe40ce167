-- The number of a page's holds in each mode.
use Rattle.std.specs.Prelude.{ℕ, ◌≡◌, ◌+◌, ◌-◌, ◌==◌, Bool, ◌&&◌, ◌||◌, not, List, [], ◌∷◌, Option, Some, None, if◌then◌else◌, nat_eq}
use Rattle.std.specs.Option.{unwrap_or}
use Rattle.std.specs.HashMap.{HashMap, get}
use Rattle.hold_modes.specs.declared.modes.Hold.{Hold}
use Rattle.hold_modes.specs.declared.modes.Hold.TheVariants.{Read, Update, Exclusive}
use Rattle.hold_modes.specs.declared.modes.Held.{Held}
use Rattle.hold_modes.specs.declared.uses.Uses.{Uses}
use Rattle.hold_modes.specs.Held.{are_compatible}

abbrev pub no_uses : Uses
no_uses = record { read = 0; update = 0; exclusive = 0 }

abbrev pub is_free : Uses → Bool
is_free uses = (uses.read == 0) && (uses.update == 0) && (uses.exclusive == 0)

-- the number of holds in one mode
abbrev pub uses_in : Hold → Uses → ℕ
uses_in Read uses = uses.read
uses_in Update uses = uses.update
uses_in Exclusive uses = uses.exclusive

-- one more hold in a mode
abbrev pub more : Hold → Uses → Uses
more Read uses = record uses { read = uses.read + 1 }
more Update uses = record uses { update = uses.update + 1 }
more Exclusive uses = record uses { exclusive = uses.exclusive + 1 }

-- one fewer hold in a mode
abbrev pub fewer : Hold → Uses → Uses
fewer Read uses = record uses { read = uses.read - 1 }
fewer Update uses = record uses { update = uses.update - 1 }
fewer Exclusive uses = record uses { exclusive = uses.exclusive - 1 }

-- one more hold in a mode if `other` is the page; otherwise no change
abbrev pub also : ℕ → ℕ → Hold → Uses → Uses
also page other mode uses = if other == page then more mode uses else uses

-- the number of a page's holds in each mode
abbrev pub uses_of : ℕ → List Held → Uses
uses_of page [] = no_uses
uses_of page (held ∷ rest) = also page held.page held.mode (uses_of page rest)

-- a page with these holds cannot be held by another ticket in this mode
abbrev pub uses_bar : Hold → Uses → Bool
uses_bar mode uses = (not (uses.read == 0) && not (are_compatible Read mode))
    || (not (uses.update == 0) && not (are_compatible Update mode))
    || (not (uses.exclusive == 0) && not (are_compatible Exclusive mode))

-- the stored entry of a page: `None` if it has no holds
abbrev pub kept : Uses → Option Uses
kept uses = if is_free uses then None else Some uses

module _ {S : Type 0} where
  -- the number of holds stored for a page
  abbrev pub uses_at : HashMap ℕ Uses S → ℕ → Uses
  uses_at pages page = unwrap_or (get nat_eq pages page) no_uses

  -- every page has the same entry as before
  abbrev pub Keeps : HashMap ℕ Uses S → HashMap ℕ Uses S → Type 0
  Keeps old new = (page : ℕ) → get nat_eq new page ≡ get nat_eq old page

  -- `page` has this entry, and every other page has the same entry as before
  abbrev pub Puts : HashMap ℕ Uses S → HashMap ℕ Uses S → ℕ → Option Uses → Type 0
  Puts old new page entry = (other : ℕ) → get nat_eq new other ≡ (if nat_eq page other then entry else get nat_eq old other)

  -- the entry of each page has the numbers of its holds in the list
  abbrev pub IsIndex : HashMap ℕ Uses S → List Held → Type 0
  IsIndex pages holds = (page : ℕ) → get nat_eq pages page ≡ kept (uses_of page holds)
