-- A handle with a database of which only the page of one key was read (own).
use Rattle.std.specs.Prelude.{◌≡◌, ◌⊎◌, ℕ, List, [], Option, Some, None}
use Rattle.std.specs.Global.{Vec}
use Rattle.std.specs.Borrow.{Bor}
use Rattle.sdbm_saves.specs.declared.part.Part.{Part}
use Rattle.store_parts.specs.Parts.{IsOpenedPart, IsPlannedPart}
use Rattle.boddurci_handles.specs.declared.opened.Db.{Db}
use Rattle.boddurci_handles.specs.declared.status.Status.{Status}
use Rattle.boddurci_handles.specs.declared.status.Status.TheVariants.{Done, BadFiles, Stale}
use Rattle.boddurci_handles.specs.Statuses.{status_code}
use Rattle.boddurci_c.specs.Calls.{At, HandleShows, IsCopied}

-- the part of the files that was read
abbrev pub part_for : Bor (List ℕ) → ℕ → ℕ → Bor (List ℕ) → Part
part_for directory len number page = record { directory = directory; len = len; number = number; page = page }

-- the new database has only the page of a key, and is its own base; the programs and the limit are unchanged
pub record HasTurned (key : List ℕ) (part : Part) (d d' : Db) : Type 0 where
  pub opened : IsOpenedPart key part d.image.kind d.image.size d'.image
  pub registry : d'.registry ≡ d.registry
  pub limit : d'.limit ≡ d.limit
  pub base : d'.base.database ≡ d'.image
  pub marks : d'.marks ≡ []

-- the handle has the database of the page; or that page is not enough, and the database is unchanged
abbrev pub TurnsTo : List ℕ → Part → Db → Status → Db → Type 0
TurnsTo key part d status d' = ((status ≡ Done) × HasTurned key part d d') ⊎ ((status ≡ BadFiles) × (d' ≡ d))

pub record TurnsPage (key : List ℕ) (part : Part) (old : Option Db) (code : ℕ) (new : Option Db) : Type 0 where
  pub code_is : code ≡ status_code Done
  pub is : At old new (HasTurned key part)

-- the page is not enough, or memory ran out
abbrev pub LacksPages : Db → Status → Type 0
LacksPages d status = status ≡ BadFiles

-- the bytes of a plan; no bytes if there is no plan
abbrev pub bytes_of_plan : Option (Vec ℕ) → List ℕ
bytes_of_plan None = []
bytes_of_plan (Some plan) = plan.items

-- The plan of the page's database, and the numbers of the pages that the plan may write, are written to two buffers. The status is `Done`
-- only if both fit.
pub record PlansPage (part : Part) (d : Db) (numbers_old numbers_new : List ℕ) (count : ℕ) (room_old room_new : List ℕ) (len : ℕ) (status : Status) : Type 0 where
  pub numbers : List ℕ
  pub plan : Option (Vec ℕ)
  pub is : IsPlannedPart part d.image numbers plan
  pub first : Status
  pub second : Status
  pub numbers_are : IsCopied numbers numbers_old numbers_new count first
  pub plan_is : IsCopied (bytes_of_plan plan) room_old room_new len second
  pub done : status ≡ Done → (first ≡ Done) × (second ≡ Done)
  pub says : (status ≡ first) ⊎ (status ≡ second)

pub record PlansPageOf (part : Part) (old : Option Db) (code : ℕ) (new : Option Db) (numbers_old numbers_new : List ℕ) (count : ℕ) (room_old room_new : List ℕ) (len : ℕ) : Type 0 where
  pub status : Status
  pub code_is : code ≡ status_code status
  pub is : HandleShows old new (λ d. PlansPage part d numbers_old numbers_new count room_old room_new len status)

-- the page is not enough for a plan, or memory ran out
abbrev pub LacksPlan : Db → Status → Type 0
LacksPlan d status = status ≡ Stale
