-- A `.pag` that is read in pieces and then opened (own).
use Rattle.std.specs.Prelude.{◌≡◌, ◌⊎◌, ℕ, List, Option, None, IsSome}
use Rattle.sdbm_addr.specs.declared.PageSize.{PageSize}
use Rattle.boddurci_handles.specs.declared.opened.Db.{Db}
use Rattle.boddurci_handles.specs.declared.pieces.Pieces.{Pieces}
use Rattle.boddurci_handles.specs.declared.status.Status.{Status}
use Rattle.boddurci_handles.specs.Statuses.{status_code}
use Rattle.boddurci_handles.specs.Pieces.{ReadsPiece}

-- the result of reading the next piece
pub record ReadsOr (size : PageSize) (piece : List ℕ) (old : Option Pieces) (code : ℕ) (new : Option Pieces) : Type 0 where
  pub status : Status
  pub code_is : code ≡ status_code status
  pub is : ReadsPiece size piece old new status

-- A reading is freed if the handle was opened with it; otherwise the reading and the handle are unchanged.
abbrev pub IsSpent : Option Db → Option Db → Option Pieces → Option Pieces → Type 0
IsSpent held_old held_new old new = ((held_old ≡ None) × (IsSome held_new × (new ≡ None))) ⊎ ((held_new ≡ held_old) × (new ≡ old))
