-- Files to be opened with wide pages that look like those of a database with small pages (own).
use Rattle.std.specs.Prelude.{◌≡◌, ◌⊎◌, ℕ, List}
use Rattle.sdbm_addr.specs.declared.KeyBytes.{KeyBytes}
use Rattle.sdbm_sizes.specs.Sizes.{FileLooksSmall, SpellsNoSmall}
use Rattle.boddurci_handles.specs.declared.status.Status.{Status}
use Rattle.boddurci_handles.specs.declared.status.Status.TheVariants.{Done, NoMemory}
use Rattle.boddurci_handles.specs.Statuses.{status_code}

-- 1 if the files look like those of a database with small pages; 0 if not, and then `SpellsNoSmall` holds
abbrev pub IsSmallLook : KeyBytes → List ℕ → List ℕ → ℕ → Type 0
IsSmallLook kind dir pag looks = ((looks ≡ 1) × FileLooksSmall kind dir pag) ⊎ ((looks ≡ 0) × ((FileLooksSmall kind dir pag → ⊥) × SpellsNoSmall kind dir pag))

-- `looks` is set; or memory ran out, and `looks` is unchanged
abbrev pub IsLook : KeyBytes → List ℕ → List ℕ → ℕ → ℕ → Status → Type 0
IsLook kind dir pag looks_old looks status = ((status ≡ Done) × IsSmallLook kind dir pag looks) ⊎ ((status ≡ NoMemory) × (looks ≡ looks_old))

pub record LooksOr (kind : KeyBytes) (dir pag : List ℕ) (code looks_old looks : ℕ) : Type 0 where
  pub status : Status
  pub code_is : code ≡ status_code status
  pub is : IsLook kind dir pag looks_old looks status
