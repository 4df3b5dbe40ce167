-- The conditions under which a file next to a database is accepted.
use Rattle.std.specs.Prelude.{◌≡◌, ◌⊎◌, ℕ, ◌/◌, ◌%◌, IsTrue, Option, Some, None}
use Rattle.dbm_places.specs.declared.side.Standing.{Standing}

-- POSIX permission bits, octal 002 and 020
abbrev pub others_write : ℕ → Type 0
others_write mode = mode / 2 % 2 ≡ 1

abbrev pub group_writes : ℕ → Type 0
group_writes mode = mode / 16 % 2 ≡ 1

-- by the permissions, every user who may write the file may also write the pages
abbrev pub IsNoWiderThan : Standing → Standing → Type 0
IsNoWiderThan side pages =
    others_write pages.mode ⊎ ((others_write side.mode → ⊥) × (group_writes side.mode → group_writes pages.mode × (side.group ≡ pages.group)))

abbrev pub IsNoWider : Standing → Option Standing → Type 0
IsNoWider side (Some pages) = IsNoWiderThan side pages
IsNoWider side None = (others_write side.mode → ⊥) × (group_writes side.mode → ⊥)

-- the owner is this user, root, or the owner of the pages
abbrev pub IsOwned : Standing → Option Standing → Option ℕ → Type 0
IsOwned side (Some pages) user = (side.owner ≡ 0) ⊎ ((user ≡ Some side.owner) ⊎ (pages.owner ≡ side.owner))
IsOwned side None user = (side.owner ≡ 0) ⊎ (user ≡ Some side.owner)

pub record TakesRedo (side : Standing) (pages : Option Standing) (user : Option ℕ) : Type 0 where
  pub plain : IsTrue side.is_plain
  pub owned : IsOwned side pages user
  pub no_wider : IsNoWider side pages

-- the owner of the file may write the pages, as far as owners and permissions show
abbrev pub IsOfWriters : Standing → Standing → Option ℕ → Type 0
IsOfWriters side pages user = IsOwned side (Some pages) user ⊎ (others_write pages.mode ⊎ (group_writes pages.mode × (side.group ≡ pages.group)))

abbrev pub TakesLock : Standing → Option Standing → Option ℕ → Type 0
TakesLock side (Some pages) user = IsTrue side.is_plain × (IsOfWriters side pages user × IsNoWiderThan side pages)
TakesLock side None user = IsTrue side.is_plain × (IsOwned side None user ⊎ (user ≡ None))
