-- The images that a crash leaves during and after a save in an open log.
use Rattle.std.proofs.Common.{◌≡◌, ◌⊎◌, inl, inr, ⊎_elim, ℕ, List, ap, sym, subst}
use Rattle.sdbm_addr.specs.Database.{Database}
use Rattle.sdbm_saves.specs.declared.disk.DiskFile.TheVariants.{Pages, Directory}
use Rattle.sdbm_saves.specs.Disk.{Image, LeavesOnly}
use Rattle.sdbm_saves.specs.Redo.{files, renewed, renewed_files}
use Rattle.sdbm_saves.specs.Saves.{AreFilesFor}
use Rattle.sdbm_saves.proofs.Moments.{weaker}
use Rattle.sdbm_log.specs.Log.{Holds}
use Rattle.sdbm_logged.specs.Keeping.{bytes_of, IsKept}
use Rattle.sdbm_logged.specs.declared.keeping.Keeper.{Keeper}
use Rattle.store_saves.specs.Saved.{renewed_in, HoldsDatabase}

-- an image that represents the files of a database represents the database
pub holds_files : (db : Database) (both : List ℕ × List ℕ) (c : Image) → AreFilesFor db both.0 both.1 → Holds both c → HoldsDatabase db c
holds_files db both c files is = (subst (λ (p : List ℕ × List ℕ). AreFilesFor db p.0 p.1) (sym is.0) files, is.1)

module _ {D : Type 0} (moment : D → ℕ) (left_since : D → ℕ → Image → Type 0) (may_leave : D → Image → Type 0) (seen : D → Image) (taken kept : D × Keeper) (same : taken ≡ kept)
    (is : IsKept taken.1 (seen taken.0) (may_leave taken.0)) (plan : List ℕ) where
  renewed_same : renewed_files plan (seen taken.0) ≡ renewed_in plan taken.1
  renewed_same = ap (λ (p : List ℕ × List ℕ). (renewed Pages plan p.0, renewed Directory plan p.1)) is.files

  pub holds_renewed : (c : Image) → Holds (renewed_files plan (seen taken.0)) c → Holds (renewed_in plan kept.1) c
  holds_renewed c holds = subst (λ (k : D × Keeper). Holds (renewed_in plan k.1) c) same (subst (λ (p : List ℕ × List ℕ). Holds p c) renewed_same holds)

  holds_bytes : (c : Image) → Holds (files (seen taken.0)) c → Holds (bytes_of kept.1.files) c
  holds_bytes c holds = subst (λ (k : D × Keeper). Holds (bytes_of k.1.files) c) same (subst (λ (p : List ℕ × List ℕ). Holds p c) is.files holds)

  pub moments : (new : D) → LeavesOnly moment left_since taken.0 new (λ c. Holds (files (seen taken.0)) c ⊎ Holds (renewed_files plan (seen taken.0)) c)
      → LeavesOnly moment left_since kept.0 new (λ c. Holds (bytes_of kept.1.files) c ⊎ Holds (renewed_in plan kept.1) c)
  moments new so =
      subst (λ (k : D × Keeper). LeavesOnly moment left_since k.0 new (λ c. Holds (bytes_of kept.1.files) c ⊎ Holds (renewed_in plan kept.1) c)) same
      (weaker moment left_since may_leave taken.0 new _ (λ c. Holds (bytes_of kept.1.files) c ⊎ Holds (renewed_in plan kept.1) c)
      (λ c one. ⊎_elim (λ old. inl (holds_bytes c old)) (λ now. inr (holds_renewed c now)) one) so)
