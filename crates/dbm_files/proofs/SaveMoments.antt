-- Crashes during a save of a database, and the evidence of a save.
use Rattle.std.proofs.Common.{◌≡◌, ◌⊎◌, inl, inr, ⊎_elim, ℕ, List, sym, ◌∙◌, ap, subst}
use Rattle.sdbm_addr.specs.Database.{Database}
use Rattle.sdbm_saves.specs.declared.disk.DiskFile.TheVariants.{Pages, Directory}
use Rattle.sdbm_saves.specs.Disk.{Image, LeavesOnly}
use Rattle.sdbm_saves.specs.Redo.{files, renewed, renewed_files}
use Rattle.sdbm_saves.specs.Saves.{AreFilesFor, IsSaving}
use Rattle.sdbm_log.specs.Log.{Holds}
use Rattle.sdbm_saves.proofs.Moments.{at_first, weaker}
use Rattle.sdbm_saves.specs.declared.disk.DiskError.{DiskError}
use Rattle.store_saves.specs.declared.saved.AfterSave.{AfterSave}
use Rattle.store_saves.specs.declared.saved.AfterSave.TheVariants.{Pending}
use Rattle.store_saves.specs.Saved.{HoldsDatabase, LeavesDatabase, LeavesSaved}
use Rattle.store_saves.proofs.Leaves.{holds_files}
use Rattle.dbm_files.specs.Saving.{IsOldOrSaved, LeavesFiles}

-- after a save that is pending, the disk holds the database
pub pending_holds : {D : Type 0} (may_leave : D → Image → Type 0) (db : Database) (both : List ℕ × List ℕ) (after : AfterSave D) (disk : D) (fault : DiskError) → after ≡ Pending disk fault
    → AreFilesFor db both.0 both.1 → LeavesSaved may_leave both after → LeavesDatabase may_leave db disk
pending_holds may_leave db both after disk fault is files leaves = λ o left.
    let pending : LeavesSaved may_leave both (Pending disk fault) = subst (λ a. LeavesSaved may_leave both a) is leaves in
    holds_files db both o files (pending o left)

module _ {D : Type 0} (moment : D → ℕ) (left_since : D → ℕ → Image → Type 0) (may_leave : D → Image → Type 0) (before : List ℕ × List ℕ) (db : Database) (old : D) where
  -- the images that a crash may leave at any time
  abbrev pub EverSaved : Image → Type 0
  EverSaved c = may_leave old c ⊎ IsOldOrSaved before db c

  pub at_rest : ((c : Image) → left_since old (moment old) c → may_leave old c) → LeavesOnly moment left_since old old EverSaved
  at_rest only_now = at_first moment left_since may_leave old EverSaved (λ c left. inl (only_now c left))

  module _ (plan : List ℕ) (saving : IsSaving db plan before.0 before.1) (seen : Image) (same : files seen ≡ before) where
    renewed_same : renewed_files plan seen ≡ (renewed Pages plan before.0, renewed Directory plan before.1)
    renewed_same = ap (λ (p : List ℕ × List ℕ). (renewed Pages plan p.0, renewed Directory plan p.1)) same

    holds : (c : Image) → Holds (renewed_files plan seen) c → HoldsDatabase db c
    holds c is = holds_files db (renewed_files plan seen) c (subst (λ (p : List ℕ × List ℕ). AreFilesFor db p.0 p.1) (sym renewed_same) saving.files) is

    pub saves : (new : D) → LeavesFiles (renewed_files plan seen) may_leave new → (c : Image) → may_leave new c → HoldsDatabase db c
    saves new leaves c left = holds c (leaves c left)

    pub ever : (new : D) → LeavesOnly moment left_since old new (λ c. may_leave old c ⊎ (Holds (files seen) c ⊎ Holds (renewed_files plan seen) c)) → LeavesOnly moment left_since old new EverSaved
    ever new so =
        weaker moment left_since may_leave old new _ EverSaved
        (λ c is. ⊎_elim (λ was. inl was) (λ both. inr (⊎_elim (λ was. inl (subst (λ (p : List ℕ × List ℕ). Holds p c) same was)) (λ now. inr (holds c now)) both)) is) so
