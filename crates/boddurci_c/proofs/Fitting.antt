-- Databases within the longest `.pag`, before and after calls.
use Rattle.std.proofs.Common.{◌≡◌, ℕ, ◌≤◌, List, [], ◌∷◌, length, inl, inr, sym, subst, arith}
use Rattle.sdbm_addr.specs.Database.{Database}
use Rattle.sdbm_saves.specs.declared.disk.DiskFile.TheVariants.{Pages}
use Rattle.sdbm_saves.specs.Redo.{renewed}
use Rattle.sdbm_saves.specs.Saves.{AreFilesFor, IsSaving}
use Rattle.sdbm_files.specs.Limits.{pag_limit, FitsFiles}
use Rattle.sdbm_addr.specs.Files.{AreFiles, SpellsDatabase}
use Rattle.sdbm_files.proofs.Fitting.{short_fitting}
use Rattle.boddurci_handles.specs.declared.opened.Db.{Db}
use Rattle.boddurci_c.specs.Calls.{HasFiles}
use Rattle.boddurci_c.specs.Plans.{IsPlanFor, pages_left}

-- the written bytes of both files
pub has_files : (d : Db) (dir pag : List ℕ) → AreFiles d.image dir pag → SpellsDatabase d.image dir pag → HasFiles dir pag d
has_files d dir pag files spells = record { files = files; spells = spells; short = short_fitting d.image spells.database pag files.pages }

-- a plan of a save; it is empty if the files are those of the database
pub is_plan : (db : Database) (plan dir pag : List ℕ) → IsSaving db plan pag dir → IsPlanFor db plan dir pag
is_plan db plan dir pag saving = record { makes = inl saving; short = at plan saving }
  where
    at : (p : List ℕ) → IsSaving db p pag dir → FitsFiles db → length (pages_left p pag) ≤ pag_limit
    at [] s fits = let header : 28 ≤ 0 = s.whole.header in absurd (omega (arith, header))
    at (b ∷ bs) s fits = short_fitting db s.files.spelled.database (renewed Pages (b ∷ bs) pag) s.files.written.pages fits

pub no_plan : (db : Database) (plan dir pag : List ℕ) → plan ≡ [] → AreFilesFor db pag dir → IsPlanFor db plan dir pag
no_plan db plan dir pag is are = record {
  makes = inr (is, are);
  short = λ fits. subst (λ (p : List ℕ). length (pages_left p pag) ≤ pag_limit) (sym is) (short_fitting db are.spelled.database pag are.written.pages fits);
}
