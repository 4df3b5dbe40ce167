use Rattle.std.proofs.Common.{ℕ, List, subst, sym}
use Rattle.sdbm_addr.specs.DirectoryFile.{AreDirectoryBytes}
use Rattle.sdbm_dir.specs.Bitmap.{splits_of, IsBitmap}
use Rattle.sdbm_dir.specs.Marks.{Marks}
use Rattle.sdbm_dir.proofs.Dir.bytes.Goals as goal

pub used_blocks-requires : goal.used_blocks-requires
used_blocks-requires g c = subst IsBitmap (sym c.as_slice.ensures.value) c.self.invariant

pub returns : goal.returns
returns g c =
    subst (λ (m : Marks). AreDirectoryBytes m.splits c.used_blocks.result.now) c.self.view_is
    (subst (λ (bytes : List ℕ). AreDirectoryBytes (splits_of bytes) c.used_blocks.result.now) c.as_slice.ensures.value c.used_blocks.ensures)
