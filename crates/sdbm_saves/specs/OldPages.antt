-- The old bytes of `.pag` in a save.
use Rattle.std.specs.Prelude.{ℕ, List}
use Rattle.sdbm_saves.specs.declared.reading.OldPages.{OldPages}
use Rattle.sdbm_saves.specs.declared.reading.OldPages.TheVariants.{Read, Kept}

abbrev pub bytes_in : {A : Type 0} → OldPages A → List ℕ
bytes_in (Read pages) = pages.now.bytes
bytes_in (Kept bytes) = bytes.now
