-- The faults that are reported when bytes are read as a directory.
use Rattle.std.specs.Prelude.{ℕ, List}
use Rattle.sdbm_addr.specs.Directory.{Splits}
use Rattle.sdbm_addr.specs.DirectoryFile.{SpellsDirectory, HasDeepBit, HasOrphanBit}
use Rattle.sdbm_dir.specs.declared.DirFault.{DirFault}
use Rattle.sdbm_dir.specs.declared.DirFault.TheVariants.{TooDeep, DirOrphan, NoMemory}

-- the bytes have neither a deep bit nor an orphan bit
pub record AreFaultless (bytes : List ℕ) : Type 0 where
  pub shallow : HasDeepBit bytes → ⊥
  pub closed : HasOrphanBit bytes → ⊥

-- The condition for each fault: a deep bit exists; or no deep bit but an orphan bit exists; or neither exists, and allocation fails.
abbrev pub IsDirFault : List ℕ → DirFault → Type 0
IsDirFault bytes TooDeep = HasDeepBit bytes
IsDirFault bytes DirOrphan = (HasDeepBit bytes → ⊥) × HasOrphanBit bytes
IsDirFault bytes NoMemory = AreFaultless bytes

-- the bytes spell no directory
abbrev pub SpellsNoDirectory : List ℕ → Type 0
SpellsNoDirectory bytes = (d : Splits) → SpellsDirectory bytes d → ⊥
