-- The names of the files that a run reads and writes, and of its locks.
use Rattle.std.specs.Prelude.{◌≡◌, ℕ, ◌++◌, Bool, true, false, List, [], ◌∷◌, Option, Some, None, codes, option_map, string_bytes}
use Rattle.dbm_places.specs.declared.names.Names.{Names}
use Rattle.dbm_places.specs.declared.names.SourceKind.{SourceKind}
use Rattle.dbm_places.specs.declared.names.SourceKind.TheVariants.{Dir, Pag, Program}
use Rattle.dbm_places.specs.declared.names.RunPlace.{RunPlace}
use Rattle.dbm_places.specs.declared.names.Source.{Source}

-- A file to be read: its kind, its name, its maximum size in bytes, and whether it may be missing.
pub record FileRead : Type 0 where
  pub kind : SourceKind
  pub name : List ℕ
  pub limit : ℕ
  pub may_be_absent : Bool

abbrev pub shown_source : Source → FileRead
shown_source source = record {
  kind = source.kind;
  name = string_bytes source.name;
  limit = source.limit;
  may_be_absent = source.may_be_absent;
}

-- the directory has at most 256 MiB; the maximum size of the pages depends on the run
abbrev pub dir_file : List ℕ → FileRead
dir_file base = record { kind = Dir; name = base ++ codes ".dir"; limit = 268435456; may_be_absent = true }

abbrev pub pag_file : ℕ → List ℕ → FileRead
pag_file limit base = record { kind = Pag; name = base ++ codes ".pag"; limit = limit; may_be_absent = true }

-- a program's file has at most 1 MiB
abbrev pub program_file : List ℕ → FileRead
program_file name = record { kind = Program; name = name; limit = 1048576; may_be_absent = false }

abbrev pub named_files : ℕ → Option (List ℕ) → Option (List ℕ) → List FileRead
named_files limit (Some base) (Some file) = dir_file base ∷ pag_file limit base ∷ program_file file ∷ []
named_files limit (Some base) None = dir_file base ∷ pag_file limit base ∷ []
named_files limit None (Some file) = program_file file ∷ []
named_files limit None None = []

-- the files to be read for a run, in this order
abbrev pub files_read : RunPlace → List FileRead
files_read place = named_files place.pages_limit (option_map (λ text. text.now) place.base) (option_map (λ text. text.now) place.file)

-- the names of the files that are written for a base, and of its locks
pub record AreNames (base : List ℕ) (names : Names) : Type 0 where
  pub pages : string_bytes names.pages ≡ base ++ codes ".pag"
  pub directory : string_bytes names.directory ≡ base ++ codes ".dir"
  pub redo : string_bytes names.redo ≡ base ++ codes ".redo"
  pub lock : string_bytes names.lock ≡ base ++ codes ".lock"
  pub writer : string_bytes names.writer ≡ base ++ codes ".writer"
