-- The definitions of files, applied to example runs.
use Rattle.sdbm_addr.specs.declared.PageSize.TheVariants.{Small}
use Rattle.std.proofs.Common.{◌≡◌, ℕ, Bool, List, [], ◌∷◌, Option, Some, None, Bor, true, false, refl, codes}
use Rattle.dbm_places.specs.Names.{FileRead, files_read}
use Rattle.dbm_places.specs.declared.names.SourceKind.TheVariants.{Dir, Pag, Program}
use Rattle.dbm_places.specs.declared.names.RunPlace.{RunPlace}

abbrev dir : FileRead
dir = record { kind = Dir; name = codes "db.dir"; limit = 268435456; may_be_absent = true }

abbrev pag : FileRead
pag = record { kind = Pag; name = codes "db.pag"; limit = 1024; may_be_absent = true }

abbrev program : FileRead
program = record { kind = Program; name = codes "counter.s"; limit = 1048576; may_be_absent = false }

abbrev place : Option (Bor (List ℕ)) → Option (Bor (List ℕ)) → Bool → RunPlace
place base file writes = record { base = base; file = file; writes = writes; pages_limit = 1024; page_size = Small }

pub database_has_both : (base : Bor (List ℕ)) (writes : Bool) → base.now ≡ codes "db" → files_read (place (Some base) None writes) ≡ dir ∷ pag ∷ []
database_has_both base writes h = rw h refl

pub program_comes_last : (base file : Bor (List ℕ)) → base.now ≡ codes "db" → file.now ≡ codes "counter.s" → files_read (place (Some base) (Some file) true) ≡ dir ∷ pag ∷ program ∷ []
program_comes_last base file h same = rw h (rw same refl)

pub program_alone_is_read : (file : Bor (List ℕ)) → file.now ≡ codes "counter.s" → files_read (place None (Some file) false) ≡ program ∷ []
program_alone_is_read file h = rw h refl

pub nothing_named_is_read : files_read (place None None false) ≡ []
nothing_named_is_read = refl
