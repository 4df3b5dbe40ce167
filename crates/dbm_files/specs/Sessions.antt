-- The database of a session's last save.
use Rattle.std.specs.Prelude.{◌≡◌, IfSome, Option, Some, None}
use Rattle.sdbm_addr.specs.Database.{Database}
use Rattle.dbm_files.specs.declared.session_log.SessionLog.{SessionLog}
use Rattle.dbm_files.specs.declared.session_log.SessionLog.TheVariants.{Closed, Kept, Marked}

-- the database of the files that the log keeps in memory, if it is known
abbrev pub saved_in : {R F : Type 0} → SessionLog R F → Option Database
saved_in Closed = None
saved_in (Kept kept) = kept.1
saved_in (Marked marked) = None

-- if the database of the files in memory is known, it is this one
abbrev pub IsSavedAs : {R F : Type 0} → Database → SessionLog R F → Type 0
IsSavedAs db log = IfSome (saved_in log) (λ base. base ≡ db)
