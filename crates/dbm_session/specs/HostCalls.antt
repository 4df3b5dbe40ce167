-- The calls of a session to its host.
use Rattle.std.specs.Prelude.{◌≡◌, List, [], ◌∷◌, ◌++◌, Option, Some, None, ⊤}
use Rattle.sdbm_addr.specs.Database.{Database}
use Rattle.dbm_script.specs.declared.shorthand.TimeOfDay.{TimeOfDay}

-- a call that saved a database, or a call that returned the time of day (None if there was no time)
pub data HostCall : Type 0 where
  DidSave : Database → HostCall
  GaveTime : Option TimeOfDay → HostCall

-- the saved databases, in order
abbrev pub saves_in : List HostCall → List Database
saves_in [] = []
saves_in (DidSave db ∷ calls) = db ∷ saves_in calls
saves_in (GaveTime time ∷ calls) = saves_in calls

-- the times that the host returned, in order
abbrev pub times_in : List HostCall → List (Option TimeOfDay)
times_in [] = []
times_in (DidSave db ∷ calls) = times_in calls
times_in (GaveTime time ∷ calls) = time ∷ times_in calls

-- the new log is the old log followed by these calls, if the old log is known
abbrev pub Logs : Option (List HostCall) → Option (List HostCall) → List HostCall → Type 0
Logs None new more = ⊤
Logs (Some old) None more = ⊥
Logs (Some old) (Some new) more = new ≡ old ++ more
