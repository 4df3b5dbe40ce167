-- An encoding of a session's calls to its host, so that a ghost field can have a log as its value.
use Rattle.std.specs.Prelude.{◌≡◌, ◌⊎◌, ℕ, Option, refl}
use Rattle.std.specs.Coded.{Coded, code_by, coded×, coded⊎, coded_ℕ, coded_option}
use mathlib.Core.Logic.{inl, inr}
use Rattle.sdbm_addr.specs.Database.{Database, coded_database}
use Rattle.dbm_script.specs.declared.shorthand.TimeOfDay.{TimeOfDay}
use Rattle.dbm_session.specs.HostCalls.{HostCall, DidSave, GaveTime}

abbrev pub coded_time : Coded TimeOfDay
coded_time = code_by (ℕ × ℕ) (coded× coded_ℕ coded_ℕ) (λ t. (t.seconds, t.millis)) (λ p. record { seconds = p.0; millis = p.1 }) (λ _. refl)

abbrev pub from_call : HostCall → Database ⊎ Option TimeOfDay
from_call (DidSave db) = inl db
from_call (GaveTime time) = inr time

abbrev pub to_call : Database ⊎ Option TimeOfDay → HostCall
to_call (inl db) = DidSave db
to_call (inr time) = GaveTime time

pub to_call-from_call : (call : HostCall) → to_call (from_call call) ≡ call
to_call-from_call (DidSave db) = refl
to_call-from_call (GaveTime time) = refl

abbrev pub coded_call : Coded HostCall
coded_call = code_by (Database ⊎ Option TimeOfDay) (coded⊎ coded_database (coded_option coded_time)) from_call to_call to_call-from_call
