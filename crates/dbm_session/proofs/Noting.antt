-- The pages that have changed since the last save.
use Rattle.std.proofs.Common.{Option, Some, None}
use Rattle.sdbm_addr.specs.Database.{Database}
use Rattle.store_marks.specs.Noted.{AreNoted}
use Rattle.store_marks.specs.declared.noted.Changes.TheVariants.{Any}

pub any_noted : (saved : Option Database) (db : Database) → AreNoted saved Any db
any_noted None db = tt
any_noted (Some base) db = tt
