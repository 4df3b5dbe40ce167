-- The pages that may have changed since some moment.
use Rattle.std.specs.Prelude.{Option, Some, None, ⊤}
use Rattle.sdbm_addr.specs.Database.{Database}
use Rattle.store_marks.specs.Marks.{DifferOn}
use Rattle.store_marks.specs.declared.noted.Changes.{Changes}
use Rattle.store_marks.specs.declared.noted.Changes.TheVariants.{Any, Pages}

-- the database has changed since the base only on the noted pages
abbrev pub Notes : Changes → Database → Database → Type 0
Notes Any base db = ⊤
Notes (Pages marks) base db = DifferOn marks base db

-- if the base is known, the database has changed since then only on the noted pages
abbrev pub AreNoted : Option Database → Changes → Database → Type 0
AreNoted None changes db = ⊤
AreNoted (Some base) changes db = Notes changes base db
