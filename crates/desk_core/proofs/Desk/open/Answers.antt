use Rattle.std.proofs.Common.{arith, ap, refl}
use Rattle.std.specs.Prelude.{is_some, count_by}
use Rattle.desk_core.proofs.Sound.{StartsWith-sound}
use Rattle.desk_core.proofs.Desk.open.Goals as goal

pub invariant_of-result : goal.invariant_of-result
invariant_of-result g c =
    let closed = ap (count_by is_some) c.new-2.ensures.empty in (
      StartsWith-sound c.args.image c.args.limit _ c.in-Ok.ensures.database
          (record { database = refl; opening = c.in-Ok.ensures.opening; entries = c.new.ensures.items; tickets = c.new-2.ensures.empty; next = c.new-2.ensures.first_key; holds = c.new-3.ensures; limit_is = refl }),
      omega arith,
    )

pub returns-clause-sound : goal.returns-clause-sound
returns-clause-sound g c =
    StartsWith-sound c.args.image c.args.limit _ c.in-Ok.ensures.database
    (record { database = refl; opening = c.in-Ok.ensures.opening; entries = c.new.ensures.items; tickets = c.new-2.ensures.empty; next = c.new-2.ensures.first_key; holds = c.new-3.ensures; limit_is = refl })
