use Rattle.sdbm_saves.proofs.Moments.{one_call}
use Rattle.sdbm_saves.proofs.Marks.{within_self, torn_self}
use Rattle.sdbm_log.proofs.making.write.Goals as goal

pub returns-clause-any_moment : goal.returns-clause-any_moment
returns-clause-any_moment g c =
    one_call g.D.Disk.moment g.D.Disk.left_since g.D.Disk.may_leave g.met.D.Disk.only_now _ c.args.disk.now c.write_at.new.self (λ d. within_self c.args.file _ (torn_self _ _) d) c.write_at.ensures.crash c.write_at.ensures.time
