use Rattle.sdbm_logged.proofs.Rest.{ready_near, rest_moments}
use Rattle.sdbm_logged.proofs.once.open_rest.Goals as goal

pub returns-in-Ok-clause-first : goal.returns-in-Ok-clause-first
returns-in-Ok-clause-first g c =
    ready_near c.in-Ok.log.end c.in-Ok.log.room c.in-Ok.log.count (g.D.Disk.seen c.open_log.new.disk) (g.D.Disk.may_leave c.open_log.new.disk) c.in-Ok.ensures.ready

pub returns-in-Ok-clause-any_moment : goal.returns-in-Ok-clause-any_moment
returns-in-Ok-clause-any_moment g c =
    rest_moments g.D.Disk.moment g.D.Disk.left_since g.D.Disk.may_leave (g.D.Disk.seen c.args.disk.now) c.args.disk.now c.open_log.new.disk c.requires.rest c.open_log.ensures.any_moment
