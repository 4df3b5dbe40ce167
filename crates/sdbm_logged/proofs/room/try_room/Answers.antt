use Rattle.sdbm_logged.proofs.Rest.{stays_moments}
use Rattle.sdbm_logged.proofs.room.try_room.Goals as goal

pub returns-in_err-try_blocks-clause-any_moment : goal.returns-in_err-try_blocks-clause-any_moment
returns-in_err-try_blocks-clause-any_moment g c =
    stays_moments g.D.Disk.moment g.D.Disk.left_since g.D.Disk.may_leave (g.D.Disk.seen c.args.disk.now) c.args.disk.now c.try_blocks.new.disk c.requires.rest c.try_blocks.ensures.any_moment

pub returns-clause-any_moment : goal.returns-clause-any_moment
returns-clause-any_moment g c =
    stays_moments g.D.Disk.moment g.D.Disk.left_since g.D.Disk.may_leave (g.D.Disk.seen c.args.disk.now) c.args.disk.now c.try_blocks.new.disk c.requires.rest c.try_blocks.ensures.any_moment
