use Rattle.sdbm_logged.proofs.Rest.{ready_near}
use Rattle.sdbm_logged.proofs.keeping.save_next.Goals as goal

pub save_by-requires-clause-near : goal.save_by-requires-clause-near
save_by-requires-clause-near g c =
    let keeper = c.args.keeper.now in
    ready_near keeper.log.end keeper.log.room keeper.log.count (g.D.Disk.seen c.args.disk.now) (g.D.Disk.may_leave c.args.disk.now) c.requires.kept.ready
