use Rattle.sdbm_saves.proofs.Recording.{synced_seen, synced_kept, synced_left, synced_elapses}
use Rattle.sdbm_saves.proofs.recorded.RecordedDisk.sync.Goals as goal

pub returns-clause-durable : goal.returns-clause-durable
returns-clause-durable g c = synced_kept (g.H.Host.calls c.args.self.now.host) (g.H.Host.calls c.sync-outcome.new.self) c.args.file (g.F.Before.image c.args.self.now.found) g.P.Past.may_leave c.sync-outcome.result c.sync-outcome.ensures

pub returns-clause-seen : goal.returns-clause-seen
returns-clause-seen g c = synced_seen (g.H.Host.calls c.args.self.now.host) (g.H.Host.calls c.sync-outcome.new.self) c.args.file (g.F.Before.image c.args.self.now.found) g.P.Past.may_leave c.sync-outcome.result c.sync-outcome.ensures

pub returns-clause-crash : goal.returns-clause-crash
returns-clause-crash g c = synced_left (g.H.Host.calls c.args.self.now.host) (g.H.Host.calls c.sync-outcome.new.self) c.args.file (g.F.Before.image c.args.self.now.found) g.P.Past.may_leave c.sync-outcome.result c.sync-outcome.ensures

pub returns-clause-time : goal.returns-clause-time
returns-clause-time g c = synced_elapses (g.H.Host.calls c.args.self.now.host) (g.H.Host.calls c.sync-outcome.new.self) c.args.file (g.F.Before.image c.args.self.now.found) g.P.Past.may_leave c.sync-outcome.result c.sync-outcome.ensures
