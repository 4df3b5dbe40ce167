use Rattle.sdbm_saves.proofs.Marks.{within_self, torn_self}
use Rattle.sdbm_saves.proofs.Recording.{noted_seen, noted_left, noted_time}
use Rattle.sdbm_saves.proofs.recorded.RecordedDisk.write_at.Goals as goal

pub returns-clause-written : goal.returns-clause-written
returns-clause-written g c = noted_seen (g.H.Host.calls c.args.self.now.host) (g.H.Host.calls c.write_at-outcome.new.self) _ (g.F.Before.image c.args.self.now.found) g.P.Past.may_leave c.write_at-outcome.result c.write_at-outcome.ensures

pub returns-clause-crash : goal.returns-clause-crash
returns-clause-crash g c = noted_left (g.H.Host.calls c.args.self.now.host) (g.H.Host.calls c.write_at-outcome.new.self) _ (g.F.Before.image c.args.self.now.found) g.P.Past.may_leave c.write_at-outcome.result (λ d left. (d, left, within_self c.args.file _ (torn_self c.args.at c.args.bytes.now) d)) c.write_at-outcome.ensures

pub returns-clause-time : goal.returns-clause-time
returns-clause-time g c = noted_time (g.H.Host.calls c.args.self.now.host) (g.H.Host.calls c.write_at-outcome.new.self) _ (g.F.Before.image c.args.self.now.found) g.P.Past.may_leave c.write_at-outcome.result c.write_at-outcome.ensures
