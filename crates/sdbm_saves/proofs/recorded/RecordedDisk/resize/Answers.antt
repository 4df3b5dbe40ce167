use Rattle.sdbm_saves.proofs.Marks.{within_self, length_self}
use Rattle.sdbm_saves.proofs.Recording.{noted_seen, noted_left, noted_time}
use Rattle.sdbm_saves.proofs.recorded.RecordedDisk.resize.Goals as goal

pub returns-clause-resized : goal.returns-clause-resized
returns-clause-resized g c = noted_seen (g.H.Host.calls c.args.self.now.host) (g.H.Host.calls c.resize-outcome.new.self) _ (g.F.Before.image c.args.self.now.found) g.P.Past.may_leave c.resize-outcome.result c.resize-outcome.ensures

pub returns-clause-crash : goal.returns-clause-crash
returns-clause-crash g c = noted_left (g.H.Host.calls c.args.self.now.host) (g.H.Host.calls c.resize-outcome.new.self) _ (g.F.Before.image c.args.self.now.found) g.P.Past.may_leave c.resize-outcome.result (λ d left. (d, left, within_self c.args.file _ (length_self c.args.len) d)) c.resize-outcome.ensures

pub returns-clause-time : goal.returns-clause-time
returns-clause-time g c = noted_time (g.H.Host.calls c.args.self.now.host) (g.H.Host.calls c.resize-outcome.new.self) _ (g.F.Before.image c.args.self.now.found) g.P.Past.may_leave c.resize-outcome.result c.resize-outcome.ensures
