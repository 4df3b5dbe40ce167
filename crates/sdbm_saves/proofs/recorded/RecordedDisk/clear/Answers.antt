use Rattle.std.proofs.Common.{inl, refl}
use Rattle.sdbm_saves.specs.declared.disk.DiskFile.TheVariants.{Redo}
use Rattle.sdbm_saves.proofs.Marks.{within_self}
use Rattle.sdbm_saves.proofs.Recording.{noted_seen, noted_left, noted_time}
use Rattle.sdbm_saves.proofs.recorded.RecordedDisk.clear.Goals as goal

pub returns-clause-cleared : goal.returns-clause-cleared
returns-clause-cleared g c = noted_seen (g.H.Host.calls c.args.self.now.host) (g.H.Host.calls c.clear-outcome.new.self) _ (g.F.Before.image c.args.self.now.found) g.P.Past.may_leave c.clear-outcome.result c.clear-outcome.ensures

pub returns-clause-crash : goal.returns-clause-crash
returns-clause-crash g c = noted_left (g.H.Host.calls c.args.self.now.host) (g.H.Host.calls c.clear-outcome.new.self) _ (g.F.Before.image c.args.self.now.found) g.P.Past.may_leave c.clear-outcome.result (λ d left. (d, left, within_self Redo _ (λ x. inl refl) d)) c.clear-outcome.ensures

pub returns-clause-time : goal.returns-clause-time
returns-clause-time g c = noted_time (g.H.Host.calls c.args.self.now.host) (g.H.Host.calls c.clear-outcome.new.self) _ (g.F.Before.image c.args.self.now.found) g.P.Past.may_leave c.clear-outcome.result c.clear-outcome.ensures
