use Rattle.sdbm_log.proofs.LogRuns as law
use Rattle.sdbm_log.proofs.runs.all_runs.Goals as goal

pub returns : goal.returns
returns g c = λ runs seen was mean made. law.all_runs runs seen g.C.Crashes.may_leave was mean made
