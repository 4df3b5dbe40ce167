use Rattle.std.proofs.Common.{ℕ}
use Rattle.sdbm_log.specs.LogRuns.{Found}
use Rattle.sdbm_log.proofs.LogRuns.{found_ready}
use Rattle.sdbm_log.proofs.Opens.{closed_does, opened_does, recovered_does}
use Rattle.sdbm_log.proofs.Saves.{save_found}
use Rattle.sdbm_log.proofs.runs.all_lists.Goals as goal

pub returns-clause-saves : goal.returns-clause-saves
returns-clause-saves g c = λ log next plan commit apply seen n is_plan short calls ready knows. save_found log next plan commit apply is_plan short calls seen (g.C.Crashes.may_leave n) ready knows

pub returns-clause-opens : goal.returns-clause-opens
returns-clause-opens g c = λ image room acts n can are. opened_does image room acts can are (Found image (g.C.Crashes.may_leave n))

pub returns-clause-recovers : goal.returns-clause-recovers
returns-clause-recovers g c = λ image acts n can are. recovered_does image acts can are (Found image (g.C.Crashes.may_leave n))

pub returns-clause-closes : goal.returns-clause-closes
returns-clause-closes g c = λ log seen n ready. closed_does log.end log.room log.count seen (Found seen (g.C.Crashes.may_leave n)) (found_ready log.end log.room log.count seen (g.C.Crashes.may_leave n) ready)
