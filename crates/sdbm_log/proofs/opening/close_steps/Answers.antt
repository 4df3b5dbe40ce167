use Rattle.std.proofs.Common.{◌∙◌, ap, subst, sym, List, [], ◌++◌}
use Rattle.sdbm_saves.specs.Acts.{Act}
use Rattle.sdbm_log.specs.LogRuns.{keeps, Found, IsRun}
use Rattle.sdbm_log.specs.Protocol.{close_acts}
use Rattle.sdbm_log.specs.Steps.{acts_of, IsClosing}
use Rattle.sdbm_log.proofs.LogRuns.{found_ready}
use Rattle.sdbm_log.proofs.Opens.{closed_does, closed_run}
use Rattle.sdbm_log.proofs.opening.close_steps.Goals as goal

pub returns-clause-calls : goal.returns-clause-calls
returns-clause-calls g c = λ bytes. c.in_ok-push_close.ensures bytes ∙ ap (λ l. acts_of bytes l ++ close_acts) c.new-steps.ensures.items

pub returns-clause-closes : goal.returns-clause-closes
returns-clause-closes g c = λ log seen n ready.
    subst (λ (l : List Act). IsClosing l seen (Found seen (g.C.Crashes.may_leave n))) (sym (c.in_ok-push_close.ensures [] ∙ ap (λ l. acts_of [] l ++ close_acts) c.new-steps.ensures.items))
    (closed_does log.end log.room log.count seen (Found seen (g.C.Crashes.may_leave n)) (found_ready log.end log.room log.count seen (g.C.Crashes.may_leave n) ready))

pub returns-clause-run : goal.returns-clause-run
returns-clause-run g c = λ log seen n ready.
    subst (λ (l : List Act). IsRun keeps l seen (g.C.Crashes.may_leave n)) (sym (c.in_ok-push_close.ensures [] ∙ ap (λ l. acts_of [] l ++ close_acts) c.new-steps.ensures.items))
    (closed_run log.end log.room log.count seen (g.C.Crashes.may_leave n) ready)
