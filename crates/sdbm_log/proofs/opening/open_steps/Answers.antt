use Rattle.std.proofs.Common.{rules, sym, subst}
use Rattle.sdbm_log.specs.Log.{CanRecover}
use Rattle.sdbm_log.specs.LogRuns.{Found}
use Rattle.sdbm_log.specs.Saving.{image_in}
use Rattle.sdbm_log.specs.Steps.{acts_of, IsOpening}
use Rattle.sdbm_log.proofs.Opens.{opened_does, opened_run, reads_calls, reads_can}
use Rattle.sdbm_log.proofs.opening.open_steps.Goals as goal

pub returns-clause-calls : goal.returns-clause-calls
returns-clause-calls g c = λ image reads. reads_calls c.args.files image reads c.in_ok-steps_for.field-0.log.room _ c.in_ok-steps_for.ensures.calls

pub returns-clause-can_recover : goal.returns-clause-can_recover
returns-clause-can_recover g c = λ image reads.
    let can : CanRecover (image_in c.args.files) = search rules in
    reads_can c.args.files image reads can

pub returns-clause-opens : goal.returns-clause-opens
returns-clause-opens g c = λ image n reads.
    let can : CanRecover (image_in c.args.files) = search rules in
    let is = c.in_ok-steps_for.ensures in
    let made = c.in_ok-steps_for.field-0 in
    subst (λ k. IsOpening (acts_of made.bytes.items made.steps.items) k made.log.room made.log.count image (Found image (g.C.Crashes.may_leave n))) (sym is.log.0)
    (subst (λ k. IsOpening (acts_of made.bytes.items made.steps.items) 0 made.log.room k image (Found image (g.C.Crashes.may_leave n))) (sym is.log.1.0)
    (opened_does image made.log.room (acts_of made.bytes.items made.steps.items) (reads_can c.args.files image reads can) (reads_calls c.args.files image reads made.log.room _ is.calls) (Found image (g.C.Crashes.may_leave n))))

pub returns-clause-run : goal.returns-clause-run
returns-clause-run g c = λ image n reads.
    let can : CanRecover (image_in c.args.files) = search rules in
    let made = c.in_ok-steps_for.field-0 in
    opened_run image made.log.room (acts_of made.bytes.items made.steps.items) (reads_can c.args.files image reads can) (reads_calls c.args.files image reads made.log.room _ c.in_ok-steps_for.ensures.calls) (g.C.Crashes.may_leave n)
