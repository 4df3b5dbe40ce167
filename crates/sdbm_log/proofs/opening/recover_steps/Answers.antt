use Rattle.std.proofs.Common.{rules, ◌≡◌, ℕ, List}
use Rattle.sdbm_log.specs.Log.{CanRecover}
use Rattle.sdbm_log.specs.LogRuns.{Found}
use Rattle.sdbm_log.specs.Saving.{image_in}
use Rattle.sdbm_log.proofs.Opens.{recovered_does, recovered_run, reads_can, reads_recover}
use Rattle.sdbm_log.proofs.opening.recover_steps.Goals as goal

pub returns-clause-calls : goal.returns-clause-calls
returns-clause-calls g c = λ image reads. reads_recover c.args.files image reads _ c.in_ok-recover_for.ensures

pub returns-clause-can_recover : goal.returns-clause-can_recover
returns-clause-can_recover g c = λ image reads.
    let can : CanRecover (image_in c.args.files) = search rules in
    reads_can c.args.files image reads can

pub returns-clause-recovers : goal.returns-clause-recovers
returns-clause-recovers g c = λ image n reads.
    let can : CanRecover (image_in c.args.files) = search rules in
    recovered_does image _ (reads_can c.args.files image reads can) (reads_recover c.args.files image reads _ c.in_ok-recover_for.ensures) (Found image (g.C.Crashes.may_leave n))

pub returns-clause-run : goal.returns-clause-run
returns-clause-run g c = λ image n reads.
    let can : CanRecover (image_in c.args.files) = search rules in
    recovered_run image _ (reads_can c.args.files image reads can) (reads_recover c.args.files image reads _ c.in_ok-recover_for.ensures) (g.C.Crashes.may_leave n)
