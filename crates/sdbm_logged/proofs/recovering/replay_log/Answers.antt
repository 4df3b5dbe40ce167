use Rattle.std.proofs.Common.{◌⊎◌, ◌∙◌, List, ap, subst, sym}
use Rattle.sdbm_saves.specs.Acts.{Act}
use Rattle.sdbm_saves.specs.Disk.{Image}
use Rattle.sdbm_saves.specs.Redo.{files}
use Rattle.sdbm_log.specs.Log.{Holds, files_of, IsAtRest}
use Rattle.sdbm_log.specs.Steps.{acts_of, IsRecovering}
use Rattle.sdbm_logged.proofs.Fewer.{rest_fewer, made}
use Rattle.sdbm_logged.proofs.Recovers.{steps_recover}
use Rattle.sdbm_logged.proofs.recovering.replay_log.Goals as goal

pub make_steps-requires : goal.make_steps-requires
make_steps-requires g c =
    let seen : Image = g.D.Disk.seen c.args.disk.now in
    let may : Image → Type 0 = g.D.Disk.may_leave c.args.disk.now in
    let acts : List Act = acts_of c.as_slice-bytes.result.now c.as_slice.result.now in
    let steps = c.in_ok-made.made in
    let is = c.in_ok-made.ensures in
    let does : IsRecovering acts seen may =
    steps_recover seen may steps.bytes.items c.as_slice-bytes.result.now steps.steps.items c.as_slice.result.now c.as_slice-bytes.ensures.value c.as_slice.ensures.value (is.can_recover seen c.requires.reads) (is.calls seen c.requires.reads) in
    does.can

pub returns-in_err-make_steps-clause-any_moment : goal.returns-in_err-make_steps-clause-any_moment
returns-in_err-make_steps-clause-any_moment g c =
    let seen : Image = g.D.Disk.seen c.args.disk.now in
    let may : Image → Type 0 = g.D.Disk.may_leave c.args.disk.now in
    let acts : List Act = acts_of c.as_slice-bytes.result.now c.as_slice.result.now in
    let steps = c.in_ok-made.made in
    let is = c.in_ok-made.ensures in
    let does : IsRecovering acts seen may =
    steps_recover seen may steps.bytes.items c.as_slice-bytes.result.now steps.steps.items c.as_slice.result.now c.as_slice-bytes.ensures.value c.as_slice.ensures.value (is.can_recover seen c.requires.reads) (is.calls seen c.requires.reads) in
    made g.D.Disk.moment g.D.Disk.left_since g.D.Disk.may_leave acts seen c.args.disk.now c.make_steps.new.disk (λ o. may o ⊎ Holds (files_of seen) o) _ does c.make_steps.ensures.any_moment

pub returns-clause-rest : goal.returns-clause-rest
returns-clause-rest g c =
    let seen : Image = g.D.Disk.seen c.args.disk.now in
    let may : Image → Type 0 = g.D.Disk.may_leave c.args.disk.now in
    let acts : List Act = acts_of c.as_slice-bytes.result.now c.as_slice.result.now in
    let steps = c.in_ok-made.made in
    let is = c.in_ok-made.ensures in
    let does : IsRecovering acts seen may =
    steps_recover seen may steps.bytes.items c.as_slice-bytes.result.now steps.steps.items c.as_slice.result.now c.as_slice-bytes.ensures.value c.as_slice.ensures.value (is.can_recover seen c.requires.reads) (is.calls seen c.requires.reads) in
    let left : Image → Type 0 = g.D.Disk.may_leave c.make_steps.new.disk in
    subst (λ (o : Image). IsAtRest o left) (sym c.in_ok-make_steps.ensures.seen) (rest_fewer _ left _ c.in_ok-make_steps.ensures.left does.after.0)

pub returns-clause-same : goal.returns-clause-same
returns-clause-same g c =
    let seen : Image = g.D.Disk.seen c.args.disk.now in
    let may : Image → Type 0 = g.D.Disk.may_leave c.args.disk.now in
    let acts : List Act = acts_of c.as_slice-bytes.result.now c.as_slice.result.now in
    let steps = c.in_ok-made.made in
    let is = c.in_ok-made.ensures in
    let does : IsRecovering acts seen may =
    steps_recover seen may steps.bytes.items c.as_slice-bytes.result.now steps.steps.items c.as_slice.result.now c.as_slice-bytes.ensures.value c.as_slice.ensures.value (is.can_recover seen c.requires.reads) (is.calls seen c.requires.reads) in
    ap (λ (o : Image). files o) c.in_ok-make_steps.ensures.seen ∙ does.after.1

pub returns-clause-any_moment : goal.returns-clause-any_moment
returns-clause-any_moment g c =
    let seen : Image = g.D.Disk.seen c.args.disk.now in
    let may : Image → Type 0 = g.D.Disk.may_leave c.args.disk.now in
    let acts : List Act = acts_of c.as_slice-bytes.result.now c.as_slice.result.now in
    let steps = c.in_ok-made.made in
    let is = c.in_ok-made.ensures in
    let does : IsRecovering acts seen may =
    steps_recover seen may steps.bytes.items c.as_slice-bytes.result.now steps.steps.items c.as_slice.result.now c.as_slice-bytes.ensures.value c.as_slice.ensures.value (is.can_recover seen c.requires.reads) (is.calls seen c.requires.reads) in
    made g.D.Disk.moment g.D.Disk.left_since g.D.Disk.may_leave acts seen c.args.disk.now c.make_steps.new.disk (λ o. may o ⊎ Holds (files_of seen) o) _ does c.make_steps.ensures.any_moment
