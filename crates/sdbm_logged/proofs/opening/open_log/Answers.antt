use Rattle.std.proofs.Common.{◌⊎◌, ◌∙◌, ℕ, List, ap, subst, sym}
use Rattle.sdbm_saves.specs.Acts.{Act, seen_after}
use Rattle.sdbm_saves.specs.Disk.{Image}
use Rattle.sdbm_saves.specs.Redo.{files}
use Rattle.sdbm_log.specs.Log.{Holds, files_of, IsReady}
use Rattle.sdbm_log.specs.Steps.{acts_of, IsOpening}
use Rattle.sdbm_log.specs.declared.steps.Step.{Step}
use Rattle.sdbm_log.proofs.Opens.{opened_does}
use Rattle.sdbm_logged.proofs.Fewer.{ready_fewer, made}
use Rattle.sdbm_logged.proofs.opening.open_log.Goals as goal

pub make_steps-requires : goal.make_steps-requires
make_steps-requires g c =
    let seen : Image = g.D.Disk.seen c.args.disk.now in
    let may : Image → Type 0 = g.D.Disk.may_leave c.args.disk.now in
    let log = c.in_ok-opened.opened.log in
    let acts : List Act = acts_of c.as_slice-bytes.result.now c.as_slice.result.now in
    let is = c.in_ok-opened.ensures in
    let plain : IsOpening (acts_of c.in_ok-opened.opened.bytes.items c.in_ok-opened.opened.steps.items) 0 log.room 0 seen may = opened_does seen log.room _ (is.can_recover seen c.requires.reads) (is.calls seen c.requires.reads) may in
    let does : IsOpening acts 0 log.room 0 seen may =
    subst (λ (l : List ℕ). IsOpening (acts_of l c.as_slice.result.now) 0 log.room 0 seen may) (sym c.as_slice-bytes.ensures.value)
    (subst (λ (l : List Step). IsOpening (acts_of c.in_ok-opened.opened.bytes.items l) 0 log.room 0 seen may) (sym c.as_slice.ensures.value) plain) in
    does.can

pub returns-in_err-make_steps-clause-any_moment : goal.returns-in_err-make_steps-clause-any_moment
returns-in_err-make_steps-clause-any_moment g c =
    let seen : Image = g.D.Disk.seen c.args.disk.now in
    let may : Image → Type 0 = g.D.Disk.may_leave c.args.disk.now in
    let log = c.in_ok-opened.opened.log in
    let acts : List Act = acts_of c.as_slice-bytes.result.now c.as_slice.result.now in
    let is = c.in_ok-opened.ensures in
    let plain : IsOpening (acts_of c.in_ok-opened.opened.bytes.items c.in_ok-opened.opened.steps.items) 0 log.room 0 seen may = opened_does seen log.room _ (is.can_recover seen c.requires.reads) (is.calls seen c.requires.reads) may in
    let does : IsOpening acts 0 log.room 0 seen may =
    subst (λ (l : List ℕ). IsOpening (acts_of l c.as_slice.result.now) 0 log.room 0 seen may) (sym c.as_slice-bytes.ensures.value)
    (subst (λ (l : List Step). IsOpening (acts_of c.in_ok-opened.opened.bytes.items l) 0 log.room 0 seen may) (sym c.as_slice.ensures.value) plain) in
    made g.D.Disk.moment g.D.Disk.left_since g.D.Disk.may_leave acts seen c.args.disk.now c.make_steps.new.disk (λ o. may o ⊎ Holds (files_of seen) o) _ does c.make_steps.ensures.any_moment

pub returns-clause-ready : goal.returns-clause-ready
returns-clause-ready g c =
    let seen : Image = g.D.Disk.seen c.args.disk.now in
    let may : Image → Type 0 = g.D.Disk.may_leave c.args.disk.now in
    let log = c.in_ok-opened.opened.log in
    let acts : List Act = acts_of c.as_slice-bytes.result.now c.as_slice.result.now in
    let is = c.in_ok-opened.ensures in
    let plain : IsOpening (acts_of c.in_ok-opened.opened.bytes.items c.in_ok-opened.opened.steps.items) 0 log.room 0 seen may = opened_does seen log.room _ (is.can_recover seen c.requires.reads) (is.calls seen c.requires.reads) may in
    let does : IsOpening acts 0 log.room 0 seen may =
    subst (λ (l : List ℕ). IsOpening (acts_of l c.as_slice.result.now) 0 log.room 0 seen may) (sym c.as_slice-bytes.ensures.value)
    (subst (λ (l : List Step). IsOpening (acts_of c.in_ok-opened.opened.bytes.items l) 0 log.room 0 seen may) (sym c.as_slice.ensures.value) plain) in
    let left : Image → Type 0 = g.D.Disk.may_leave c.make_steps.new.disk in
    subst (λ (o : Image). IsReady log.end log.room log.count o left) (sym c.in_ok-make_steps.ensures.seen)
    (subst (λ k. IsReady k log.room log.count (seen_after acts seen) left) (sym is.log.0)
    (subst (λ k. IsReady 0 log.room k (seen_after acts seen) left) (sym is.log.1.0)
    (ready_fewer 0 log.room 0 (seen_after acts seen) left _ c.in_ok-make_steps.ensures.left does.after.0)))

pub returns-clause-same : goal.returns-clause-same
returns-clause-same g c =
    let seen : Image = g.D.Disk.seen c.args.disk.now in
    let may : Image → Type 0 = g.D.Disk.may_leave c.args.disk.now in
    let log = c.in_ok-opened.opened.log in
    let acts : List Act = acts_of c.as_slice-bytes.result.now c.as_slice.result.now in
    let is = c.in_ok-opened.ensures in
    let plain : IsOpening (acts_of c.in_ok-opened.opened.bytes.items c.in_ok-opened.opened.steps.items) 0 log.room 0 seen may = opened_does seen log.room _ (is.can_recover seen c.requires.reads) (is.calls seen c.requires.reads) may in
    let does : IsOpening acts 0 log.room 0 seen may =
    subst (λ (l : List ℕ). IsOpening (acts_of l c.as_slice.result.now) 0 log.room 0 seen may) (sym c.as_slice-bytes.ensures.value)
    (subst (λ (l : List Step). IsOpening (acts_of c.in_ok-opened.opened.bytes.items l) 0 log.room 0 seen may) (sym c.as_slice.ensures.value) plain) in
    ap (λ (o : Image). files o) c.in_ok-make_steps.ensures.seen ∙ does.after.1

pub returns-clause-any_moment : goal.returns-clause-any_moment
returns-clause-any_moment g c =
    let seen : Image = g.D.Disk.seen c.args.disk.now in
    let may : Image → Type 0 = g.D.Disk.may_leave c.args.disk.now in
    let log = c.in_ok-opened.opened.log in
    let acts : List Act = acts_of c.as_slice-bytes.result.now c.as_slice.result.now in
    let is = c.in_ok-opened.ensures in
    let plain : IsOpening (acts_of c.in_ok-opened.opened.bytes.items c.in_ok-opened.opened.steps.items) 0 log.room 0 seen may = opened_does seen log.room _ (is.can_recover seen c.requires.reads) (is.calls seen c.requires.reads) may in
    let does : IsOpening acts 0 log.room 0 seen may =
    subst (λ (l : List ℕ). IsOpening (acts_of l c.as_slice.result.now) 0 log.room 0 seen may) (sym c.as_slice-bytes.ensures.value)
    (subst (λ (l : List Step). IsOpening (acts_of c.in_ok-opened.opened.bytes.items l) 0 log.room 0 seen may) (sym c.as_slice.ensures.value) plain) in
    made g.D.Disk.moment g.D.Disk.left_since g.D.Disk.may_leave acts seen c.args.disk.now c.make_steps.new.disk (λ o. may o ⊎ Holds (files_of seen) o) _ does c.make_steps.ensures.any_moment
