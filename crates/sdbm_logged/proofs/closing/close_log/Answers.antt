use Rattle.std.proofs.Common.{◌∙◌, List, [], ap, subst, sym}
use Rattle.sdbm_saves.specs.Acts.{Act}
use Rattle.sdbm_saves.specs.Disk.{Image}
use Rattle.sdbm_saves.specs.Redo.{files}
use Rattle.sdbm_log.specs.Log.{Holds, IsAtRest}
use Rattle.sdbm_log.specs.Steps.{acts_of, IsClosing}
use Rattle.sdbm_log.proofs.Opens.{closed_does}
use Rattle.sdbm_logged.proofs.Fewer.{rest_fewer, made}
use Rattle.sdbm_logged.proofs.closing.close_log.Goals as goal

pub make_steps-requires : goal.make_steps-requires
make_steps-requires g c =
    let seen : Image = g.D.Disk.seen c.args.disk.now in
    let may : Image → Type 0 = g.D.Disk.may_leave c.args.disk.now in
    let acts : List Act = acts_of [] c.as_slice.result.now in
    let does : IsClosing acts seen may = subst (λ (l : List Act). IsClosing l seen may) (sym (ap (λ l. acts_of [] l) c.as_slice.ensures.value ∙ c.in_ok-steps.ensures.calls []))
    (closed_does c.args.log.end c.args.log.room c.args.log.count seen may c.requires.ready) in
    does.can

pub returns-clause-rest : goal.returns-clause-rest
returns-clause-rest g c =
    let seen : Image = g.D.Disk.seen c.args.disk.now in
    let may : Image → Type 0 = g.D.Disk.may_leave c.args.disk.now in
    let acts : List Act = acts_of [] c.as_slice.result.now in
    let does : IsClosing acts seen may = subst (λ (l : List Act). IsClosing l seen may) (sym (ap (λ l. acts_of [] l) c.as_slice.ensures.value ∙ c.in_ok-steps.ensures.calls []))
    (closed_does c.args.log.end c.args.log.room c.args.log.count seen may c.requires.ready) in
    subst (λ (o : Image). IsAtRest o (g.D.Disk.may_leave c.make_steps.new.disk)) (sym c.in_ok-make_steps.ensures.seen) (rest_fewer _ (g.D.Disk.may_leave c.make_steps.new.disk) _ c.in_ok-make_steps.ensures.left does.after.0)

pub returns-clause-same : goal.returns-clause-same
returns-clause-same g c =
    let seen : Image = g.D.Disk.seen c.args.disk.now in
    let may : Image → Type 0 = g.D.Disk.may_leave c.args.disk.now in
    let acts : List Act = acts_of [] c.as_slice.result.now in
    let does : IsClosing acts seen may = subst (λ (l : List Act). IsClosing l seen may) (sym (ap (λ l. acts_of [] l) c.as_slice.ensures.value ∙ c.in_ok-steps.ensures.calls []))
    (closed_does c.args.log.end c.args.log.room c.args.log.count seen may c.requires.ready) in
    ap (λ (o : Image). files o) c.in_ok-make_steps.ensures.seen ∙ does.after.1

pub returns-clause-any_moment : goal.returns-clause-any_moment
returns-clause-any_moment g c =
    let seen : Image = g.D.Disk.seen c.args.disk.now in
    let may : Image → Type 0 = g.D.Disk.may_leave c.args.disk.now in
    let acts : List Act = acts_of [] c.as_slice.result.now in
    let does : IsClosing acts seen may = subst (λ (l : List Act). IsClosing l seen may) (sym (ap (λ l. acts_of [] l) c.as_slice.ensures.value ∙ c.in_ok-steps.ensures.calls []))
    (closed_does c.args.log.end c.args.log.room c.args.log.count seen may c.requires.ready) in
    made g.D.Disk.moment g.D.Disk.left_since g.D.Disk.may_leave acts seen c.args.disk.now c.make_steps.new.disk (λ o. Holds (files seen) o) _ does c.make_steps.ensures.any_moment

pub returns-in_err-make_steps-clause-any_moment : goal.returns-in_err-make_steps-clause-any_moment
returns-in_err-make_steps-clause-any_moment g c =
    let seen : Image = g.D.Disk.seen c.args.disk.now in
    let may : Image → Type 0 = g.D.Disk.may_leave c.args.disk.now in
    let acts : List Act = acts_of [] c.as_slice.result.now in
    let does : IsClosing acts seen may = subst (λ (l : List Act). IsClosing l seen may) (sym (ap (λ l. acts_of [] l) c.as_slice.ensures.value ∙ c.in_ok-steps.ensures.calls []))
    (closed_does c.args.log.end c.args.log.room c.args.log.count seen may c.requires.ready) in
    made g.D.Disk.moment g.D.Disk.left_since g.D.Disk.may_leave acts seen c.args.disk.now c.make_steps.new.disk (λ o. Holds (files seen) o) _ does c.make_steps.ensures.any_moment
