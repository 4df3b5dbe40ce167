use Rattle.std.proofs.Common.{◌≡◌, ◌⊎◌, inr, ◌∙◌, ℕ, List, ap, subst, sym, arith}
use Rattle.sdbm_saves.specs.Acts.{Act, seen_after, LeftAfter}
use Rattle.sdbm_saves.specs.Disk.{Image}
use Rattle.sdbm_saves.specs.Redo.{files, renewed_files}
use Rattle.sdbm_log.specs.Doing.{Does}
use Rattle.sdbm_log.specs.Log.{Holds, IsReady}
use Rattle.sdbm_log.specs.Saving.{AreSaveCalls}
use Rattle.sdbm_log.specs.Steps.{acts_of, IsSave}
use Rattle.sdbm_log.specs.declared.steps.Step.{Step}
use Rattle.sdbm_saves.proofs.Moments.{then_on, weaker}
use Rattle.sdbm_log.proofs.Saves.{save_does}
use Rattle.sdbm_logged.proofs.Fewer.{does_fewer, ready_fewer, made}
use Rattle.sdbm_logged.proofs.saving.save_by.Goals as goal

pub make_steps-requires : goal.make_steps-requires
make_steps-requires g c =
    let seen : Image = g.D.Disk.seen c.args.disk.now in
    let may : Image → Type 0 = g.D.Disk.may_leave c.args.disk.now in
    let plan : List ℕ = c.args.plan.now in
    let next = c.in_ok-save.save.log in
    let bytes : List ℕ = c.as_slice-bytes.result.now in
    let commit : List Act = acts_of bytes c.as_slice.result.now in
    let apply : List Act = acts_of bytes c.in_ok-save.save.apply.items in
    let calls : AreSaveCalls c.args.log.now next plan commit apply =
    subst (λ (l : List Step). AreSaveCalls c.args.log.now next plan (acts_of bytes l) apply) (sym c.as_slice.ensures.value)
    (subst (λ (l : List ℕ). AreSaveCalls c.args.log.now next plan (acts_of l c.in_ok-save.save.commit.items) (acts_of l c.in_ok-save.save.apply.items)) (sym c.as_slice-bytes.ensures.value) c.in_ok-save.ensures.calls) in
    let is : IsSave plan commit apply next.end next.room next.count seen may = save_does c.args.log.now next plan commit apply c.requires.plan (omega (arith, c.requires.short)) calls seen may c.requires.ready c.requires.knows in
    let P : Image → Type 0 = λ o. Holds (files seen) o ⊎ Holds (renewed_files plan seen) o in
    is.commits.can

pub returns-in_err-make_steps-clause-any_moment : goal.returns-in_err-make_steps-clause-any_moment
returns-in_err-make_steps-clause-any_moment g c =
    let seen : Image = g.D.Disk.seen c.args.disk.now in
    let may : Image → Type 0 = g.D.Disk.may_leave c.args.disk.now in
    let plan : List ℕ = c.args.plan.now in
    let next = c.in_ok-save.save.log in
    let bytes : List ℕ = c.as_slice-bytes.result.now in
    let commit : List Act = acts_of bytes c.as_slice.result.now in
    let apply : List Act = acts_of bytes c.in_ok-save.save.apply.items in
    let calls : AreSaveCalls c.args.log.now next plan commit apply =
    subst (λ (l : List Step). AreSaveCalls c.args.log.now next plan (acts_of bytes l) apply) (sym c.as_slice.ensures.value)
    (subst (λ (l : List ℕ). AreSaveCalls c.args.log.now next plan (acts_of l c.in_ok-save.save.commit.items) (acts_of l c.in_ok-save.save.apply.items)) (sym c.as_slice-bytes.ensures.value) c.in_ok-save.ensures.calls) in
    let is : IsSave plan commit apply next.end next.room next.count seen may = save_does c.args.log.now next plan commit apply c.requires.plan (omega (arith, c.requires.short)) calls seen may c.requires.ready c.requires.knows in
    let P : Image → Type 0 = λ o. Holds (files seen) o ⊎ Holds (renewed_files plan seen) o in
    made g.D.Disk.moment g.D.Disk.left_since g.D.Disk.may_leave commit seen c.args.disk.now c.make_steps.new.disk P _ is.commits c.make_steps.ensures.any_moment

pub make_steps-requires-2 : goal.make_steps-requires-2
make_steps-requires-2 g c =
    let seen : Image = g.D.Disk.seen c.args.disk.now in
    let may : Image → Type 0 = g.D.Disk.may_leave c.args.disk.now in
    let plan : List ℕ = c.args.plan.now in
    let next = c.in_ok-save.save.log in
    let bytes : List ℕ = c.as_slice-bytes.result.now in
    let commit : List Act = acts_of bytes c.as_slice.result.now in
    let apply : List Act = acts_of bytes c.in_ok-save.save.apply.items in
    let calls : AreSaveCalls c.args.log.now next plan commit apply =
    subst (λ (l : List Step). AreSaveCalls c.args.log.now next plan (acts_of bytes l) apply) (sym c.as_slice.ensures.value)
    (subst (λ (l : List ℕ). AreSaveCalls c.args.log.now next plan (acts_of l c.in_ok-save.save.commit.items) (acts_of l c.in_ok-save.save.apply.items)) (sym c.as_slice-bytes.ensures.value) c.in_ok-save.ensures.calls) in
    let is : IsSave plan commit apply next.end next.room next.count seen may = save_does c.args.log.now next plan commit apply c.requires.plan (omega (arith, c.requires.short)) calls seen may c.requires.ready c.requires.knows in
    let P : Image → Type 0 = λ o. Holds (files seen) o ⊎ Holds (renewed_files plan seen) o in
    let mid : Image = g.D.Disk.seen c.make_steps.new.disk in
    let rest : List Act = acts_of bytes c.as_slice-2.result.now in
    let both : List ℕ × List ℕ = renewed_files plan seen in
    let Q : Image → (Image → Type 0) → Type 0 = λ s m. IsReady next.end next.room next.count s m × (files s ≡ both) in
    let applies : Does rest (seen_after commit seen) (LeftAfter commit seen may) (λ o. Holds both o) Q =
    subst (λ (l : List Step). Does (acts_of bytes l) (seen_after commit seen) (LeftAfter commit seen may) (λ o. Holds both o) Q) (sym c.as_slice-2.ensures.value) is.applies in
    let second : Does rest mid (g.D.Disk.may_leave c.make_steps.new.disk) (λ o. Holds both o) Q =
    does_fewer rest (seen_after commit seen) mid (g.D.Disk.may_leave c.make_steps.new.disk) (LeftAfter commit seen may) (λ o. Holds both o) Q c.in_ok-make_steps.ensures.seen c.in_ok-make_steps.ensures.left
    (λ s a b more q. (ready_fewer next.end next.room next.count s a b more q.0, q.1)) applies in
    second.can

pub returns-in-Ok-clause-ready : goal.returns-in-Ok-clause-ready
returns-in-Ok-clause-ready g c = λ _.
    let seen : Image = g.D.Disk.seen c.args.disk.now in
    let may : Image → Type 0 = g.D.Disk.may_leave c.args.disk.now in
    let plan : List ℕ = c.args.plan.now in
    let next = c.in_ok-save.save.log in
    let bytes : List ℕ = c.as_slice-bytes.result.now in
    let commit : List Act = acts_of bytes c.as_slice.result.now in
    let apply : List Act = acts_of bytes c.in_ok-save.save.apply.items in
    let calls : AreSaveCalls c.args.log.now next plan commit apply =
    subst (λ (l : List Step). AreSaveCalls c.args.log.now next plan (acts_of bytes l) apply) (sym c.as_slice.ensures.value)
    (subst (λ (l : List ℕ). AreSaveCalls c.args.log.now next plan (acts_of l c.in_ok-save.save.commit.items) (acts_of l c.in_ok-save.save.apply.items)) (sym c.as_slice-bytes.ensures.value) c.in_ok-save.ensures.calls) in
    let is : IsSave plan commit apply next.end next.room next.count seen may = save_does c.args.log.now next plan commit apply c.requires.plan (omega (arith, c.requires.short)) calls seen may c.requires.ready c.requires.knows in
    let P : Image → Type 0 = λ o. Holds (files seen) o ⊎ Holds (renewed_files plan seen) o in
    let mid : Image = g.D.Disk.seen c.make_steps.new.disk in
    let rest : List Act = acts_of bytes c.as_slice-2.result.now in
    let both : List ℕ × List ℕ = renewed_files plan seen in
    let Q : Image → (Image → Type 0) → Type 0 = λ s m. IsReady next.end next.room next.count s m × (files s ≡ both) in
    let applies : Does rest (seen_after commit seen) (LeftAfter commit seen may) (λ o. Holds both o) Q =
    subst (λ (l : List Step). Does (acts_of bytes l) (seen_after commit seen) (LeftAfter commit seen may) (λ o. Holds both o) Q) (sym c.as_slice-2.ensures.value) is.applies in
    let second : Does rest mid (g.D.Disk.may_leave c.make_steps.new.disk) (λ o. Holds both o) Q =
    does_fewer rest (seen_after commit seen) mid (g.D.Disk.may_leave c.make_steps.new.disk) (LeftAfter commit seen may) (λ o. Holds both o) Q c.in_ok-make_steps.ensures.seen c.in_ok-make_steps.ensures.left
    (λ s a b more q. (ready_fewer next.end next.room next.count s a b more q.0, q.1)) applies in
    subst (λ (o : Image). IsReady next.end next.room next.count o (g.D.Disk.may_leave c.make_steps-2.new.disk)) (sym c.in-Ok.ensures.seen)
    (ready_fewer next.end next.room next.count (seen_after rest mid) (g.D.Disk.may_leave c.make_steps-2.new.disk) (LeftAfter rest mid (g.D.Disk.may_leave c.make_steps.new.disk)) c.in-Ok.ensures.left second.after.0)

pub returns-in-Ok-clause-done : goal.returns-in-Ok-clause-done
returns-in-Ok-clause-done g c = λ _.
    let seen : Image = g.D.Disk.seen c.args.disk.now in
    let may : Image → Type 0 = g.D.Disk.may_leave c.args.disk.now in
    let plan : List ℕ = c.args.plan.now in
    let next = c.in_ok-save.save.log in
    let bytes : List ℕ = c.as_slice-bytes.result.now in
    let commit : List Act = acts_of bytes c.as_slice.result.now in
    let apply : List Act = acts_of bytes c.in_ok-save.save.apply.items in
    let calls : AreSaveCalls c.args.log.now next plan commit apply =
    subst (λ (l : List Step). AreSaveCalls c.args.log.now next plan (acts_of bytes l) apply) (sym c.as_slice.ensures.value)
    (subst (λ (l : List ℕ). AreSaveCalls c.args.log.now next plan (acts_of l c.in_ok-save.save.commit.items) (acts_of l c.in_ok-save.save.apply.items)) (sym c.as_slice-bytes.ensures.value) c.in_ok-save.ensures.calls) in
    let is : IsSave plan commit apply next.end next.room next.count seen may = save_does c.args.log.now next plan commit apply c.requires.plan (omega (arith, c.requires.short)) calls seen may c.requires.ready c.requires.knows in
    let P : Image → Type 0 = λ o. Holds (files seen) o ⊎ Holds (renewed_files plan seen) o in
    let mid : Image = g.D.Disk.seen c.make_steps.new.disk in
    let rest : List Act = acts_of bytes c.as_slice-2.result.now in
    let both : List ℕ × List ℕ = renewed_files plan seen in
    let Q : Image → (Image → Type 0) → Type 0 = λ s m. IsReady next.end next.room next.count s m × (files s ≡ both) in
    let applies : Does rest (seen_after commit seen) (LeftAfter commit seen may) (λ o. Holds both o) Q =
    subst (λ (l : List Step). Does (acts_of bytes l) (seen_after commit seen) (LeftAfter commit seen may) (λ o. Holds both o) Q) (sym c.as_slice-2.ensures.value) is.applies in
    let second : Does rest mid (g.D.Disk.may_leave c.make_steps.new.disk) (λ o. Holds both o) Q =
    does_fewer rest (seen_after commit seen) mid (g.D.Disk.may_leave c.make_steps.new.disk) (LeftAfter commit seen may) (λ o. Holds both o) Q c.in_ok-make_steps.ensures.seen c.in_ok-make_steps.ensures.left
    (λ s a b more q. (ready_fewer next.end next.room next.count s a b more q.0, q.1)) applies in
    ap (λ (o : Image). files o) c.in-Ok.ensures.seen ∙ second.after.1

pub returns-in-Ok-clause-durable : goal.returns-in-Ok-clause-durable
returns-in-Ok-clause-durable g c =
    let seen : Image = g.D.Disk.seen c.args.disk.now in
    let may : Image → Type 0 = g.D.Disk.may_leave c.args.disk.now in
    let plan : List ℕ = c.args.plan.now in
    let next = c.in_ok-save.save.log in
    let bytes : List ℕ = c.as_slice-bytes.result.now in
    let commit : List Act = acts_of bytes c.as_slice.result.now in
    let apply : List Act = acts_of bytes c.in_ok-save.save.apply.items in
    let calls : AreSaveCalls c.args.log.now next plan commit apply =
    subst (λ (l : List Step). AreSaveCalls c.args.log.now next plan (acts_of bytes l) apply) (sym c.as_slice.ensures.value)
    (subst (λ (l : List ℕ). AreSaveCalls c.args.log.now next plan (acts_of l c.in_ok-save.save.commit.items) (acts_of l c.in_ok-save.save.apply.items)) (sym c.as_slice-bytes.ensures.value) c.in_ok-save.ensures.calls) in
    let is : IsSave plan commit apply next.end next.room next.count seen may = save_does c.args.log.now next plan commit apply c.requires.plan (omega (arith, c.requires.short)) calls seen may c.requires.ready c.requires.knows in
    let P : Image → Type 0 = λ o. Holds (files seen) o ⊎ Holds (renewed_files plan seen) o in
    let mid : Image = g.D.Disk.seen c.make_steps.new.disk in
    let rest : List Act = acts_of bytes c.as_slice-2.result.now in
    let both : List ℕ × List ℕ = renewed_files plan seen in
    let Q : Image → (Image → Type 0) → Type 0 = λ s m. IsReady next.end next.room next.count s m × (files s ≡ both) in
    let applies : Does rest (seen_after commit seen) (LeftAfter commit seen may) (λ o. Holds both o) Q =
    subst (λ (l : List Step). Does (acts_of bytes l) (seen_after commit seen) (LeftAfter commit seen may) (λ o. Holds both o) Q) (sym c.as_slice-2.ensures.value) is.applies in
    let second : Does rest mid (g.D.Disk.may_leave c.make_steps.new.disk) (λ o. Holds both o) Q =
    does_fewer rest (seen_after commit seen) mid (g.D.Disk.may_leave c.make_steps.new.disk) (LeftAfter commit seen may) (λ o. Holds both o) Q c.in_ok-make_steps.ensures.seen c.in_ok-make_steps.ensures.left
    (λ s a b more q. (ready_fewer next.end next.room next.count s a b more q.0, q.1)) applies in
    let doing = made g.D.Disk.moment g.D.Disk.left_since g.D.Disk.may_leave rest mid c.make_steps.new.disk c.make_steps-2.new.disk (λ o. Holds both o) Q second c.make_steps-2.ensures.any_moment in
    λ o now. doing.each o (g.met.D.Disk.counts_now c.make_steps-2.new.disk (g.D.Disk.moment c.make_steps.new.disk) o doing.later now)

pub returns-clause-durable : goal.returns-clause-durable
returns-clause-durable g c =
    let seen : Image = g.D.Disk.seen c.args.disk.now in
    let may : Image → Type 0 = g.D.Disk.may_leave c.args.disk.now in
    let plan : List ℕ = c.args.plan.now in
    let next = c.in_ok-save.save.log in
    let bytes : List ℕ = c.as_slice-bytes.result.now in
    let commit : List Act = acts_of bytes c.as_slice.result.now in
    let apply : List Act = acts_of bytes c.in_ok-save.save.apply.items in
    let calls : AreSaveCalls c.args.log.now next plan commit apply =
    subst (λ (l : List Step). AreSaveCalls c.args.log.now next plan (acts_of bytes l) apply) (sym c.as_slice.ensures.value)
    (subst (λ (l : List ℕ). AreSaveCalls c.args.log.now next plan (acts_of l c.in_ok-save.save.commit.items) (acts_of l c.in_ok-save.save.apply.items)) (sym c.as_slice-bytes.ensures.value) c.in_ok-save.ensures.calls) in
    let is : IsSave plan commit apply next.end next.room next.count seen may = save_does c.args.log.now next plan commit apply c.requires.plan (omega (arith, c.requires.short)) calls seen may c.requires.ready c.requires.knows in
    let P : Image → Type 0 = λ o. Holds (files seen) o ⊎ Holds (renewed_files plan seen) o in
    let mid : Image = g.D.Disk.seen c.make_steps.new.disk in
    let rest : List Act = acts_of bytes c.as_slice-2.result.now in
    let both : List ℕ × List ℕ = renewed_files plan seen in
    let Q : Image → (Image → Type 0) → Type 0 = λ s m. IsReady next.end next.room next.count s m × (files s ≡ both) in
    let applies : Does rest (seen_after commit seen) (LeftAfter commit seen may) (λ o. Holds both o) Q =
    subst (λ (l : List Step). Does (acts_of bytes l) (seen_after commit seen) (LeftAfter commit seen may) (λ o. Holds both o) Q) (sym c.as_slice-2.ensures.value) is.applies in
    let second : Does rest mid (g.D.Disk.may_leave c.make_steps.new.disk) (λ o. Holds both o) Q =
    does_fewer rest (seen_after commit seen) mid (g.D.Disk.may_leave c.make_steps.new.disk) (LeftAfter commit seen may) (λ o. Holds both o) Q c.in_ok-make_steps.ensures.seen c.in_ok-make_steps.ensures.left
    (λ s a b more q. (ready_fewer next.end next.room next.count s a b more q.0, q.1)) applies in
    let doing = made g.D.Disk.moment g.D.Disk.left_since g.D.Disk.may_leave rest mid c.make_steps.new.disk c.make_steps-2.new.disk (λ o. Holds both o) Q second c.make_steps-2.ensures.any_moment in
    λ o now. doing.each o (g.met.D.Disk.counts_now c.make_steps-2.new.disk (g.D.Disk.moment c.make_steps.new.disk) o doing.later now)

pub returns-in-Ok-clause-any_moment : goal.returns-in-Ok-clause-any_moment
returns-in-Ok-clause-any_moment g c =
    let seen : Image = g.D.Disk.seen c.args.disk.now in
    let may : Image → Type 0 = g.D.Disk.may_leave c.args.disk.now in
    let plan : List ℕ = c.args.plan.now in
    let next = c.in_ok-save.save.log in
    let bytes : List ℕ = c.as_slice-bytes.result.now in
    let commit : List Act = acts_of bytes c.as_slice.result.now in
    let apply : List Act = acts_of bytes c.in_ok-save.save.apply.items in
    let calls : AreSaveCalls c.args.log.now next plan commit apply =
    subst (λ (l : List Step). AreSaveCalls c.args.log.now next plan (acts_of bytes l) apply) (sym c.as_slice.ensures.value)
    (subst (λ (l : List ℕ). AreSaveCalls c.args.log.now next plan (acts_of l c.in_ok-save.save.commit.items) (acts_of l c.in_ok-save.save.apply.items)) (sym c.as_slice-bytes.ensures.value) c.in_ok-save.ensures.calls) in
    let is : IsSave plan commit apply next.end next.room next.count seen may = save_does c.args.log.now next plan commit apply c.requires.plan (omega (arith, c.requires.short)) calls seen may c.requires.ready c.requires.knows in
    let P : Image → Type 0 = λ o. Holds (files seen) o ⊎ Holds (renewed_files plan seen) o in
    let mid : Image = g.D.Disk.seen c.make_steps.new.disk in
    let rest : List Act = acts_of bytes c.as_slice-2.result.now in
    let both : List ℕ × List ℕ = renewed_files plan seen in
    let Q : Image → (Image → Type 0) → Type 0 = λ s m. IsReady next.end next.room next.count s m × (files s ≡ both) in
    let applies : Does rest (seen_after commit seen) (LeftAfter commit seen may) (λ o. Holds both o) Q =
    subst (λ (l : List Step). Does (acts_of bytes l) (seen_after commit seen) (LeftAfter commit seen may) (λ o. Holds both o) Q) (sym c.as_slice-2.ensures.value) is.applies in
    let second : Does rest mid (g.D.Disk.may_leave c.make_steps.new.disk) (λ o. Holds both o) Q =
    does_fewer rest (seen_after commit seen) mid (g.D.Disk.may_leave c.make_steps.new.disk) (LeftAfter commit seen may) (λ o. Holds both o) Q c.in_ok-make_steps.ensures.seen c.in_ok-make_steps.ensures.left
    (λ s a b more q. (ready_fewer next.end next.room next.count s a b more q.0, q.1)) applies in
    let doing = made g.D.Disk.moment g.D.Disk.left_since g.D.Disk.may_leave rest mid c.make_steps.new.disk c.make_steps-2.new.disk (λ o. Holds both o) Q second c.make_steps-2.ensures.any_moment in
    then_on g.D.Disk.moment g.D.Disk.left_since g.D.Disk.may_leave c.args.disk.now c.make_steps.new.disk c.make_steps-2.new.disk P
    (made g.D.Disk.moment g.D.Disk.left_since g.D.Disk.may_leave commit seen c.args.disk.now c.make_steps.new.disk P _ is.commits c.make_steps.ensures.any_moment)
    (weaker g.D.Disk.moment g.D.Disk.left_since g.D.Disk.may_leave c.make_steps.new.disk c.make_steps-2.new.disk (λ o. Holds both o) P (λ o holds. inr holds) doing)

pub returns-clause-any_moment : goal.returns-clause-any_moment
returns-clause-any_moment g c =
    let seen : Image = g.D.Disk.seen c.args.disk.now in
    let may : Image → Type 0 = g.D.Disk.may_leave c.args.disk.now in
    let plan : List ℕ = c.args.plan.now in
    let next = c.in_ok-save.save.log in
    let bytes : List ℕ = c.as_slice-bytes.result.now in
    let commit : List Act = acts_of bytes c.as_slice.result.now in
    let apply : List Act = acts_of bytes c.in_ok-save.save.apply.items in
    let calls : AreSaveCalls c.args.log.now next plan commit apply =
    subst (λ (l : List Step). AreSaveCalls c.args.log.now next plan (acts_of bytes l) apply) (sym c.as_slice.ensures.value)
    (subst (λ (l : List ℕ). AreSaveCalls c.args.log.now next plan (acts_of l c.in_ok-save.save.commit.items) (acts_of l c.in_ok-save.save.apply.items)) (sym c.as_slice-bytes.ensures.value) c.in_ok-save.ensures.calls) in
    let is : IsSave plan commit apply next.end next.room next.count seen may = save_does c.args.log.now next plan commit apply c.requires.plan (omega (arith, c.requires.short)) calls seen may c.requires.ready c.requires.knows in
    let P : Image → Type 0 = λ o. Holds (files seen) o ⊎ Holds (renewed_files plan seen) o in
    let mid : Image = g.D.Disk.seen c.make_steps.new.disk in
    let rest : List Act = acts_of bytes c.as_slice-2.result.now in
    let both : List ℕ × List ℕ = renewed_files plan seen in
    let Q : Image → (Image → Type 0) → Type 0 = λ s m. IsReady next.end next.room next.count s m × (files s ≡ both) in
    let applies : Does rest (seen_after commit seen) (LeftAfter commit seen may) (λ o. Holds both o) Q =
    subst (λ (l : List Step). Does (acts_of bytes l) (seen_after commit seen) (LeftAfter commit seen may) (λ o. Holds both o) Q) (sym c.as_slice-2.ensures.value) is.applies in
    let second : Does rest mid (g.D.Disk.may_leave c.make_steps.new.disk) (λ o. Holds both o) Q =
    does_fewer rest (seen_after commit seen) mid (g.D.Disk.may_leave c.make_steps.new.disk) (LeftAfter commit seen may) (λ o. Holds both o) Q c.in_ok-make_steps.ensures.seen c.in_ok-make_steps.ensures.left
    (λ s a b more q. (ready_fewer next.end next.room next.count s a b more q.0, q.1)) applies in
    let doing = made g.D.Disk.moment g.D.Disk.left_since g.D.Disk.may_leave rest mid c.make_steps.new.disk c.make_steps-2.new.disk (λ o. Holds both o) Q second c.make_steps-2.ensures.any_moment in
    then_on g.D.Disk.moment g.D.Disk.left_since g.D.Disk.may_leave c.args.disk.now c.make_steps.new.disk c.make_steps-2.new.disk P
    (made g.D.Disk.moment g.D.Disk.left_since g.D.Disk.may_leave commit seen c.args.disk.now c.make_steps.new.disk P _ is.commits c.make_steps.ensures.any_moment)
    (weaker g.D.Disk.moment g.D.Disk.left_since g.D.Disk.may_leave c.make_steps.new.disk c.make_steps-2.new.disk (λ o. Holds both o) P (λ o holds. inr holds) doing)
