use Rattle.std.proofs.Common.{◌≡◌, ◌⊎◌, ◌∙◌, refl, ap, subst, sym}
use Rattle.sdbm_saves.specs.Disk.{Image, LeavesOnly}
use Rattle.sdbm_log.specs.Log.{Holds}
use Rattle.sdbm_logged.specs.Keeping.{bytes_of, IsKept}
use Rattle.store_saves.specs.Saved.{renewed_in}
use Rattle.store_saves.proofs.Leaves.{holds_renewed, moments}
use Rattle.store_saves.proofs.saved.SavedDisk.save.Goals as goal

pub returns-in-Err-clause-any_moment : goal.returns-in-Err-clause-any_moment
returns-in-Err-clause-any_moment g c =
    let taken = c.into_parts-disk.result in
    let same : taken ≡ c.args.self.0 = c.into_parts-disk.ensures.parts ∙ c.into_kept.ensures in
    let kept : IsKept taken.1 (g.D.Disk.seen taken.0) (g.D.Disk.may_leave taken.0) = c.into_parts-disk.ensures.kept in
    moments g.D.Disk.moment g.D.Disk.left_since g.D.Disk.may_leave g.D.Disk.seen taken c.args.self.0 same kept c.args.plan.now c.save_next.new.disk c.save_next.ensures.any_moment

pub returns-in-Full-clause-any_moment : goal.returns-in-Full-clause-any_moment
returns-in-Full-clause-any_moment g c =
    let taken = c.into_parts-disk.result in
    let same : taken ≡ c.args.self.0 = c.into_parts-disk.ensures.parts ∙ c.into_kept.ensures in
    let kept : IsKept taken.1 (g.D.Disk.seen taken.0) (g.D.Disk.may_leave taken.0) = c.into_parts-disk.ensures.kept in
    subst (λ d. LeavesOnly g.D.Disk.moment g.D.Disk.left_since c.args.self.0.0 d (λ o. Holds (bytes_of c.args.self.0.1.files) o ⊎ Holds (renewed_in c.args.plan.now c.args.self.0.1) o)) (ap (λ k. k.0) (sym c.new.ensures))
    (moments g.D.Disk.moment g.D.Disk.left_since g.D.Disk.may_leave g.D.Disk.seen taken c.args.self.0 same kept c.args.plan.now c.save_next.new.disk c.save_next.ensures.any_moment)

pub returns-in-Pending-clause-durable : goal.returns-in-Pending-clause-durable
returns-in-Pending-clause-durable g c =
    let taken = c.into_parts-disk.result in
    let same : taken ≡ c.args.self.0 = c.into_parts-disk.ensures.parts ∙ c.into_kept.ensures in
    let kept : IsKept taken.1 (g.D.Disk.seen taken.0) (g.D.Disk.may_leave taken.0) = c.into_parts-disk.ensures.kept in
    λ o left. holds_renewed g.D.Disk.moment g.D.Disk.left_since g.D.Disk.may_leave g.D.Disk.seen taken c.args.self.0 same kept c.args.plan.now o (c.in-Ok.ensures.durable_pending c.in-Pending.fault c.in-Pending.is o left)

pub returns-in-Pending-clause-any_moment : goal.returns-in-Pending-clause-any_moment
returns-in-Pending-clause-any_moment g c =
    let taken = c.into_parts-disk.result in
    let same : taken ≡ c.args.self.0 = c.into_parts-disk.ensures.parts ∙ c.into_kept.ensures in
    let kept : IsKept taken.1 (g.D.Disk.seen taken.0) (g.D.Disk.may_leave taken.0) = c.into_parts-disk.ensures.kept in
    moments g.D.Disk.moment g.D.Disk.left_since g.D.Disk.may_leave g.D.Disk.seen taken c.args.self.0 same kept c.args.plan.now c.save_next.new.disk c.save_next.ensures.any_moment

pub returns-in-Done-clause-durable : goal.returns-in-Done-clause-durable
returns-in-Done-clause-durable g c =
    let taken = c.into_parts-disk.result in
    let same : taken ≡ c.args.self.0 = c.into_parts-disk.ensures.parts ∙ c.into_kept.ensures in
    let kept : IsKept taken.1 (g.D.Disk.seen taken.0) (g.D.Disk.may_leave taken.0) = c.into_parts-disk.ensures.kept in
    λ o left. holds_renewed g.D.Disk.moment g.D.Disk.left_since g.D.Disk.may_leave g.D.Disk.seen taken c.args.self.0 same kept c.args.plan.now o (c.in-Ok.ensures.durable c.in-Done.is o (subst (λ d. g.D.Disk.may_leave d o) (ap (λ k. k.0.0) c.of.ensures ∙ ap (λ k. k.0) c.new-kept.ensures) left))

pub returns-in-Done-clause-any_moment : goal.returns-in-Done-clause-any_moment
returns-in-Done-clause-any_moment g c =
    let taken = c.into_parts-disk.result in
    let same : taken ≡ c.args.self.0 = c.into_parts-disk.ensures.parts ∙ c.into_kept.ensures in
    let kept : IsKept taken.1 (g.D.Disk.seen taken.0) (g.D.Disk.may_leave taken.0) = c.into_parts-disk.ensures.kept in
    subst (λ d. LeavesOnly g.D.Disk.moment g.D.Disk.left_since c.args.self.0.0 d (λ o. Holds (bytes_of c.args.self.0.1.files) o ⊎ Holds (renewed_in c.args.plan.now c.args.self.0.1) o)) (ap (λ k. k.0) (sym c.new-kept.ensures) ∙ ap (λ k. k.0.0) (sym c.of.ensures))
    (moments g.D.Disk.moment g.D.Disk.left_since g.D.Disk.may_leave g.D.Disk.seen taken c.args.self.0 same kept c.args.plan.now c.save_next.new.disk c.save_next.ensures.any_moment)
