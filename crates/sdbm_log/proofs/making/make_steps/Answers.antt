use Rattle.std.proofs.Common.{◌+◌, ◌∷◌, [], ◌++◌, ◌∙◌, ℕ, List, take, drop, slice_index_or, ap, subst, sym, append_assoc}
use Rattle.sdbm_saves.specs.Acts.{Act, acted, seen_after, LeftAfter}
use Rattle.sdbm_saves.specs.Disk.{Image, LeavesOnly}
use Rattle.sdbm_log.specs.Doing.{CanCall, CanDo, AnyMoment}
use Rattle.sdbm_log.specs.Steps.{act_of, acts_of}
use Rattle.sdbm_log.specs.declared.steps.Step.{Step}
use Rattle.sdbm_log.specs.declared.steps.Step.TheVariants.{Write}
use Rattle.sdbm_saves.specs.declared.disk.DiskFile.TheVariants.{Pages}
use Rattle.sdbm_saves.proofs.Moments.{weaker}
use Rattle.sdbm_log.proofs.Makes.{acts_split, acts_next, can_mid, left_next, moment_front, one_more, seen_snoc}
use Rattle.sdbm_log.proofs.making.make_steps.Goals as goal

pub make_step-requires : goal.make_step-requires
make_step-requires g c =
    let bytes : List ℕ = c.args.bytes.now in
    let steps : List Step = c.args.steps.now in
    let i : ℕ = c.loop-index.index in
    let act : Act = act_of bytes (slice_index_or steps i (Write Pages 0 0 0)) in
    subst (λ (o : Image). CanCall act o) (sym c.loop-index.invariant.seen)
    (can_mid (acts_of bytes (take i steps)) act (acts_of bytes (drop (i + 1) steps)) (g.D.Disk.seen c.args.disk.now)
    (subst (λ (l : List Act). CanDo l (g.D.Disk.seen c.args.disk.now)) (acts_split bytes steps i (Write Pages 0 0 0) c.loop-index-test.true) c.requires))

pub returns-in_err-make_step-clause-any_moment : goal.returns-in_err-make_step-clause-any_moment
returns-in_err-make_step-clause-any_moment g c =
    let bytes : List ℕ = c.args.bytes.now in
    let steps : List Step = c.args.steps.now in
    let i : ℕ = c.loop-index.index in
    let act : Act = act_of bytes (slice_index_or steps i (Write Pages 0 0 0)) in
    let first : Image = g.D.Disk.seen c.args.disk.now in
    let may : Image → Type 0 = g.D.Disk.may_leave c.args.disk.now in
    let so_far = one_more g.D.Disk.moment g.D.Disk.left_since g.D.Disk.seen g.D.Disk.may_leave (acts_of bytes (take i steps)) act c.args.disk.now c.loop-index.disk c.make_step.new.disk
    c.loop-index.invariant.seen c.loop-index.invariant.left c.loop-index.invariant.moments c.make_step.ensures.any_moment in
    subst (λ (l : List Act). LeavesOnly g.D.Disk.moment g.D.Disk.left_since c.args.disk.now c.make_step.new.disk (AnyMoment l first may)) (sym (acts_split bytes steps i (Write Pages 0 0 0) c.loop-index-test.true))
    (subst (λ (l : List Act). LeavesOnly g.D.Disk.moment g.D.Disk.left_since c.args.disk.now c.make_step.new.disk (AnyMoment l first may)) (append_assoc (acts_of bytes (take i steps)) (act ∷ []) (acts_of bytes (drop (i + 1) steps)))
    (weaker g.D.Disk.moment g.D.Disk.left_since g.D.Disk.may_leave c.args.disk.now c.make_step.new.disk _ _ (λ o is. moment_front (acts_of bytes (take i steps) ++ act ∷ []) (acts_of bytes (drop (i + 1) steps)) first may o is) so_far))

pub loop-index-preserved : goal.loop-index-preserved
loop-index-preserved g c =
    let bytes : List ℕ = c.args.bytes.now in
    let steps : List Step = c.args.steps.now in
    let i : ℕ = c.loop-index.index in
    let act : Act = act_of bytes (slice_index_or steps i (Write Pages 0 0 0)) in
    let first : Image = g.D.Disk.seen c.args.disk.now in
    let may : Image → Type 0 = g.D.Disk.may_leave c.args.disk.now in
    let next = acts_next bytes steps i (Write Pages 0 0 0) c.loop-index-test.true in
    record {
      seen = c.in_ok-make_step.ensures.seen ∙ ap (λ (o : Image). acted act o) c.loop-index.invariant.seen ∙ sym (seen_snoc (acts_of bytes (take i steps)) act first) ∙ ap (λ (l : List Act). seen_after l first) (sym next);
      left = subst (λ (l : List Act). (o : Image) → g.D.Disk.may_leave c.make_step.new.disk o → LeftAfter l first may o) (sym next)
          (left_next g.D.Disk.moment g.D.Disk.left_since g.D.Disk.seen g.D.Disk.may_leave (acts_of bytes (take i steps)) act c.args.disk.now c.loop-index.disk c.make_step.new.disk c.loop-index.invariant.seen c.loop-index.invariant.left c.in_ok-make_step.ensures.left);
      moments = subst (λ (l : List Act). LeavesOnly g.D.Disk.moment g.D.Disk.left_since c.args.disk.now c.make_step.new.disk (AnyMoment l first may)) (sym next)
          (one_more g.D.Disk.moment g.D.Disk.left_since g.D.Disk.seen g.D.Disk.may_leave (acts_of bytes (take i steps)) act c.args.disk.now c.loop-index.disk c.make_step.new.disk c.loop-index.invariant.seen c.loop-index.invariant.left c.loop-index.invariant.moments c.make_step.ensures.any_moment);
      failed = λ was. c.make_step.ensures.cause.stays (c.loop-index.invariant.failed was);
    }
