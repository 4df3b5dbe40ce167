use Rattle.std.proofs.Common.{ℕ, ◌+◌, ◌-◌, List, refl, sym, subst}
use Rattle.sdbm_log.specs.Log.{ArePlans}
use Rattle.sdbm_saves.proofs.Knowing.{never}
use Rattle.sdbm_log.proofs.Logs.{whole_first, whole_again}
use Rattle.sdbm_log.proofs.Weights.{one_less}
use Rattle.sdbm_log.proofs.records.are_plans.Goals as goal

pub returns-then-not-has_plan : goal.returns-then-not-has_plan
returns-then-not-has_plan c =
    let rest = c.loop-index.rest.now in
    let is = one_less c.args.count c.loop-index.index c.loop-index-test.true in (
      λ is_true. absurd (never is_true),
      λ whole. let here = whole_first (c.args.count - c.loop-index.index) (c.args.count - (c.loop-index.index + 1)) rest is (c.loop-index.invariant.so_far.0 whole) in c.if-not-has_plan.ensures.1 (here.0, here.1.0),
    )

pub loop-index-preserved : goal.loop-index-preserved
loop-index-preserved c =
    let rest = c.loop-index.rest.now in
    let n = c.args.count - c.loop-index.index in
    let k = c.args.count - (c.loop-index.index + 1) in
    let is = one_less c.args.count c.loop-index.index c.loop-index-test.true in record {
      so_far = (
        λ whole. subst (λ (l : List ℕ). ArePlans k l) (sym c.later_records-rest.ensures) (whole_first n k rest is (c.loop-index.invariant.so_far.0 whole)).1.1,
        λ later. c.loop-index.invariant.so_far.1 (whole_again n k rest is (c.if-not-has_plan.ensures.0 refl) (subst (λ (l : List ℕ). ArePlans k l) c.later_records-rest.ensures later)),
      );
    }
