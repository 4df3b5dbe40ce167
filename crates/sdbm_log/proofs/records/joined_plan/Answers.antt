use Rattle.std.proofs.Common.{◌≡◌, ◌≤◌, ℕ, suc, ◌+◌, ◌-◌, List, length, sym, ◌∙◌, ap, subst, arith}
use Rattle.sdbm_log.specs.Log.{first_plan, later_records, ArePlans, joined, joined_all, log_plan}
use Rattle.sdbm_log.proofs.Joins.{joined_long}
use Rattle.sdbm_log.proofs.Logs.{whole_first, joined_first, joined_start}
use Rattle.sdbm_log.proofs.Weights.{one_less}
use Rattle.sdbm_log.proofs.records.joined_plan.Goals as goal

all_but_one : (count : ℕ) → 1 ≤ count → count ≡ suc (count - 1)
all_but_one count some = omega (arith, some)

pub loop-index-init : goal.loop-index-init
loop-index-init g c =
    let count = c.args.count in
    let log = c.args.log.now in
    let items : c.in_ok-plan.plan.items ≡ first_plan log = c.in_ok-plan.ensures.items ∙ c.first_plan.ensures in
    let rest : c.later_records-rest.result.now ≡ later_records log = c.later_records-rest.ensures in
    let whole = whole_first count (count - 1) log (all_but_one count c.requires.some) c.requires.whole in
    record {
      so_far = ap (λ (l : List ℕ). joined_all c.in_ok-plan.plan.items (count - 1) l) rest ∙ ap (λ (l : List ℕ). joined_all l (count - 1) (later_records log)) items ∙ joined_start log count c.requires.some;
      whole = subst (λ (l : List ℕ). ArePlans (count - 1) l) (sym rest) whole.1.1;
      long = subst (λ (l : List ℕ). 28 ≤ length l) (sym items) whole.1.0.header;
    }

pub first_plan-requires-in-loop-index : goal.first_plan-requires-in-loop-index
first_plan-requires-in-loop-index g c =
    (whole_first _ _ c.loop-index.rest.now (one_less c.args.count c.loop-index.index c.loop-index-test.true) c.loop-index.invariant.whole).0

pub join-requires-clause-next : goal.join-requires-clause-next
join-requires-clause-next g c =
    let whole = whole_first _ _ c.loop-index.rest.now (one_less c.args.count c.loop-index.index c.loop-index-test.true) c.loop-index.invariant.whole in
    subst (λ (l : List ℕ). 28 ≤ length l) (sym c.first_plan-in-loop-index.ensures) whole.1.0.header

pub later_records-rest-requires-in-loop-index : goal.later_records-rest-requires-in-loop-index
later_records-rest-requires-in-loop-index g c =
    (whole_first _ _ c.loop-index.rest.now (one_less c.args.count c.loop-index.index c.loop-index-test.true) c.loop-index.invariant.whole).0

pub loop-index-preserved : goal.loop-index-preserved
loop-index-preserved g c =
    let plan = c.loop-index.plan.items in
    let rest = c.loop-index.rest.now in
    let next = c.first_plan-in-loop-index.result.now in
    let k = c.args.count - (c.loop-index.index + 1) in
    let is = one_less c.args.count c.loop-index.index c.loop-index-test.true in
    let whole = whole_first (c.args.count - c.loop-index.index) k rest is c.loop-index.invariant.whole in
    let made : c.join.new.plan.items ≡ joined plan (first_plan rest) = c.in_ok-join.ensures ∙ ap (λ (l : List ℕ). joined plan l) c.first_plan-in-loop-index.ensures in
    let later : c.later_records-rest-in-loop-index.result.now ≡ later_records rest = c.later_records-rest-in-loop-index.ensures in
    record {
      so_far = ap (λ (l : List ℕ). joined_all c.join.new.plan.items k l) later ∙ ap (λ (l : List ℕ). joined_all l k (later_records rest)) made
          ∙ joined_first plan rest (log_plan c.args.count c.args.log.now) (c.args.count - c.loop-index.index) k is c.loop-index.invariant.so_far;
      whole = subst (λ (l : List ℕ). ArePlans k l) (sym later) whole.1.1;
      long = subst (λ (l : List ℕ). 28 ≤ length l) (sym made) (joined_long plan (first_plan rest) c.loop-index.invariant.long whole.1.0.header);
    }
