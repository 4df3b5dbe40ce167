use Rattle.std.proofs.Common.{◌≡◌, ◌≤◌, ◌+◌, ◌-◌, ◌∙◌, inr, length, take, ℕ, List, sym, ap, subst, arith}
use Rattle.std.proofs.lemmas.Bool.{true≢false}
use Rattle.std.proofs.lemmas.List.{length-take-le}
use Rattle.sdbm_saves.specs.Redo.{IsPlan}
use Rattle.sdbm_log.specs.Log.{first_plan, next_plan}
use Rattle.sdbm_tail.specs.Tail.{GrowsTo}
use Rattle.sdbm_tail.proofs.Joinable.{can_grow, follows_by, next_long}
use Rattle.sdbm_tail.proofs.joining.join_next.Goals as goal

pub returns-then-not-can_follow-clause-bad : goal.returns-then-not-can_follow-clause-bad
returns-then-not-can_follow-clause-bad c = λ is join.
    let grows : GrowsTo (take c.args.len c.args.room.now) c.first_plan-next.result.now =
    subst (λ (l : List ℕ). GrowsTo (take c.args.len c.args.room.now) l) (sym c.first_plan-next.ensures) (can_grow c.args.len (take c.args.len c.args.room.now) (first_plan c.args.records.now) c.if-len-eq0.false join.follows) in
    true≢false (sym (c.can_follow.ensures.1 grows) ∙ c.if-not-can_follow.true)

pub returns-then-more-room-clause-short : goal.returns-then-more-room-clause-short
returns-then-more-room-clause-short c = λ is.
    let room : List ℕ = c.args.room.now in
    let next : List ℕ = first_plan c.args.records.now in
    let same : c.first_plan-next.result.now ≡ next = c.first_plan-next.ensures in
    let has = c.has_plan.ensures.0 c.if-not-has_plan.false in
    let plan : IsPlan next = has.1 in
    let other : 28 ≤ length next = plan.header in
    let first : length (take c.args.len room) ≡ c.args.len = length-take-le c.args.len room (omega (arith, c.requires)) in
    let head : 28 ≤ c.args.len = omega (arith, c.if-len-lt-HEAD.false) in
    let grows : GrowsTo (take c.args.len room) next = subst (λ (l : List ℕ). GrowsTo (take c.args.len room) l) same (c.can_follow.ensures.0 c.if-not-can_follow.false) in (
      record {
        whole = sym c.is_whole.ensures ∙ c.if-not-is_whole.false;
        inside = has.0;
        plan = plan;
        head = inr head;
        follows = follows_by c.args.len (take c.args.len room) next grows;
      },
      let long : length (next_plan c.args.len (take c.args.len room) next) ≡ length (take c.args.len room) + (length next - 28) =
          next_long c.args.len (take c.args.len room) next c.if-len-eq0.false (omega arith) other in
          omega (arith, long, first, c.if-more-room.true, c.requires, ap (λ (l : List ℕ). length l) same, other),
    )
