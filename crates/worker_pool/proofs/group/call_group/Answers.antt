use Rattle.std.proofs.Common.{length, ap, arith}
use Rattle.worker_pool.proofs.GroupLemmas.{answered_count}
use Rattle.worker_pool.proofs.group.call_group.Goals as goal

pub returns-in-Ok-call_all-clause-some : goal.returns-in-Ok-call_all-clause-some
returns-in-Ok-call_all-clause-some g c =
    let made = answered_count _ _ _ _ _ c.in-Ok-call_all.ensures.ok in
    let none = ap length c.new-outcomes.ensures.items in
    let all = ap length c.into_iter.ensures.rest in
    let some = c.in_ok-calls.ensures.some in
    omega arith

pub returns-in-Ok-call_all-clause-room : goal.returns-in-Ok-call_all-clause-room
returns-in-Ok-call_all-clause-room g c =
    let made = answered_count _ _ _ _ _ c.in-Ok-call_all.ensures.ok in
    let none = ap length c.new-outcomes.ensures.items in
    let all = ap length c.into_iter.ensures.rest in
    let room = c.in-Ok.ensures.ok in
    let count = c.len.ensures in
    let same = c.in_ok-calls.calls.ok in
    let kept = c.reserve.ensures.len in
    omega arith
