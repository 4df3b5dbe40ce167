use Rattle.std.proofs.Common.{◌+◌, ◌%◌, sym, subst, refl}
use Rattle.worker_pool.specs.Groups.{HasTried}
use Rattle.worker_pool.proofs.GroupLemmas.{calls_size, group_refused, goes_on}
use Rattle.worker_pool.proofs.share.do_group.Goals as goal

pub returns-in-Ok-clause-size : goal.returns-in-Ok-clause-size
returns-in-Ok-clause-size g c = calls_size _ _ _ _ c.in-Ok.ensures.ahead.calls

pub returns-in-Err-clause-progress : goal.returns-in-Err-clause-progress
returns-in-Err-clause-progress g c =
    let programs = c.args.registry.now.programs in
    let tasks = c.args.tasks.now in
    let k = c.args.workers in
    let at = c.args.at in
    let session = c.call_group.new.session in
    let replies = c.call_group.new.replies.items in
    goes_on programs tasks k (at % k) at session replies c.earlier.result c.place_after.result c.requires.some refl c.place_after.ensures
    (subst (HasTried programs tasks k (at % k) (at + k) session replies) (sym c.earlier.ensures)
    (group_refused programs tasks k (at % k) at c.args.session.now session c.args.replies.now.items replies c.args.first c.in-Err.refusal c.requires.some c.requires.within refl c.in-Err.ensures.refused c.in-Err.ensures.err c.in-Err.ensures.replies c.requires.tried))
