use Rattle.std.proofs.Common.{ℕ, List, refl}
use Rattle.sdbm_log.specs.Steps.{acts_of, with_head}
use Rattle.sdbm_log.specs.Protocol.{apply_acts, close_acts}
use Rattle.sdbm_log.proofs.Results.{ok_by}
use Rattle.sdbm_log.proofs.Stepping.{then_acts}
use Rattle.sdbm_log.proofs.opening.push_redo.Goals as goal

pub returns : goal.returns
returns c =
    let bytes : List ℕ = with_head c.args.plan.now in
    ok_by c.push_close.result _ _
    (λ is. then_acts (acts_of bytes c.args.steps.now.items) (apply_acts c.args.plan.now) (acts_of bytes c.push_apply.new.steps.items) _ close_acts (c.in_ok-push_apply.ensures bytes refl) (is bytes))
    c.push_close.ensures
