use Rattle.std.proofs.Common.{◌≡◌, ◌++◌, ◌∙◌, ℕ, List, ap}
use Rattle.sdbm_saves.specs.Acts.{Act}
use Rattle.sdbm_log.specs.Protocol.{settle_acts}
use Rattle.sdbm_log.specs.Saving.{image_in, recover_acts}
use Rattle.sdbm_log.specs.Steps.{acts_of, with_head}
use Rattle.sdbm_log.proofs.opening.recover_for.Goals as goal

pub returns : goal.returns
returns c =
    let found = c.in_ok-push_recover.ensures in
    let bytes : List ℕ = with_head found.0 in
    let settled : acts_of bytes c.push_settle.new.steps.items ≡ settle_acts = c.in_ok-push_settle.ensures bytes ∙ ap (λ l. acts_of bytes l ++ settle_acts) c.new-steps.ensures.items in
    ap (λ (l : List ℕ). acts_of l c.push_recover.new.steps.items) found.1.0 ∙ found.1.1 ∙ ap (λ (l : List Act). l ++ recover_acts (image_in c.args.files)) settled
