use Rattle.std.proofs.Common.{ℕ, ◌+◌, ◌-◌, List, sym, ◌∙◌, ap}
use Rattle.sdbm_log.specs.Log.{after_records}
use Rattle.sdbm_log.proofs.Weights.{one_less}
use Rattle.sdbm_log.proofs.records.after_records.Goals as goal

pub loop-index-preserved : goal.loop-index-preserved
loop-index-preserved c =
    let rest = c.loop-index.rest.now in
    let k = c.args.count - (c.loop-index.index + 1) in
    let is = one_less c.args.count c.loop-index.index c.loop-index-test.true in
    record { so_far = ap (λ (l : List ℕ). after_records k l) c.after_first-rest.ensures ∙ ap (λ n. after_records n rest) (sym is) ∙ c.loop-index.invariant.so_far }
