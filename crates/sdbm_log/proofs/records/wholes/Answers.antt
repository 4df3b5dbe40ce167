use Rattle.std.proofs.Common.{ℕ, ◌+◌, ◌-◌, List, length, sym, ◌∙◌, ap, arith}
use Rattle.sdbm_log.specs.Log.{wholes}
use Rattle.sdbm_log.proofs.Weights.{wholes_stop, wholes_go, one_less}
use Rattle.sdbm_log.proofs.records.wholes.Goals as goal

pub returns-then-not-is_whole : goal.returns-then-not-is_whole
returns-then-not-is_whole c =
    let none = wholes_stop (length c.args.log.now - c.loop-index.index) c.loop-index.rest.now (sym c.is_whole.ensures ∙ c.if-not-is_whole.true) in
    omega (arith, c.loop-index.invariant.so_far, none)

pub loop-index-preserved : goal.loop-index-preserved
loop-index-preserved c =
    let n = length c.args.log.now in
    let index = c.loop-index.index in
    let rest = c.loop-index.rest.now in
    let go = wholes_go (n - index) (n - (index + 1)) rest (one_less n index c.loop-index-test.true) (sym c.is_whole.ensures ∙ c.if-not-is_whole.false) in
    let later = ap (λ (l : List ℕ). wholes (n - (index + 1)) l) c.after_first-rest.ensures in
    record { so_far = omega (arith, c.loop-index.invariant.so_far, go, later) }
