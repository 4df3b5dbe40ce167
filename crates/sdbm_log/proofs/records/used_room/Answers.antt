use Rattle.std.proofs.Common.{◌≡◌, ◌-◌, List, ℕ, length, drop, sym, ◌∙◌, ap, arith}
use Rattle.sdbm_log.specs.Log.{nonzero}
use Rattle.sdbm_log.proofs.records.used_room.Goals as goal

pub returns-clause-rest : goal.returns-clause-rest
returns-clause-rest c =
    let log = c.records_of-log.result.now in
    let none : length log - c.loop-index.index ≡ 0 = omega (arith, c.loop-index-test.false) in
    ap (λ (l : List ℕ). nonzero l) (sym c.records_of-log.ensures) ∙ sym (ap (λ k. nonzero (drop k log)) none) ∙ c.loop-index.invariant.zeros
