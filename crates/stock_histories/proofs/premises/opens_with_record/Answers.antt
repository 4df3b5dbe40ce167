use Rattle.std.proofs.Common.{rules, ◌≡◌, ◌≢◌, ◌↔◌, ◌≤◌, IsTrue, List, ℕ, length, subst}
use Rattle.bpf_helpers.specs.Runs.{AreBytes, record_limit}
use Rattle.stock_histories.proofs.Openings.{from_next, is_here, is_absent}
use Rattle.stock_histories.proofs.premises.opens_with_record.Goals as goal

pub returns-then-eq : goal.returns-then-eq
returns-then-eq g c =
    let same : c.pair-item.result.0 ≡ c.args.key.now = search rules in
    let value : c.as_slice-then-eq.result.now ≡ c.pair-item.result.1 = search rules in
    is_here c.args.pairs.now c.args.key.now c.loop-pair.pair-index c.pair-item.result c.pair-item.result c.loop-pair-test.true c.pair-item.is same
    c.loop-pair.invariant c.is_record.result
    (subst (λ (v : List ℕ). IsTrue c.is_record.result ↔ (AreBytes v × (length v ≤ record_limit))) value c.is_record.ensures)

pub loop-pair-preserved : goal.loop-pair-preserved
loop-pair-preserved g c =
    let apart : c.pair-item.result.0 ≢ c.args.key.now = search rules in
    from_next c.args.pairs.now c.args.key.now c.loop-pair.pair-index c.pair-item.result c.pair-item.result c.loop-pair-test.true c.pair-item.is apart
    c.loop-pair.invariant

pub returns : goal.returns
returns g c = (
  (λ yes. is_absent c.args.pairs.now c.args.key.now c.loop-pair.pair-index c.loop-pair-test.false c.loop-pair.invariant),
  (λ all. search rules),
)
