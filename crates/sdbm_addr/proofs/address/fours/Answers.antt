use Rattle.std.proofs.Common.{◌≡◌, ℕ, ◌+◌, ◌*◌, ◌%◌, ◌^◌, length, drop, subst, ◌∙◌, arith}
use Rattle.sdbm_addr.specs.Hash.{weighted_sum}
use Rattle.sdbm_addr.proofs.Summing.{kept_four, ended}
use Rattle.sdbm_addr.proofs.address.fours.Goals as goal

pub loop-i-preserved : goal.loop-i-preserved
loop-i-preserved c =
    let next : 4 * c.loop-i.i + 4 ≡ 4 * (c.loop-i.i + 1) = omega arith in
    subst (λ (n : ℕ). ((c.loop-i.sum * 1139564289 % 2 ^ 32 + c.four-more.result) % 2 ^ 32 * 65599 ^ length (drop n c.args.bytes.now) + weighted_sum c.args.kind (drop n c.args.bytes.now)) % 2 ^ 32 ≡ weighted_sum c.args.kind c.args.bytes.now % 2 ^ 32) next
    (kept_four c.args.kind c.args.bytes.now (4 * c.loop-i.i) c.loop-i.sum c.four-more.result (omega arith) c.four-more.ensures ∙ c.loop-i.invariant)

pub returns : goal.returns
returns c = ended c.args.kind c.args.bytes.now (4 * c.loop-i.i) c.loop-i.sum (omega arith) (omega arith) c.loop-i.invariant
