use Rattle.std.proofs.Common.{refl, ◌∙◌, arith}
use Rattle.sdbm_addr.proofs.Summing.{begun, kept, ended}
use Rattle.sdbm_addr.proofs.address.hash.Goals as goal

pub loop-i-init : goal.loop-i-init
loop-i-init c = begun c.args.kind c.args.key.now _ c.fours-sum.result c.fours-sum.ensures

pub loop-i-preserved : goal.loop-i-preserved
loop-i-preserved c = kept c.args.kind c.args.key.now c.loop-i.i c.loop-i.sum _ c.weight.result (omega arith) refl c.weight.ensures ∙ c.loop-i.invariant

pub returns : goal.returns
returns c = ended c.args.kind c.args.key.now c.loop-i.i c.loop-i.sum (omega arith) (omega arith) c.loop-i.invariant
