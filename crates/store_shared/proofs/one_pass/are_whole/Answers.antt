use Rattle.std.proofs.Common.{◌∙◌, ap, length}
use Rattle.store_shared.proofs.OnePass.{whole_more}
use Rattle.store_shared.proofs.one_pass.are_whole.Goals as goal

pub loop-at-preserved : goal.loop-at-preserved
loop-at-preserved g c =
    whole_more c.args.handed.now c.args.counts.now c.loop-at.at c.index-handed-at.result c.loop-at-test.true c.index-handed-at.is (c.if-counts-at.false ∙ ap length c.entries.ensures) c.loop-at.invariant
