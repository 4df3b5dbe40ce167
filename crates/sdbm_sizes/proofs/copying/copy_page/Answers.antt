use Rattle.std.proofs.Common.{◌∙◌}
use Rattle.sdbm_sizes.proofs.Blocks.{one_more}
use Rattle.sdbm_sizes.proofs.copying.copy_page.Goals as goal

pub loop-index-preserved : goal.loop-index-preserved
loop-index-preserved g c =
    c.in_ok-push_block.ensures ∙ one_more c.args.pag.now.bytes c.args.number c.loop-index.index c.block.result.now c.loop-index.page.items c.block.ensures c.loop-index-test.true c.requires.inside c.loop-index.invariant
