use Rattle.std.proofs.Common.{◌+◌, ◌*◌, arith, ◌∙◌}
use Rattle.dbm_stats.proofs.TotalsLemmas.{all_more, all_pages, below_joined}
use Rattle.dbm_stats.proofs.totals.all_totals.Goals as goal

pub loop-shape-preserved : goal.loop-shape-preserved
loop-shape-preserved c = record {
  same = λ db pages are.
      c.join-totals.ensures
      ∙ all_more db c.args.shapes.now pages c.loop-shape.shape-index c.loop-shape.totals _ c.loop-shape-test.true are (c.loop-shape.invariant.same db pages are);
  small = below_joined c.loop-shape.totals _ c.join-totals.result (8192 * c.loop-shape.shape-index) 8192 (8192 * (c.loop-shape.shape-index + 1)) c.join-totals.ensures (omega arith)
      c.loop-shape.invariant.small (c.requires.small c.loop-shape.shape-index _ c.loop-shape-test.true);
}

pub returns : goal.returns
returns c = λ db pages are. all_pages db c.args.shapes.now pages c.loop-shape.shape-index c.loop-shape.totals (omega arith) are (c.loop-shape.invariant.same db pages are)
