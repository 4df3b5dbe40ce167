use Rattle.std.proofs.Common.{[]}
use Rattle.dbm_dump.specs.Texts.{redis_pair}
use Rattle.dbm_dump.proofs.MoreTexts.{written_more}
use Rattle.dbm_dump.proofs.writing.redis_dump.Goals as goal

pub loop-pair-preserved : goal.loop-pair-preserved
loop-pair-preserved c =
    written_more redis_pair [] c.args.pairs.now c.loop-pair.pair-index c.pair-item.result c.as_slice.result.now c.as_slice-in-loop-pair.result.now _ _ c.loop-pair-test.true c.pair-item.is
    c.as_slice.ensures c.as_slice-in-loop-pair.ensures c.loop-pair.invariant c.in_ok-show_set.ensures
