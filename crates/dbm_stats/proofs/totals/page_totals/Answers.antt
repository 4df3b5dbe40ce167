use Rattle.std.proofs.Common.{◌^◌, lit≤}
use Rattle.dbm_stats.proofs.TotalsLemmas.{AreBelow-le, part_below}
use Rattle.dbm_stats.proofs.totals.page_totals.Goals as goal

pub join-totals-requires-clause-first : goal.join-totals-requires-clause-first
join-totals-requires-clause-first g c =
    AreBelow-le c.loop-i.totals 8192 (2 ^ 62) (lit≤ tt) (part_below c.args.page.now.size c.args.page.now.pairs c.loop-i.i c.loop-i.totals c.len-i-end.ensures.laid c.loop-i.invariant)

pub returns-clause-small : goal.returns-clause-small
returns-clause-small g c = part_below c.args.page.now.size c.args.page.now.pairs c.loop-i.i c.loop-i.totals c.len-i-end.ensures.laid c.loop-i.invariant
