use Rattle.std.proofs.Common.{◌≡◌, take}
use Rattle.dbm_stats.specs.Totals.{totals_of}
use Rattle.dbm_stats.proofs.totals.page_totals.Given as goal

abbrev pub invariant-loop-i : goal.invariant-loop-i
invariant-loop-i g l = l.totals ≡ totals_of (take l.i l.page.pairs)
