use Rattle.std.proofs.Common.{◌≡◌, take}
use Rattle.dbm_stats.specs.Totals.{greatest}
use Rattle.dbm_stats.proofs.bar_lines.most_of.Given as goal

abbrev pub invariant-loop-bar : goal.invariant-loop-bar
invariant-loop-bar l = l.most ≡ greatest (λ n. n) (take l.bar-index l.bars)
