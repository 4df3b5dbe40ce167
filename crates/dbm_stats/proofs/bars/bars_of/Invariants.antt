use Rattle.std.proofs.Common.{◌≡◌, ◌==◌, map as map_list}
use Rattle.std.specs.List.{count_by, range_with_len}
use Rattle.dbm_stats.specs.Shapes.{tenth}
use Rattle.dbm_stats.specs.declared.totals.PageShape.{PageShape}
use Rattle.dbm_stats.proofs.bars.bars_of.Given as goal

abbrev pub invariant-loop-i : goal.invariant-loop-i
invariant-loop-i g l = l.bars.items ≡ map_list (λ i. count_by (λ (s : PageShape). tenth l.size s.filled == i) l.shapes) (range_with_len 0 l.i)
