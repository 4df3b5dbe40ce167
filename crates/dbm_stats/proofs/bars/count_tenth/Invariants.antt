use Rattle.std.proofs.Common.{◌≡◌, ◌==◌, take}
use Rattle.std.specs.List.{count_by}
use Rattle.dbm_stats.specs.Shapes.{tenth}
use Rattle.dbm_stats.specs.declared.totals.PageShape.{PageShape}
use Rattle.dbm_stats.proofs.bars.count_tenth.Given as goal

abbrev pub invariant-loop-shape : goal.invariant-loop-shape
invariant-loop-shape l = l.count ≡ count_by (λ (s : PageShape). tenth l.size s.filled == l.i) (take l.shape-index l.shapes)
