use Rattle.std.proofs.Common.{◌≡◌, take}
use Rattle.dbm_stats.specs.Totals.{greatest}
use Rattle.dbm_stats.specs.declared.totals.PageShape.{PageShape}
use Rattle.dbm_stats.proofs.depths.greatest.Given as goal

abbrev pub invariant-loop-shape : goal.invariant-loop-shape
invariant-loop-shape l = l.greatest ≡ greatest (λ (s : PageShape). s.depth) (take l.shape-index l.shapes)
