use Rattle.std.proofs.Common.{◌≡◌, take, min}
use Rattle.std.specs.List.{fold}
use Rattle.dbm_stats.specs.declared.totals.PageShape.{PageShape}
use Rattle.dbm_stats.proofs.depths.least.Given as goal

abbrev pub invariant-loop-shape : goal.invariant-loop-shape
invariant-loop-shape l = l.least ≡ fold (λ a (s : PageShape). min a s.depth) l.initial.least (take l.shape-index l.shapes)
