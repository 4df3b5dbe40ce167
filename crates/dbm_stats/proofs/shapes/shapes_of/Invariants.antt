use Rattle.std.proofs.Common.{◌≡◌, map as map_list}
use Rattle.std.specs.List.{All}
use Rattle.dbm_stats.specs.Totals.{AreBelow}
use Rattle.dbm_stats.specs.Shapes.{shape_of}
use Rattle.dbm_stats.specs.declared.totals.PageShape.{PageShape}
use Rattle.dbm_stats.proofs.UsedPages.{pages_below}
use Rattle.dbm_stats.proofs.shapes.shapes_of.Given as goal

abbrev pub invariant-loop-number : goal.invariant-loop-number
invariant-loop-number g l = record {
  same : l.shapes.items ≡ map_list (shape_of l.image) (pages_below l.image.pages l.number);
  small : All (λ (s : PageShape). AreBelow s.totals 8192) l.shapes.items;
}
