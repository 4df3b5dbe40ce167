use Rattle.std.proofs.Common.{◌≡◌, ◌*◌, ℕ, List, take, map as map_list}
use Rattle.std.specs.List.{flat_map}
use Rattle.sdbm_addr.specs.Pairs.{Pair}
use Rattle.sdbm_addr.specs.Database.{Database}
use Rattle.dbm_stats.specs.Totals.{AreBelow, totals_of}
use Rattle.dbm_stats.specs.Shapes.{shape_of}
use Rattle.dbm_stats.proofs.totals.all_totals.Given as goal

abbrev pub invariant-loop-shape : goal.invariant-loop-shape
invariant-loop-shape l = record {
  same : (db : Database) (pages : List (ℕ × List Pair)) → l.shapes ≡ map_list (shape_of db) pages
      → l.totals ≡ totals_of (flat_map (λ (e : ℕ × List Pair). e.1) (take l.shape-index pages));
  small : AreBelow l.totals (8192 * l.shape-index);
}
