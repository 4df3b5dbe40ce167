use Rattle.std.proofs.Common.{◌≡◌, ℕ, List, map as map_list, arith, sym, ap, ◌∙◌}
use Rattle.sdbm_addr.specs.Pairs.{Pair}
use Rattle.dbm_stats.specs.Shapes.{shape_of}
use Rattle.dbm_stats.proofs.UsedPages.{pages_below, all_below}
use Rattle.dbm_stats.proofs.shapes.shapes_of.Goals as goal

pub returns-clause-shapes : goal.returns-clause-shapes
returns-clause-shapes g c =
    let db = c.args.image.now in
    let count = c.page_count-number-end.result in
    let end : c.loop-number.number ≡ c.page_count-number-end.result = omega arith in
    c.loop-number.invariant.same
    ∙ ap (λ (es : List (ℕ × List Pair)). map_list (shape_of db) es) (ap (pages_below db.pages) end ∙ all_below db c.page_count-number-end.ensures.database count c.page_count-number-end.ensures.count)
