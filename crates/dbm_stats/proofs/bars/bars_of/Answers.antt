use Rattle.std.proofs.Common.{◌≡◌, ◌++◌, ◌∷◌, [], ◌==◌, ℕ, List, map as map_list, arith, sym, ap, ◌∙◌}
use Rattle.std.proofs.lemmas.List.FromFn.{map-range_with_len_more}
use Rattle.std.specs.List.{count_by, range_with_len}
use Rattle.dbm_stats.specs.Shapes.{tenth}
use Rattle.dbm_stats.specs.declared.totals.PageShape.{PageShape}
use Rattle.dbm_stats.proofs.bars.bars_of.Goals as goal

pub loop-i-preserved : goal.loop-i-preserved
loop-i-preserved g c =
    let f : ℕ → ℕ = λ i. count_by (λ (s : PageShape). tenth c.args.size s.filled == i) c.args.shapes.now in
    let i = c.loop-i.i in
    c.in_ok-push.ensures.items
    ∙ ap (λ (xs : List ℕ). xs ++ c.count_tenth.result ∷ []) c.loop-i.invariant
    ∙ ap (λ (n : ℕ). map_list f (range_with_len 0 c.loop-i.i) ++ n ∷ []) c.count_tenth.ensures
    ∙ sym (map-range_with_len_more f 0 c.loop-i.i c.loop-i.i (omega arith))
