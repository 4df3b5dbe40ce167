use Rattle.std.proofs.Common.{◌≡◌, ◌++◌, ℕ, List, length, get_or, arith, ap, ◌∙◌, refl}
use Rattle.std.specs.List.{flat_map, range_with_len}
use Rattle.dbm_stats.specs.Totals.{greatest}
use Rattle.dbm_stats.specs.Figures.{bar_row}
use Rattle.dbm_stats.proofs.RowLemmas.{text_more}
use Rattle.dbm_stats.proofs.bar_lines.show_bars.Goals as goal

pub loop-i-preserved : goal.loop-i-preserved
loop-i-preserved g c =
    let row : ℕ → List ℕ = λ i. bar_row (greatest (λ n. n) c.args.bars.now) i (get_or c.args.bars.now i 0) in
    text_more _ _ _ _ row c.loop-i.i c.in_ok-show_bar.ensures c.loop-i.invariant
    (ap (λ (most : ℕ). bar_row most c.loop-i.i (get_or c.args.bars.now c.loop-i.i 0)) c.most_of-most.ensures)
