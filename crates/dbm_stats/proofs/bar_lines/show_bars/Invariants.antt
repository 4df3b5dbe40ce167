use Rattle.std.proofs.Common.{◌≡◌, ◌++◌, get_or}
use Rattle.std.specs.List.{flat_map, range_with_len}
use Rattle.dbm_stats.specs.Totals.{greatest}
use Rattle.dbm_stats.specs.Figures.{bar_row}
use Rattle.dbm_stats.proofs.bar_lines.show_bars.Given as goal

abbrev pub invariant-loop-i : goal.invariant-loop-i
invariant-loop-i g l = l.text.items ≡ l.initial.text.items ++ flat_map (λ i. bar_row (greatest (λ n. n) l.bars) i (get_or l.bars i 0)) (range_with_len 0 l.i)
