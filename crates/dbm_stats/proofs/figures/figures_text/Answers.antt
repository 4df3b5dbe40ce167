use Rattle.std.proofs.Common.{◌≡◌, ◌++◌, ℕ, List, ap, ◌∙◌}
use Rattle.std.specs.List.{flat_map}
use Rattle.dbm_stats.specs.declared.fullest.PageRoom.{PageRoom}
use Rattle.dbm_stats.specs.Figures.{bar_rows, full_row}
use Rattle.dbm_stats.proofs.RowLemmas.{seven_parts}
use Rattle.dbm_stats.proofs.figures.figures_text.Goals as goal

pub returns : goal.returns
returns g c =
    seven_parts _ _ _ _ _ _ _ _ _ _ _ _ _ _ _ c.new-text.ensures.items c.in_ok-show_pairs.ensures c.in_ok-show_files.ensures c.in_ok-show_depths.ensures c.in_ok-extend_from_slice.ensures.items
    (c.in_ok-show_bars.ensures ∙ ap (λ (bars : List ℕ). c.extend_from_slice.new.self.items ++ bar_rows bars) c.as_slice.ensures.value) c.in_ok-extend_from_slice-2.ensures.items
    (c.in_ok-show_fullest.ensures ∙ ap (λ (rooms : List PageRoom). c.extend_from_slice-2.new.self.items ++ flat_map full_row rooms) c.as_slice-2.ensures.value)
