use Rattle.std.proofs.Common.{◌≡◌, ◌++◌, take}
use Rattle.std.specs.List.{flat_map}
use Rattle.dbm_stats.specs.Figures.{full_row}
use Rattle.dbm_stats.proofs.figures.show_fullest.Given as goal

abbrev pub invariant-loop-room : goal.invariant-loop-room
invariant-loop-room g l = l.text.items ≡ l.initial.text.items ++ flat_map full_row (take l.room-index l.fullest)
