use Rattle.std.proofs.Common.{◌≡◌, take, map as map_list}
use Rattle.dbm_stats.specs.Fullest.{room_on}
use Rattle.dbm_stats.proofs.fullest.rooms_of.Given as goal

abbrev pub invariant-loop-shape : goal.invariant-loop-shape
invariant-loop-shape g l = l.rooms.items ≡ map_list (room_on l.size) (take l.shape-index l.shapes)
