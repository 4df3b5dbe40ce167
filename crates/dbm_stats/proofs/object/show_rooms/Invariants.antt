use Rattle.std.proofs.Common.{◌≡◌, ◌∷◌, take}
use Rattle.std.specs.List.{flat_map}
use Rattle.dbm_stats.specs.declared.fullest.PageRoom.{PageRoom}
use Rattle.dbm_stats.specs.Figures.{room_object}
use Rattle.dbm_stats.proofs.object.show_rooms.Given as goal

abbrev pub invariant-loop-room : goal.invariant-loop-room
invariant-loop-room g l = l.items.items ≡ flat_map (λ (r : PageRoom). 44 ∷ room_object r) (take l.room-index l.rooms)
