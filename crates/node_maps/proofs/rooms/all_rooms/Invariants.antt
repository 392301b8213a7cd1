use Rattle.std.proofs.Common.{◌≡◌, map, take}
use Rattle.node_maps.specs.Kinds.{listed}
use Rattle.node_maps.specs.Rooms.{room_of}
use Rattle.node_maps.proofs.rooms.all_rooms.Given as goal

abbrev pub invariant-loop-numbers : goal.invariant-loop-numbers
invariant-loop-numbers l = l.all.items ≡ map (map (room_of l.lab)) (listed l.places (take l.numbers-index l.lists))
