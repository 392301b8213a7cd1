use Rattle.std.proofs.Common.{◌≡◌, map, take}
use Rattle.node_maps.specs.Kinds.{places_of}
use Rattle.node_maps.specs.Rooms.{room_of}
use Rattle.node_maps.proofs.rooms.rooms_at.Given as goal

abbrev pub invariant-loop-number : goal.invariant-loop-number
invariant-loop-number l = l.own ≡ map (room_of l.lab) (places_of l.places (take l.number-index l.numbers))
