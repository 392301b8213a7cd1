use Rattle.std.proofs.Common.{◌∙◌, List, ℕ, ap, map}
use Rattle.lab_model.specs.Shapes.{Place}
use Rattle.node_maps.specs.Kinds.{places_of}
use Rattle.node_maps.specs.Rooms.{room_of}
use Rattle.node_maps.specs.declared.rooms.Room.{Room}
use Rattle.node_maps.proofs.KindLaws.{maps_more}
use Rattle.node_maps.proofs.rooms.all_rooms.Goals as goal

pub loop-numbers-preserved : goal.loop-numbers-preserved
loop-numbers-preserved c =
    let places = c.args.places.now in
    let of : List Place → List Room = map (room_of c.args.lab.now) in
    maps_more of (places_of places) c.args.lists.now c.loop-numbers.numbers-index c.numbers-item.result _ _ _ c.loop-numbers-test.true c.numbers-item.is c.loop-numbers.invariant
    (c.in_ok-own.ensures ∙ ap (λ (l : List ℕ). of (places_of places l)) c.as_slice.ensures) c.in_ok-push.ensures.items
