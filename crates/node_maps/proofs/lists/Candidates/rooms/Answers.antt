use Rattle.std.proofs.Common.{◌∙◌, List, map, ap}
use Rattle.lab_model.specs.Shapes.{Place}
use Rattle.node_maps.specs.Kinds.{by_kind, listed}
use Rattle.node_maps.specs.Rooms.{room_of}
use Rattle.node_maps.proofs.KindLaws.{by_kind_map}
use Rattle.node_maps.proofs.lists.Candidates.rooms.Goals as goal

pub returns : goal.returns
returns c =
    let x = c.self.inside in
    let lab = c.args.lab.now in
    let lists = c.in_ok-lists.ensures ∙ (λ j. map (map (room_of lab)) (listed (c.deref.ensures.value j) (c.deref-2.ensures.value j))) in
    (λ i. by_kind (lists i) (c.in_ok-kinds.ensures i))
    ∙ by_kind_map (room_of lab) (listed x.places.items x.lists.items) x.kinds.items
    ∙ ap (λ (l : List (List Place)). map (map (room_of lab)) l) c.self.view_is
