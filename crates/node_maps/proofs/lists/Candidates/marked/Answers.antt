use Rattle.std.proofs.Common.{◌∙◌, List, map, ap}
use Rattle.lab_model.specs.Shapes.{Place}
use Rattle.node_maps.specs.Kinds.{by_kind, listed}
use Rattle.node_maps.specs.Marked.{marked_of}
use Rattle.node_maps.proofs.MarkLaws.{marked_by_kind}
use Rattle.node_maps.proofs.lists.Candidates.marked.Goals as goal

pub returns : goal.returns
returns c =
    let x = c.self.inside in
    let nodes = c.args.nodes.now in
    let lists = c.in_ok-lists.ensures ∙ (λ j. map (marked_of nodes) (listed (c.deref.ensures.value j) (c.deref-2.ensures.value j))) in
    (λ i. by_kind (lists i) (c.in_ok-kinds.ensures i))
    ∙ marked_by_kind nodes (listed x.places.items x.lists.items) x.kinds.items
    ∙ ap (λ (l : List (List Place)). map (marked_of nodes) l) c.self.view_is
