use Rattle.std.proofs.Common.{◌∙◌, List, ap, sym, subst}
use Rattle.lab_model.specs.Shapes.{Place, IsShaped}
use Rattle.node_maps.specs.NodeMaps.{plugs_from}
use Rattle.node_maps.proofs.Shaped.{shaped}
use Rattle.node_maps.specs.declared.ends.End.{End}
use Rattle.node_maps.specs.Indexed.{AreOrdered}
use Rattle.node_maps.proofs.OrderLaws.{ordered}
use Rattle.node_maps.proofs.mapped.node_map.Goals as goal

pub serve-requires : goal.serve-requires
serve-requires c = subst (λ (l : List End). AreOrdered l) (sym c.requires.ends) (ordered c.args.wiring.now c.requires.sound)

pub is_feasible-requires-clause-shaped : goal.is_feasible-requires-clause-shaped
is_feasible-requires-clause-shaped c =
    let lab = c.args.lab.now in
    let w = c.args.wiring.now in
    let places = c.args.places.now in
    let P : List Place → Type 0 = λ ps. IsShaped lab w (record { places = ps; plugs = c.in-Some.plugs }) in
    let rule = sym (c.in_ok-plugs.ensures ∙ ap (λ es. plugs_from lab places es) c.requires.ends) ∙ c.in-Some.is in
    subst P (sym c.in_ok-copy_places.ensures) (shaped lab w places c.in-Some.plugs c.requires.sound c.requires.placed c.requires.places rule)
