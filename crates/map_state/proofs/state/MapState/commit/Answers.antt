use Rattle.std.proofs.Common.{◌≡◌, ◌∙◌, List, Some, ap, sym, subst}
use Rattle.lab_base.specs.declared.ids.IfaceId.{IfaceId}
use Rattle.lab_model.specs.Shapes.{Place}
use Rattle.node_maps.specs.NodeMaps.{plugs_of, node_map}
use Rattle.node_maps.specs.Moved.{KeepsPlaces}
use Rattle.trunk_sums.specs.Remade.{remade}
use Rattle.map_state.specs.States.{Was}
use Rattle.map_state.specs.Reverted.{reverted}
use Rattle.map_state.proofs.StateLaws.{planned_changes, planned_plugs}
use Rattle.map_state.proofs.state.MapState.commit.Goals as goal

pub make-requires-clause-changes : goal.make-requires-clause-changes
make-requires-clause-changes c =
    planned_changes c.args.search.now c.args.self.now.mapping.places c.args.first.0 c.args.second.0 c.args.self.now.changes.items c.requires.search c.requires.state.shaped.places c.requires.planned

pub is_kept-requires-clause-stays : goal.is_kept-requires-clause-stays
is_kept-requires-clause-stays c =
    let x = c.args.search.now.mapper in
    subst (λ (l : List Place). KeepsPlaces x.lab.now x.wiring.now l c.args.first.0 c.args.second.0) (sym c.in_ok-make.ensures.places) c.requires.stays

pub returns-clause-map : goal.returns-clause-map
returns-clause-map c = λ last was.
    let x = c.args.search.now in
    let lab = x.mapper.lab.now in
    let w = x.mapper.wiring.now in
    let free = x.mapper.free.now in
    let start = c.args.self.now.mapping in
    let made = c.make.new.self.mapping in
    let changes = c.args.self.now.changes.items in
    let a = c.args.first.0 in
    let b = c.args.second.0 in
    let given : plugs_of lab w start.places ≡ Some (remade start.plugs changes) =
    planned_plugs x start a b changes last c.requires.search c.requires.state.shaped c.requires.planned was in
    let places : made.places ≡ start.places = c.in_ok-make.ensures.places in
    let given_made : plugs_of lab w made.places ≡ Some made.plugs =
    ap (λ (l : List Place). plugs_of lab w l) places ∙ given ∙ ap Some (sym c.in_ok-make.ensures.plugs) in
    let was_made : Was x made.places (reverted made.plugs c.make.new.self.back.items) a b last =
    subst (λ (l : List IfaceId). Was x made.places l a b last) (sym c.in_ok-make.ensures.back) (subst (λ (l : List Place). Was x l start.plugs a b last) (sym places) was) in
    ap (λ (l : List Place). node_map lab free w l) (sym places) ∙ c.is_kept.ensures last was_made given_made
