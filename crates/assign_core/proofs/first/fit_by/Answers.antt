use Rattle.std.proofs.Common.{◌∙◌, List, length, sym, ap, subst}
use Rattle.lab_model.specs.Shapes.{Place}
use Rattle.node_maps.specs.NodeMaps.{ArePlaces, candidates, node_map, IsChoice}
use Rattle.node_maps.proofs.MapLaws.{choice_within}
use Rattle.map_state.specs.declared.search.Search.{Search}
use Rattle.map_state.specs.Tables.{IsSearch}
use Rattle.assign_core.proofs.Firsts.{mapped_choice}
use Rattle.assign_core.proofs.first.fit_by.Goals as goal

listed_choice : (search : Search) (places : List Place) → IsSearch search → IsChoice search.candidates.now places
    → IsChoice (candidates search.mapper.lab.now search.mapper.free.now search.mapper.wiring.now) places
listed_choice search places are choice = subst (λ (cs : List (List Place)). IsChoice cs places) are.listed choice

pub node_map-requires-clause-placed : goal.node_map-requires-clause-placed
node_map-requires-clause-placed c =
    let x = c.args.search.now.mapper in
    let places = c.place_all.new.placing.places.items in
    let choice = listed_choice c.args.search.now places c.requires.search (c.in_ok-place_all.ensures.choice c.if-not-branch.false) in
    ap length c.deref.ensures.value ∙ (choice_within x.lab.now x.free.now x.wiring.now places choice).placed

pub node_map-requires-clause-places : goal.node_map-requires-clause-places
node_map-requires-clause-places c =
    let x = c.args.search.now.mapper in
    let places = c.place_all.new.placing.places.items in
    let choice = listed_choice c.args.search.now places c.requires.search (c.in_ok-place_all.ensures.choice c.if-not-branch.false) in
    subst (λ (ps : List Place). ArePlaces x.lab.now ps) (sym c.deref.ensures.value) (choice_within x.lab.now x.free.now x.wiring.now places choice).are

pub returns-clause-choice : goal.returns-clause-choice
returns-clause-choice c =
    let x = c.args.search.now.mapper in
    let places = c.place_all.new.placing.places.items in
    let choice = listed_choice c.args.search.now places c.requires.search (c.in_ok-place_all.ensures.choice c.if-not-branch.false) in
    mapped_choice x.lab.now x.free.now x.wiring.now places c.in_ok-mapping.mapping choice
    (c.in_ok-mapping.ensures ∙ ap (λ (ps : List Place). node_map x.lab.now x.free.now x.wiring.now ps) c.deref.ensures.value)
