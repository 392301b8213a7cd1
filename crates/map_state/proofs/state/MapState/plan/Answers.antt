use Rattle.std.proofs.Common.{◌∙◌, List, ap, sym}
use Rattle.node_maps.specs.declared.ends.End.{End}
use Rattle.node_maps.specs.NodeMaps.{plugs_from}
use Rattle.map_state.proofs.StateLaws.{placed_ends}
use Rattle.map_state.proofs.GivenAnew.{none_given}
use Rattle.map_state.proofs.state.MapState.plan.Goals as goal

pub returns-then-not-yes-clause-none : goal.returns-then-not-yes-clause-none
returns-then-not-yes-clause-none c = λ is.
    let x = c.args.search.now in
    let places = c.args.self.now.mapping.places in
    ap (λ (l : List End). plugs_from x.mapper.lab.now places l) (sym c.requires.search.mapper.ends)
    ∙ none_given x.mapper.lab.now places x.mapper.ends.now c.args.first.0.0 (placed_ends x places c.requires.search c.requires.state.shaped.places) (c.in_ok-yes.ensures.none c.if-not-yes.true)

pub returns-clause-none : goal.returns-clause-none
returns-clause-none c = λ is.
    let x = c.args.search.now in
    let places = c.args.self.now.mapping.places in
    ap (λ (l : List End). plugs_from x.mapper.lab.now places l) (sym c.requires.search.mapper.ends)
    ∙ none_given x.mapper.lab.now places x.mapper.ends.now c.args.second.0.0 (placed_ends x places c.requires.search c.requires.state.shaped.places) (c.in_ok-both.ensures.none is)
