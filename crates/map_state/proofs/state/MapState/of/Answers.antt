use Rattle.node_maps.proofs.MapLaws.{choice_within, mapped_shaped}
use Rattle.map_state.proofs.state.MapState.of.Goals as goal

pub of_choice-requires-clause-shaped : goal.of_choice-requires-clause-shaped
of_choice-requires-clause-shaped c =
    let x = c.args.search.now.mapper in
    let m = c.args.start.now in
    let is = choice_within x.lab.now x.free.now x.wiring.now m.places c.requires.choice in
    mapped_shaped x.lab.now x.free.now x.wiring.now m.places m c.requires.search.mapper.sound is.placed is.are c.requires.mapped
