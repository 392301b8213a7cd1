use Rattle.map_anneal.specs.Sought.{price}
use Rattle.map_anneal.specs.Searches.{sought_of}
use Rattle.assign_core.proofs.exact.is_no_less.Goals as goal

pub returns : goal.returns
returns g c = λ is plugs.
    let s = sought_of c.args.search.now c.args.rule.now.number in
    c.are_dear.ensures is (price s (record { places = c.args.state.now.mapping.places; plugs = plugs })) (c.parts_at_rest.ensures.least c.args.rule.now.number plugs)
