use Rattle.std.proofs.Common.{subst}
use Rattle.map_anneal.specs.Sought.{Sought}
use Rattle.map_anneal.proofs.PreparedLaws.{same_sought}
use Rattle.assign_core.specs.Exact.{node_maps, IsCheapestOf}
use Rattle.assign_core.proofs.exact.best_of_all.Goals as goal

pub returns : goal.returns
returns g c =
    let same = same_sought c.search-search.result c.args.lab.now c.args.free.now c.args.wiring.now c.args.rule.now.number c.search-search.ensures.lab c.search-search.ensures.left c.search-search.ensures.wiring in
    subst (λ (s : Sought). IsCheapestOf s (node_maps s) c.in_ok-best.best) same c.in_ok-best.ensures.cheapest
