use Rattle.std.proofs.Common.{sym, subst}
use Rattle.node_maps.specs.Least.{IsFirstLeast}
use Rattle.map_anneal.specs.Sought.{Sought, price, IsNodeMap}
use Rattle.map_anneal.specs.Walk.{walk}
use Rattle.map_anneal.proofs.PreparedLaws.{same_sought}
use Rattle.map_anneal.proofs.walk.anneal.Goals as goal

pub anneal_by-requires-clause-start : goal.anneal_by-requires-clause-start
anneal_by-requires-clause-start g c =
    let same = same_sought c.search-search.result c.args.lab.now c.args.free.now c.args.wiring.now c.args.rule.now.number c.search-search.ensures.lab c.search-search.ensures.left c.search-search.ensures.wiring in
    subst (λ (s : Sought). IsNodeMap s c.args.start.now) (sym same) c.requires.start

pub returns-clause-node_map : goal.returns-clause-node_map
returns-clause-node_map g c =
    let same = same_sought c.search-search.result c.args.lab.now c.args.free.now c.args.wiring.now c.args.rule.now.number c.search-search.ensures.lab c.search-search.ensures.left c.search-search.ensures.wiring in
    subst (λ (s : Sought). IsNodeMap s c.in_ok-best.best) same c.in_ok-best.ensures.node_map

pub returns-clause-least : goal.returns-clause-least
returns-clause-least g c =
    let same = same_sought c.search-search.result c.args.lab.now c.args.free.now c.args.wiring.now c.args.rule.now.number c.search-search.ensures.lab c.search-search.ensures.left c.search-search.ensures.wiring in
    subst (λ (s : Sought). IsFirstLeast (price s) (walk s c.args.start.now c.args.seed) c.in_ok-best.best) same c.in_ok-best.ensures.least
