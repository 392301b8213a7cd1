use Rattle.std.proofs.Common.{◌≤◌, sym, subst}
use Rattle.map_anneal.specs.Sought.{Sought, price, IsNodeMap, LocallyBest}
use Rattle.map_anneal.proofs.PreparedLaws.{same_sought}
use Rattle.map_anneal.proofs.descent.descend.Goals as goal

pub descend_by-requires-clause-start : goal.descend_by-requires-clause-start
descend_by-requires-clause-start g c =
    let same = same_sought c.search-search.result c.args.lab.now c.args.free.now c.args.wiring.now c.args.rule.now.number c.search-search.ensures.lab c.search-search.ensures.left c.search-search.ensures.wiring in
    subst (λ (s : Sought). IsNodeMap s c.args.start.now) (sym same) c.requires.start

pub returns-clause-best : goal.returns-clause-best
returns-clause-best g c =
    let same = same_sought c.search-search.result c.args.lab.now c.args.free.now c.args.wiring.now c.args.rule.now.number c.search-search.ensures.lab c.search-search.ensures.left c.search-search.ensures.wiring in
    subst (λ (s : Sought). LocallyBest s c.in_ok-lowest.lowest) same c.in_ok-lowest.ensures.best

pub returns-clause-cheaper : goal.returns-clause-cheaper
returns-clause-cheaper g c =
    let same = same_sought c.search-search.result c.args.lab.now c.args.free.now c.args.wiring.now c.args.rule.now.number c.search-search.ensures.lab c.search-search.ensures.left c.search-search.ensures.wiring in
    subst (λ (s : Sought). price s c.in_ok-lowest.lowest ≤ price s c.args.start.now) same c.in_ok-lowest.ensures.cheaper
