use Rattle.std.proofs.Common.{Option, IfSome, subst}
use Rattle.map_anneal.specs.declared.priced.Priced.{Priced}
use Rattle.map_anneal.specs.Searches.{sought_of, IsPriced}
use Rattle.map_anneal.proofs.Prices.{map_shaped}
use Rattle.assign_core.proofs.exact.taken_cost.Goals as goal

pub ask_step-requires-clause-from : goal.ask_step-requires-clause-from
ask_step-requires-clause-from g c =
    let s = sought_of c.args.search.now c.args.rule.now.number in
    let P : Option Priced → Type 0 = λ o. IfSome o (λ p. IsPriced s p) in
    let is : IsPriced s c.in-Some.kept = subst P c.in-Some.is c.requires.best in
    map_shaped s c.in-Some.kept.mapping c.requires.search.mapper.sound is.node_map

pub ask_step-requires-clause-cost : goal.ask_step-requires-clause-cost
ask_step-requires-clause-cost g c =
    let s = sought_of c.args.search.now c.args.rule.now.number in
    let P : Option Priced → Type 0 = λ o. IfSome o (λ p. IsPriced s p) in
    let is : IsPriced s c.in-Some.kept = subst P c.in-Some.is c.requires.best in
    is.cost
