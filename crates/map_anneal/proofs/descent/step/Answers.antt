use Rattle.std.proofs.Common.{◌∙◌, sym, subst}
use Rattle.std.proofs.lemmas.Bool.{false≢true}
use Rattle.virt_topo.specs.declared.mapping.Mapping.{Mapping}
use Rattle.map_anneal.specs.declared.priced.Priced.{Priced}
use Rattle.map_anneal.specs.Sought.{IsNodeMap, LocallyBest}
use Rattle.map_anneal.specs.Searches.{sought_of, IsPriced}
use Rattle.map_anneal.specs.Noted.{IsKnown}
use Rattle.map_anneal.proofs.descent.step.Goals as goal

pub cheaper_neighbour-requires-clause-known : goal.cheaper_neighbour-requires-clause-known
cheaper_neighbour-requires-clause-known g c = c.requires.known

pub returns-then-not-branch-clause-tried : goal.returns-then-not-branch-clause-tried
returns-then-not-branch-clause-tried g c = c.in_ok-cheaper_neighbour.ensures.tried

pub returns-then-not-branch-clause-lowest : goal.returns-then-not-branch-clause-lowest
returns-then-not-branch-clause-lowest g c = c.requires.lowest ∙ (λ j. record { mapping = sym (c.in_ok-cheaper_neighbour.ensures.same c.if-not-branch.true) j; cost = sym (c.in_ok-cheaper_neighbour.ensures.same_cost c.if-not-branch.true) j })

pub returns-then-not-branch-clause-known : goal.returns-then-not-branch-clause-known
returns-then-not-branch-clause-known g c =
    let s = sought_of c.args.search.now c.args.rule.now.number in
    subst (λ (y : Mapping). IsKnown s y c.cheaper_neighbour.new.known) (sym (c.in_ok-cheaper_neighbour.ensures.same c.if-not-branch.true)) c.in_ok-cheaper_neighbour.ensures.known

pub returns-then-not-branch-clause-none : goal.returns-then-not-branch-clause-none
returns-then-not-branch-clause-none g c = λ is.
    let s = sought_of c.args.search.now c.args.rule.now.number in
    subst (LocallyBest s) (sym (c.in_ok-cheaper_neighbour.ensures.same c.if-not-branch.true)) (c.in_ok-cheaper_neighbour.ensures.none c.if-not-branch.true)

pub returns-then-not-branch-clause-cheaper : goal.returns-then-not-branch-clause-cheaper
returns-then-not-branch-clause-cheaper g c = λ is. absurd (false≢true is)

pub returns-then-not-branch-clause-same : goal.returns-then-not-branch-clause-same
returns-then-not-branch-clause-same g c = λ is. c.in_ok-cheaper_neighbour.ensures.same_cost c.if-not-branch.true

pub taken-requires-clause-last : goal.taken-requires-clause-last
taken-requires-clause-last g c =
    let s = sought_of c.args.search.now c.args.rule.now.number in
    let t = c.requires.at in
    subst (IsPriced s) (sym c.requires.lowest) (record { node_map = record { choice = t.state.state.choice; feasible = t.state.mapped }; cost = t.cost })

pub follow-requires-clause-last : goal.follow-requires-clause-last
follow-requires-clause-last g c =
    let s = sought_of c.args.search.now c.args.rule.now.number in
    let t = c.requires.at in
    subst (λ (p : Priced). IsNodeMap s p.mapping) (sym c.requires.lowest) (record { choice = t.state.state.choice; feasible = t.state.mapped })

pub follow-requires-clause-next : goal.follow-requires-clause-next
follow-requires-clause-next g c =
    let s = sought_of c.args.search.now c.args.rule.now.number in
    let t = c.in_ok-cheaper_neighbour.ensures.tried in
    subst (λ (p : Priced). IsNodeMap s p.mapping) (sym c.in_ok-next.ensures) (record { choice = t.state.state.choice; feasible = t.state.mapped })

pub follow-requires-clause-known : goal.follow-requires-clause-known
follow-requires-clause-known g c =
    let s = sought_of c.args.search.now c.args.rule.now.number in
    subst (λ (p : Priced). IsKnown s p.mapping c.cheaper_neighbour.new.known) (sym c.requires.lowest) c.in_ok-cheaper_neighbour.ensures.known

pub returns-clause-tried : goal.returns-clause-tried
returns-clause-tried g c = c.in_ok-cheaper_neighbour.ensures.tried

pub returns-clause-lowest : goal.returns-clause-lowest
returns-clause-lowest g c = c.in_ok-next.ensures

pub returns-clause-known : goal.returns-clause-known
returns-clause-known g c =
    let s = sought_of c.args.search.now c.args.rule.now.number in
    subst (λ (p : Priced). IsKnown s p.mapping c.follow.new.self) c.in_ok-next.ensures c.in_ok-follow.ensures

pub returns-clause-cheaper : goal.returns-clause-cheaper
returns-clause-cheaper g c = λ is. c.in_ok-cheaper_neighbour.ensures.cheaper c.if-not-branch.false

pub returns-clause-same : goal.returns-clause-same
returns-clause-same g c = λ is. absurd (false≢true (sym is))

pub returns-clause-none : goal.returns-clause-none
returns-clause-none g c = λ is. absurd (false≢true (sym is))
