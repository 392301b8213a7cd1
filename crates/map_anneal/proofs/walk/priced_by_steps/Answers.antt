use Rattle.std.proofs.Common.{◌≡◌, ◌∙◌, ℕ, sym}
use Rattle.map_anneal.specs.Searches.{sought_of}
use Rattle.map_anneal.proofs.Prices.{map_shaped}
use Rattle.map_anneal.proofs.walk.priced_by_steps.Goals as goal

pub ask_step-cost-requires-clause-from : goal.ask_step-cost-requires-clause-from
ask_step-cost-requires-clause-from g c = map_shaped (sought_of c.args.search.now c.args.rule.now.number) c.args.start.now c.requires.search.mapper.sound c.requires.start

pub ask_step-cost-requires-clause-to : goal.ask_step-cost-requires-clause-to
ask_step-cost-requires-clause-to g c = map_shaped (sought_of c.args.search.now c.args.rule.now.number) c.args.best.mapping c.requires.search.mapper.sound c.requires.best.node_map

pub returns : goal.returns
returns g c =
    let cost : ◌≡◌ {A = ℕ} c.ask_step-cost.result c.args.best.cost = c.ask_step-cost.ensures ∙ sym c.requires.best.cost in
    (λ j. record { mapping = c.args.best.mapping; cost = cost j })
