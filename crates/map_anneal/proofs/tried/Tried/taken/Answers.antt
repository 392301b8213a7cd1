use Rattle.std.proofs.Common.{◌≡◌, ℕ, ◌∙◌, sym, ap, subst}
use Rattle.virt_topo.specs.declared.mapping.Mapping.{Mapping}
use Rattle.lab_model.specs.Shapes.{IsShaped}
use Rattle.map_anneal.specs.Sought.{price}
use Rattle.map_anneal.specs.Searches.{sought_of}
use Rattle.map_anneal.proofs.Prices.{map_shaped}
use Rattle.map_anneal.proofs.tried.Tried.taken.Goals as goal

pub ask_step-cost-requires-clause-from : goal.ask_step-cost-requires-clause-from
ask_step-cost-requires-clause-from g c =
    map_shaped (sought_of c.args.search.now c.args.rule.now.number) c.args.last.now.mapping c.requires.search.mapper.sound c.requires.last.node_map

pub ask_step-cost-requires-clause-to : goal.ask_step-cost-requires-clause-to
ask_step-cost-requires-clause-to g c =
    let x = c.args.search.now.mapper in
    subst (λ (m : Mapping). IsShaped x.lab.now x.wiring.now m) (sym c.in_ok-mapping.ensures) c.requires.tried.state.state.shaped

pub returns : goal.returns
returns g c =
    let s = sought_of c.args.search.now c.args.rule.now.number in
    let copy : c.in_ok-mapping.mapping ≡ c.args.self.now.state.mapping = c.in_ok-mapping.ensures in
    let cost : ◌≡◌ {A = ℕ} c.ask_step-cost.result c.args.self.now.cost = c.ask_step-cost.ensures ∙ ap (price s) copy ∙ sym c.requires.tried.cost in
    (λ j. record { mapping = copy j; cost = cost j })
