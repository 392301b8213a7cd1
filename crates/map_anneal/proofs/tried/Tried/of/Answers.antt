use Rattle.std.proofs.Common.{◌≡◌, ◌∙◌, Some, sym, ap, subst}
use Rattle.std.specs.Prelude.{is_some}
use Rattle.std.proofs.lemmas.Bool.{false≢true}
use Rattle.virt_topo.specs.declared.mapping.Mapping.{Mapping}
use Rattle.node_maps.specs.NodeMaps.{node_map}
use Rattle.map_anneal.specs.Sought.{price}
use Rattle.map_anneal.specs.Searches.{sought_of}
use Rattle.map_anneal.proofs.Prices.{map_shaped}
use Rattle.map_anneal.proofs.tried.Tried.of.Goals as goal

pub ask-cost-requires-clause-shaped : goal.ask-cost-requires-clause-shaped
ask-cost-requires-clause-shaped g c =
    map_shaped (sought_of c.args.search.now c.args.rule.now.number) c.args.start.now c.requires.search.mapper.sound c.requires.start

pub returns-clause-tried : goal.returns-clause-tried
returns-clause-tried g c = let x = c.args.search.now.mapper in record {
  state = record {
    state = c.rest-ignores_uses.ensures.state;
    mapped = subst (λ (y : Mapping). node_map x.lab.now x.free.now x.wiring.now y.places ≡ Some y) (sym c.rest-ignores_uses.ensures.mapping) c.in_ok-state.ensures.state.mapped;
  };
  none = c.rest-ignores_uses.ensures.back ∙ c.in_ok-state.ensures.none;
  cost = c.ask-cost.ensures ∙ ap (price (sought_of c.args.search.now c.args.rule.now.number)) (sym (c.rest-ignores_uses.ensures.mapping ∙ c.in_ok-state.ensures.start));
  resting = c.rest-ignores_uses.ensures.resting;
}

pub rest-ignores_uses-requires-clause-resting : goal.rest-ignores_uses-requires-clause-resting
rest-ignores_uses-requires-clause-resting g c = λ none. absurd (false≢true (sym (ap is_some none) ∙ c.in_ok-state.ensures.summed))

pub returns-clause-start : goal.returns-clause-start
returns-clause-start g c = c.rest-ignores_uses.ensures.mapping ∙ c.in_ok-state.ensures.start
