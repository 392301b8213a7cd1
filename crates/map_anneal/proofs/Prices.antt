-- Maps with their costs.
use Rattle.virt_topo.specs.declared.mapping.Mapping.{Mapping}
use Rattle.virt_topo.specs.Soundness.{IsSound}
use Rattle.lab_model.specs.Shapes.{IsShaped}
use Rattle.cost_rule.specs.declared.rule.RuleNumber.{RuleNumber}
use Rattle.node_maps.proofs.MapLaws.{choice_within, mapped_shaped}
use Rattle.map_state.specs.declared.search.Search.{Search}
use Rattle.map_anneal.specs.declared.tried.Tried.{Tried}
use Rattle.map_anneal.specs.Sought.{Sought, IsNodeMap}
use Rattle.map_anneal.specs.Searches.{sought_of, priced_by, IsPriced, IsTried}

-- what is tried is a feasible node map with its cost
pub priced_tried : (search : Search) (number : RuleNumber) (x : Tried) → IsTried search number x → IsPriced (sought_of search number) (priced_by x)
priced_tried search number x is = record { node_map = record { choice = is.state.state.choice; feasible = is.state.mapped }; cost = is.cost }

-- a feasible node map is shaped
pub map_shaped : (s : Sought) (m : Mapping) → IsSound s.wiring → IsNodeMap s m → IsShaped s.lab s.wiring m
map_shaped s m sound is =
    let within = choice_within s.lab s.free s.wiring m.places is.choice in
    mapped_shaped s.lab s.free s.wiring m.places m sound within.placed within.are is.feasible
