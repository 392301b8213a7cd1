-- The searches of the code: what they go by, and the maps at hand.
use Rattle.std.specs.Prelude.{◌≡◌, [], None, map}
use Rattle.phys_lab.specs.Labs.{Lab}
use Rattle.phys_lab.specs.declared.free.Free.{Free}
use Rattle.virt_topo.specs.declared.wiring.Wiring.{Wiring}
use Rattle.cost_rule.specs.declared.rule.RuleNumber.{RuleNumber}
use Rattle.cost_rule.specs.Parts.{HangsOnNoUses}
use Rattle.node_maps.specs.NodeMaps.{candidates as listed_in, ends_of}
use Rattle.node_maps.specs.Indexed.{IsIndex}
use Rattle.node_maps.specs.Rooms.{room_of}
use Rattle.map_state.specs.Tables.{IsTableOf}
use Rattle.map_state.specs.States.{IsFeasibleState}
use Rattle.map_anneal.specs.declared.priced.Priced.{Priced}
use Rattle.map_state.specs.declared.search.Search.{Search}
use Rattle.map_anneal.specs.declared.prepared.Prepared.{Prepared}
use Rattle.map_anneal.specs.declared.tried.Tried.{Tried}
use Rattle.map_anneal.specs.Sought.{Sought, sought, price, IsNodeMap}

-- a feasible node map with its cost
pub record IsPriced (s : Sought) (p : Priced) : Type 0 where
  pub node_map : IsNodeMap s p.mapping
  pub cost : p.cost ≡ price s p.mapping

-- what is sought where moves are tried
abbrev pub sought_of : Search → RuleNumber → Sought
sought_of x number = sought x.mapper.lab.now x.mapper.free.now x.mapper.wiring.now number

-- the candidates, their rooms, the ends, the interfaces by node and the tables are those of the wiring on what is free of the lab
pub record IsPrepared (lab : Lab) (free : Free) (w : Wiring) (x : Prepared) : Type 0 where
  pub candidates : x.candidates ≡ listed_in lab free w
  pub rooms : x.rooms ≡ map (map (room_of lab)) x.candidates
  pub ends : x.ends.items ≡ ends_of w.segments
  pub ifaces : IsIndex lab x.ifaces
  pub table : IsTableOf lab w x.table

-- the map at hand with its cost
abbrev pub priced_by : Tried → Priced
priced_by x = record { mapping = x.state.mapping; cost = x.cost }

-- a feasible node map with what is kept of it, and its cost; its sums rest only where the costs hang on no uses
pub record IsTried (search : Search) (number : RuleNumber) (x : Tried) : Type 0 where
  pub state : IsFeasibleState search x.state
  pub none : x.state.back.items ≡ []
  pub cost : x.cost ≡ price (sought_of search number) x.state.mapping
  pub resting : x.state.sums ≡ None → HangsOnNoUses number
