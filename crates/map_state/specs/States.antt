-- THE MAP STATE: a node map, and what is kept of it.
use Rattle.std.specs.Prelude.{◌≡◌, ◌++◌, ℕ, List, [], filter, Some, None, IfSome}
use Rattle.lab_base.specs.declared.ids.IfaceId.{IfaceId}
use Rattle.phys_lab.specs.Labs.{Lab}
use Rattle.lab_model.specs.Rules.{Laid}
use Rattle.lab_model.specs.Shapes.{Place, IsShaped}
use Rattle.trunk_sums.specs.declared.made.Change.{Change}
use Rattle.trunk_sums.specs.declared.sums.EndRow.{EndRow}
use Rattle.trunk_sums.specs.Summed.{IsSummed}
use Rattle.node_maps.specs.declared.ends.End.{End}
use Rattle.node_maps.specs.declared.ifaces.Given.{Given}
use Rattle.node_maps.specs.NodeMaps.{candidates, IsChoice, node_map, plugs_from}
use Rattle.node_maps.specs.Indexed.{Marks}
use Rattle.node_maps.specs.Moved.{AlikeBut}
use Rattle.map_state.specs.declared.search.Search.{Search}
use Rattle.map_state.specs.declared.state.MapState.{MapState}
use Rattle.map_state.specs.Nodes.{is_on, numbers_of, changes_of}
use Rattle.map_state.specs.Hosted.{IsHosting}
use Rattle.map_state.specs.Spare.{AreSpare}

-- nothing is given
pub record IsIdle (lab : Lab) (x : Given) : Type 0 where
  pub marks : Marks lab x []

-- something is given
pub record IsGiving (lab : Lab) (x : Given) : Type 0 where
  pub had : List Laid
  pub marks : Marks lab x had

-- the ends on node n get these plugs, which are noted as changes after the earlier ones
pub record IsNoted (lab : Lab) (rows : List EndRow) (es : List End) (places : List Place) (n : ℕ) (earlier later : List Change) : Type 0 where
  pub plugs : List IfaceId
  pub given : plugs_from lab places (filter (is_on places n) es) ≡ Some plugs
  pub noted : later ≡ earlier ++ changes_of rows (numbers_of 0 (is_on places n) es) plugs

-- a place for each virtual node and a plug for each end, with what is kept of them; a plug's node need not be its end's. The sums may rest where no trunk can be filled
pub record IsMapState (x : Search) (b : MapState) : Type 0 where
  pub choice : IsChoice (candidates x.mapper.lab.now x.mapper.free.now x.mapper.wiring.now) b.mapping.places
  pub shaped : IsShaped x.mapper.lab.now x.mapper.wiring.now b.mapping
  pub hosting : IsHosting x.mapper.lab.now x.mapper.wiring.now b.mapping b.hosting
  pub summed : IfSome b.sums (IsSummed x.mapper.lab.now x.mapper.wiring.now b.mapping.plugs)
  pub spare : b.sums ≡ None → AreSpare x.mapper.lab.now x.mapper.free.now x.mapper.wiring.now
  pub idle : IsIdle x.mapper.lab.now b.given

-- a feasible node map
pub record IsFeasibleState (x : Search) (b : MapState) : Type 0 where
  pub state : IsMapState x b
  pub mapped : node_map x.mapper.lab.now x.mapper.free.now x.mapper.wiring.now b.mapping.places ≡ Some b.mapping

-- these plugs are those of a node map whose places differ from these on two nodes alone
pub record Was (x : Search) (places : List Place) (plugs : List IfaceId) (a b : ℕ) (last : List Place) : Type 0 where
  pub mapped : node_map x.mapper.lab.now x.mapper.free.now x.mapper.wiring.now last ≡ Some (record { places = last; plugs = plugs })
  pub choice : IsChoice (candidates x.mapper.lab.now x.mapper.free.now x.mapper.wiring.now) last
  pub alike : AlikeBut a b places last

-- the ends on two nodes get these plugs, noted as changes
pub record IsPlanned (x : Search) (places : List Place) (a b : ℕ) (changes : List Change) : Type 0 where
  pub one : List IfaceId
  pub other : List IfaceId
  pub first : plugs_from x.mapper.lab.now places (filter (is_on places a) x.mapper.ends.now) ≡ Some one
  pub second : plugs_from x.mapper.lab.now places (filter (is_on places b) x.mapper.ends.now) ≡ Some other
  pub noted : changes ≡ changes_of x.table.now.rows.items (numbers_of 0 (is_on places a) x.mapper.ends.now) one ++ changes_of x.table.now.rows.items (numbers_of 0 (is_on places b) x.mapper.ends.now) other
