-- Virtual nodes that are placed one after another.
use Rattle.std.specs.Prelude.{◌≡◌, ◌<◌, ◌≤◌, ◌++◌, ◌∷◌, [], ℕ, List, true, length, map, slice_index_or}
use Rattle.std.specs.Option.{is_some}
use Rattle.lab_model.specs.Shapes.{Place, node_at}
use Rattle.lab_model.specs.Rules.{number_of}
use Rattle.node_maps.specs.NodeMaps.{plugs_of}
use Rattle.map_state.specs.declared.placing.Placing.{Placing}
use Rattle.map_state.specs.declared.search.Search.{Search}
use Rattle.map_state.specs.States.{IsIdle}
use Rattle.map_state.specs.Hosted.{hosted_at}

-- places of the first virtual nodes, where the interface rule serves all their ends, with what is kept of them
pub record IsPlacing (x : Search) (p : Placing) : Type 0 where
  pub within : length p.places.items ≤ length x.mapper.wiring.now.nodes
  pub hosts : p.hosts.items ≡ map (λ (q : Place). q.0.0) p.places.items
  pub one_each : length p.hosted.items ≡ length x.mapper.lab.now.nodes
  pub hosted : (n : ℕ) → n < length x.mapper.lab.now.nodes → slice_index_or p.hosted.items n 0 ≡ hosted_at p.places.items n
  pub served : is_some (plugs_of x.mapper.lab.now x.mapper.wiring.now p.places.items) ≡ true
  pub idle : IsIdle x.mapper.lab.now p.given

-- the same, and after them the next virtual node at place q, which isn't counted on its node yet; one at least may have its type there
pub record IsTrying (x : Search) (q : Place) (p : Placing) : Type 0 where
  pub earlier : List Place
  pub places : p.places.items ≡ earlier ++ q ∷ []
  pub more : length earlier < length x.mapper.wiring.now.nodes
  pub node : q.0.0 < length x.mapper.lab.now.nodes
  pub typed : 1 ≤ number_of (node_at x.mapper.lab.now q.0).types q.1
  pub hosts : p.hosts.items ≡ map (λ (r : Place). r.0.0) p.places.items
  pub one_each : length p.hosted.items ≡ length x.mapper.lab.now.nodes
  pub hosted : (n : ℕ) → n < length x.mapper.lab.now.nodes → slice_index_or p.hosted.items n 0 ≡ hosted_at earlier n
  pub served : is_some (plugs_of x.mapper.lab.now x.mapper.wiring.now earlier) ≡ true
  pub idle : IsIdle x.mapper.lab.now p.given
